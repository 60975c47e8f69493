use Rattle.signaller.proofs.Surrounding.{goes_outward}
use Rattle.signaller.proofs.law.goes_outward.Goals as goal

pub returns : goal.returns
returns c = goes_outward
