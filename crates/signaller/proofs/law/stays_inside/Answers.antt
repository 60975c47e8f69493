use Rattle.signaller.proofs.Surrounding.{stays_inside}
use Rattle.signaller.proofs.law.stays_inside.Goals as goal

pub returns : goal.returns
returns c = stays_inside
