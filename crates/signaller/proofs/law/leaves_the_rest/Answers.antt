use Rattle.signaller.proofs.Surrounding.{leaves_the_rest}
use Rattle.signaller.proofs.law.leaves_the_rest.Goals as goal

pub returns : goal.returns
returns c = leaves_the_rest
