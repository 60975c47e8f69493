use Rattle.signaller.proofs.Surrounding.{finds_none}
use Rattle.signaller.proofs.law.finds_none.Goals as goal

pub returns : goal.returns
returns c = finds_none
