use Rattle.signaller.proofs.Firsts.{finds_first}
use Rattle.signaller.proofs.law.finds_first.Goals as goal

pub returns : goal.returns
returns c = finds_first
