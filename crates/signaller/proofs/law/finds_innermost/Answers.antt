use Rattle.signaller.proofs.Surrounding.{finds_innermost}
use Rattle.signaller.proofs.law.finds_innermost.Goals as goal

pub returns : goal.returns
returns c = finds_innermost
