use Rattle.signaller.proofs.Surrounding.{finds_enabled}
use Rattle.signaller.proofs.law.finds_enabled.Goals as goal

pub returns : goal.returns
returns c = finds_enabled
