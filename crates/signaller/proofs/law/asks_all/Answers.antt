use Rattle.signaller.proofs.Surrounding.{asks_all}
use Rattle.signaller.proofs.law.asks_all.Goals as goal

pub returns : goal.returns
returns c = asks_all
