use Rattle.signaller.proofs.Surrounding.{asks_enabled}
use Rattle.signaller.proofs.law.asks_enabled.Goals as goal

pub returns : goal.returns
returns c = asks_enabled
