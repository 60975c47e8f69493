use Rattle.config_rules.proofs.Choosing.{items_bind}
use Rattle.config_rules.proofs.laws.items_bind.Goals as goal

pub returns : goal.returns
returns c = items_bind
