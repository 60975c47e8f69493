use Rattle.command_rules.proofs.Order.{order_is_kept}
use Rattle.command_laws.proofs.laws.order_is_kept.Goals as goal

pub returns : goal.returns
returns c = order_is_kept
