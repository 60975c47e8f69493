use Rattle.config_rules.proofs.Made.{trees_are_in_order}
use Rattle.config_rules.proofs.laws.trees_are_in_order.Goals as goal

pub returns : goal.returns
returns c = trees_are_in_order
