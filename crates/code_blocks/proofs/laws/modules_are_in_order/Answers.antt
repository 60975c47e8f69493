use Rattle.code_blocks.proofs.laws.modules_are_in_order.Goals as goal
use Rattle.code_blocks.proofs.InOrder.{modules_are_in_order}

-- src/laws.rt:16:1
pub returns : goal.returns
returns c = modules_are_in_order
