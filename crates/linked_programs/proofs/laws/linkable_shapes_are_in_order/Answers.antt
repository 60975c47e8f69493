use Rattle.linked_programs.proofs.InOrder.{in_order}
use Rattle.linked_programs.proofs.laws.linkable_shapes_are_in_order.Goals as goal

pub returns : goal.returns
returns c = in_order
