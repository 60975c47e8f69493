use Rattle.linked_objects.proofs.Filed.{filed_trees_are_in_order}
use Rattle.linked_objects.proofs.laws.filed_trees_are_in_order.Goals as goal

pub returns : goal.returns
returns c = filed_trees_are_in_order
