-- The copy of the module's shape is in order, and has its answer.
use Rattle.mesa_types.specs.Plain.{plain}
use Rattle.linked_programs.proofs.Answering.{one_in_order}
use Rattle.linked_programs.proofs.trees.module_tree_of.Goals as goal

pub single-requires : goal.single-requires
single-requires c = one_in_order (plain c.args.«module».now) c.in_ok-shape.shape c.in_ok-shape.ensures c.requires
