use Rattle.linked_programs.proofs.OneTree.{trees_are_of}
use Rattle.linked_programs.proofs.laws.trees_are_of_their_shapes.Goals as goal

pub returns : goal.returns
returns c = trees_are_of
