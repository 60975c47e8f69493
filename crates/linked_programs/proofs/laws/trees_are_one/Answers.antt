use Rattle.linked_programs.proofs.OneTree.{trees_are_one}
use Rattle.linked_programs.proofs.laws.trees_are_one.Goals as goal

pub returns : goal.returns
returns c = trees_are_one
