use Rattle.spelled_trees.proofs.Trees.{trees_can_be_spelled}
use Rattle.spelled_trees.proofs.laws.trees_can_be_spelled.Goals as goal

pub returns : goal.returns
returns c = trees_can_be_spelled
