use Rattle.spelled_trees.proofs.Trees.{singles_can_be_spelled}
use Rattle.spelled_trees.proofs.laws.singles_can_be_spelled.Goals as goal

pub returns : goal.returns
returns c = singles_can_be_spelled
