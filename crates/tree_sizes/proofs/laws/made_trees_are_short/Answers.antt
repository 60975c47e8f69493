use Rattle.tree_sizes.proofs.Trees as own
use Rattle.tree_sizes.proofs.laws.made_trees_are_short.Goals as goal

pub returns : goal.returns
returns c = own.made_trees_are_short
