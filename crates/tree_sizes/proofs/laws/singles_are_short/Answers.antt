use Rattle.tree_sizes.proofs.Trees as own
use Rattle.tree_sizes.proofs.laws.singles_are_short.Goals as goal

pub returns : goal.returns
returns c = own.singles_are_short
