use Rattle.written_trees.proofs.LawProofs.{names_are_names}
use Rattle.written_trees.proofs.laws.names_of_trees_are_names.Goals as goal

pub returns : goal.returns
returns c = names_are_names
