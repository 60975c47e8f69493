use Rattle.written_trees.proofs.LawProofs as laws
use Rattle.written_trees.proofs.laws.trees_are_written.Goals as goal

pub returns : goal.returns
returns c = laws.trees_are_written
