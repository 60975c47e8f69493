use Rattle.written_trees.proofs.LawProofs as laws
use Rattle.written_trees.proofs.laws.checked_definitions_are_in_order.Goals as goal

pub returns : goal.returns
returns c = laws.definitions_in_order
