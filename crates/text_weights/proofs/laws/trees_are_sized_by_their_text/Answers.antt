use Rattle.text_weights.proofs.laws.trees_are_sized_by_their_text.Goals as goal
use Rattle.text_weights.proofs.LawProofs as own

pub returns : goal.returns
returns c = own.trees_are_sized_by_their_text
