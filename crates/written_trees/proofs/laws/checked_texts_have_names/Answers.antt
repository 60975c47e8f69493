use Rattle.written_trees.proofs.LawProofs as laws
use Rattle.written_trees.proofs.laws.checked_texts_have_names.Goals as goal

pub returns : goal.returns
returns c = laws.texts_have_names
