use Rattle.checked_texts.proofs.Verdicts.{have_one_tree}
use Rattle.checked_texts.proofs.laws.texts_have_one_tree.Goals as goal

pub returns : goal.returns
returns c = have_one_tree
