use Rattle.checked_texts.proofs.Verdicts.{begins_once}
use Rattle.checked_texts.proofs.laws.texts_begin_once.Goals as goal

pub returns : goal.returns
returns c = begins_once
