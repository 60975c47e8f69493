use Rattle.checked_texts.proofs.Kept.{interfaces}
use Rattle.checked_texts.proofs.laws.defined_interfaces_can_be_spelled.Goals as goal

pub returns : goal.returns
returns c = interfaces c.checked_texts_can_be_spelled.ensures
