use Rattle.checked_texts.proofs.Ones.{definitions}
use Rattle.checked_texts.proofs.laws.definitions_come_to_one.Goals as goal

pub returns : goal.returns
returns c = definitions
