use Rattle.checked_texts.proofs.Ones.{programs}
use Rattle.checked_texts.proofs.laws.programs_come_to_one.Goals as goal

pub returns : goal.returns
returns c = programs
