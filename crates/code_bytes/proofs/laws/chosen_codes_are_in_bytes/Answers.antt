use Rattle.code_bytes.proofs.Whole.{chosen_codes_are_in_bytes}
use Rattle.code_bytes.proofs.laws.chosen_codes_are_in_bytes.Goals as goal

pub returns : goal.returns
returns c = chosen_codes_are_in_bytes
