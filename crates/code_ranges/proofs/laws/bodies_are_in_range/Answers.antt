use Rattle.code_ranges.proofs.Whole.{bodies_are_in_range}
use Rattle.code_ranges.proofs.laws.bodies_are_in_range.Goals as goal

pub returns : goal.returns
returns c = bodies_are_in_range
