use Rattle.code_blocks.proofs.laws.operands_are_in_range.Goals as goal
use Rattle.code_blocks.proofs.SpotRules.{operands_are_in_range}

pub returns : goal.returns
returns c = operands_are_in_range
