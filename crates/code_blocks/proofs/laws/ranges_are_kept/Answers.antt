use Rattle.code_blocks.proofs.laws.ranges_are_kept.Goals as goal
use Rattle.code_blocks.proofs.RangeRules.{ranges_are_kept}

pub returns : goal.returns
returns c = ranges_are_kept
