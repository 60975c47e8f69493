use Rattle.code_blocks.proofs.laws.jumps_are_right.Goals as goal
use Rattle.code_blocks.proofs.SpotRules.{jumps_are_right}

pub returns : goal.returns
returns c = jumps_are_right
