use Rattle.code_blocks.proofs.laws.jumps_inside_are_right.Goals as goal
use Rattle.code_blocks.proofs.JumpRules.{jumps_inside_are_right}

pub returns : goal.returns
returns c = jumps_inside_are_right
