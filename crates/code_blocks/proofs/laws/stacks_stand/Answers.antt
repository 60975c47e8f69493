use Rattle.code_blocks.proofs.laws.stacks_stand.Goals as goal
use Rattle.code_blocks.proofs.StackRules.{stacks_stand}

pub returns : goal.returns
returns c = stacks_stand
