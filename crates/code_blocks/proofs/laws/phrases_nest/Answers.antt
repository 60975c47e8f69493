use Rattle.code_blocks.proofs.laws.phrases_nest.Goals as goal
use Rattle.code_blocks.proofs.Nesting.{phrases_nest}

pub returns : goal.returns
returns c = phrases_nest
