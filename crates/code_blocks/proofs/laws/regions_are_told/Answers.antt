use Rattle.code_blocks.proofs.laws.regions_are_told.Goals as goal
use Rattle.code_blocks.proofs.Telling.{regions_are_told}

pub returns : goal.returns
returns c = regions_are_told
