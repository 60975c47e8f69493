use Rattle.code_blocks.proofs.laws.regions_fill_the_code.Goals as goal
use Rattle.code_blocks.proofs.Filling.{regions_fill_the_code}

pub returns : goal.returns
returns c = regions_fill_the_code
