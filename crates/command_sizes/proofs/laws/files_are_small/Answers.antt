use Rattle.command_sizes.proofs.Small.{files_are_small}
use Rattle.command_sizes.proofs.laws.files_are_small.Goals as goal

pub returns : goal.returns
returns c = files_are_small c.grounds.ensures
