use Rattle.command_sizes.proofs.Small.{objects_are_small}
use Rattle.command_sizes.proofs.laws.objects_are_small.Goals as goal

pub returns : goal.returns
returns c = objects_are_small c.grounds.ensures
