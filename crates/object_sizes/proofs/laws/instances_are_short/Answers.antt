use Rattle.object_sizes.proofs.Instances as own
use Rattle.object_sizes.proofs.laws.instances_are_short.Goals as goal

pub returns : goal.returns
returns c = own.instances_are_short
