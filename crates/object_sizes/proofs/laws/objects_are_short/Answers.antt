use Rattle.object_sizes.proofs.Objects as own
use Rattle.object_sizes.proofs.laws.objects_are_short.Goals as goal

pub returns : goal.returns
returns c = own.objects_are_short
