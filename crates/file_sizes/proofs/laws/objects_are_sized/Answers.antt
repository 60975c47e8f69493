use Rattle.file_sizes.proofs.Objects as own
use Rattle.file_sizes.proofs.laws.objects_are_sized.Goals as goal

pub returns : goal.returns
returns c = own.objects_are_sized
