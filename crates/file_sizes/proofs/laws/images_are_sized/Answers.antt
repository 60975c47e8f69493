use Rattle.file_sizes.proofs.Images as own
use Rattle.file_sizes.proofs.laws.images_are_sized.Goals as goal

pub returns : goal.returns
returns c = own.images_are_sized
