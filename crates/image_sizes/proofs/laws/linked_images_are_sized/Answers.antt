use Rattle.image_sizes.proofs.Images as own
use Rattle.image_sizes.proofs.laws.linked_images_are_sized.Goals as goal

pub returns : goal.returns
returns c = own.linked_images_are_sized
