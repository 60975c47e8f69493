use Rattle.linked_files.proofs.Images.{linked_images_fit}
use Rattle.linked_files.proofs.laws.linked_images_fit.Goals as goal

pub returns : goal.returns
returns c = linked_images_fit
