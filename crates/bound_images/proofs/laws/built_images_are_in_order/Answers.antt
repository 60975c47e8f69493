use Rattle.bound_images.proofs.Running.{images_are_in_order}
use Rattle.bound_images.proofs.laws.built_images_are_in_order.Goals as goal

pub returns : goal.returns
returns c = images_are_in_order
