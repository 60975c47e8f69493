use Rattle.bound_images.proofs.Running.{images_stand}
use Rattle.bound_images.proofs.laws.built_images_stand.Goals as goal

pub returns : goal.returns
returns c = images_stand
