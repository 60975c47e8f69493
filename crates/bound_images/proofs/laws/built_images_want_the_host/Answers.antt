use Rattle.bound_images.proofs.Running.{images_want_the_host}
use Rattle.bound_images.proofs.laws.built_images_want_the_host.Goals as goal

pub returns : goal.returns
returns c = images_want_the_host
