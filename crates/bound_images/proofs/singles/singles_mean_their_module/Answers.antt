use Rattle.bound_images.proofs.Single.{singles_mean_their_module}
use Rattle.bound_images.proofs.singles.singles_mean_their_module.Goals as goal

pub returns : goal.returns
returns c = singles_mean_their_module
