use Rattle.bound_images.proofs.Single.{singles_are_built}
use Rattle.bound_images.proofs.singles.singles_are_built.Goals as goal

pub returns : goal.returns
returns c = singles_are_built
