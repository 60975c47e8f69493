use Rattle.bound_images.proofs.Single.{singles_leave_to_the_host}
use Rattle.bound_images.proofs.singles.singles_leave_to_the_host.Goals as goal

pub returns : goal.returns
returns c = singles_leave_to_the_host
