use Rattle.bound_images.proofs.Running.{leave_to_the_host}
use Rattle.bound_images.proofs.laws.images_that_want_the_host_leave_to_it.Goals as goal

pub returns : goal.returns
returns c = leave_to_the_host
