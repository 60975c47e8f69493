use Rattle.loaded_runs.proofs.Running.{images_want_the_host}
use Rattle.loaded_runs.proofs.laws.loaded_images_want_the_host.Goals as goal

pub returns : goal.returns
returns c = images_want_the_host
