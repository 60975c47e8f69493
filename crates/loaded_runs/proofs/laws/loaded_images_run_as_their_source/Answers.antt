use Rattle.loaded_runs.proofs.Running.{loaded_images_run}
use Rattle.loaded_runs.proofs.laws.loaded_images_run_as_their_source.Goals as goal

pub returns : goal.returns
returns c = loaded_images_run
