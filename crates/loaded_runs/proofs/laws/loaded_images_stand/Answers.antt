use Rattle.loaded_runs.proofs.Running.{images_stand}
use Rattle.loaded_runs.proofs.laws.loaded_images_stand.Goals as goal

pub returns : goal.returns
returns c = images_stand
