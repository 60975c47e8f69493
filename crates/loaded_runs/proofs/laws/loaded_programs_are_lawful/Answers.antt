use Rattle.loaded_runs.proofs.Running.{programs_are_lawful}
use Rattle.loaded_runs.proofs.laws.loaded_programs_are_lawful.Goals as goal

pub returns : goal.returns
returns c = programs_are_lawful
