use Rattle.bound_images.proofs.Running.{programs_are_lawful}
use Rattle.bound_images.proofs.laws.built_programs_are_lawful.Goals as goal

pub returns : goal.returns
returns c = programs_are_lawful
