use Rattle.linked_programs.proofs.Building.{built}
use Rattle.linked_programs.proofs.laws.linked_images_are_built.Goals as goal

pub returns : goal.returns
returns c = built
