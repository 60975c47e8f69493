use Rattle.linked_programs.proofs.OneTree.{singles_are_of}
use Rattle.linked_programs.proofs.laws.singles_are_of_their_shape.Goals as goal

pub returns : goal.returns
returns c = singles_are_of
