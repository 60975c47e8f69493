use Rattle.linked_programs.proofs.OneTree.{singles_are_one}
use Rattle.linked_programs.proofs.laws.singles_are_one.Goals as goal

pub returns : goal.returns
returns c = singles_are_one
