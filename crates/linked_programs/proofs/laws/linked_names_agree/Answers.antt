use Rattle.linked_programs.proofs.Naming.{linked_names_agree}
use Rattle.linked_programs.proofs.laws.linked_names_agree.Goals as goal

pub returns : goal.returns
returns c = linked_names_agree
