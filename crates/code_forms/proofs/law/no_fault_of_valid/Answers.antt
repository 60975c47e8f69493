use Rattle.code_forms.proofs.NoFault.{valid_has_no_fault}
use Rattle.code_forms.proofs.law.no_fault_of_valid.Goals as goal

pub returns : goal.returns
returns c = valid_has_no_fault
