use Rattle.code_forms.proofs.OneFault.{one_first_fault}
use Rattle.code_forms.proofs.law.one_first_fault.Goals as goal

pub returns : goal.returns
returns c = one_first_fault
