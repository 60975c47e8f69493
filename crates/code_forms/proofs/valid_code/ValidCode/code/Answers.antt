use Rattle.std.proofs.Common.{subst}
use Rattle.code_forms.specs.Valid.{Valid}
use Rattle.code_forms.proofs.valid_code.ValidCode.code.Goals as goal

pub returns-clause-valid : goal.returns-clause-valid
returns-clause-valid c = subst (λ m. Valid m) c.self.view_is c.self.invariant.0
