use Rattle.std.proofs.Common.{◌≡◌}
use Rattle.code_forms.specs.Same.{bare}
use Rattle.code_forms.specs.Valid.{AreValid, HaveDepths}
use Rattle.code_forms.proofs.validation.settle_procedures.Given as goal

abbrev pub invariant-loop-number : goal.invariant-loop-number
invariant-loop-number l =
    (bare l.procedures ≡ bare l.fn.procedures) × AreValid l.globals l.strings l.signals l.links l.fn.procedures l.number
    × HaveDepths l.globals l.strings l.signals l.links l.procedures l.number
