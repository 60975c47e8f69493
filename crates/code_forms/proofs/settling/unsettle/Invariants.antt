use Rattle.std.proofs.Common.{◌≡◌}
use Rattle.std.specs.List.{AllWithin}
use Rattle.code_forms.specs.Marks.{unsettled}
use Rattle.code_forms.specs.Routine.{spots}
use Rattle.code_forms.proofs.settling.unsettle.Given as goal

abbrev pub invariant-loop-number : goal.invariant-loop-number
invariant-loop-number l = (spots l.code ≡ spots l.fn.code) × AllWithin (λ e. e.depth ≡ unsettled) l.code 0 l.number
