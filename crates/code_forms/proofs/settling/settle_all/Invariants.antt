use Rattle.std.proofs.Common.{◌≡◌}
use Rattle.code_forms.specs.Around.{routine_around}
use Rattle.code_forms.specs.Marks.{Marked}
use Rattle.code_forms.specs.Routine.{spots}
use Rattle.code_forms.specs.Valid.{SpotsAreRight}
use Rattle.code_forms.proofs.settling.settle_all.Given as goal

abbrev pub invariant-loop-number : goal.invariant-loop-number
invariant-loop-number l =
    (spots l.code ≡ spots l.fn.code) × SpotsAreRight (routine_around l.around (spots l.fn.code)) l.number
    × Marked (routine_around l.around (spots l.fn.code)) l.number l.number l.code
