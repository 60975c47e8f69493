use Rattle.code_forms.specs.Nesting.{AllStand}
use Rattle.code_forms.specs.Routine.{spots}
use Rattle.code_forms.proofs.catching.first_fallen.Given as goal

abbrev pub invariant-loop-number : goal.invariant-loop-number
invariant-loop-number l = AllStand (spots l.code) l.phrases l.number
