use Rattle.std.proofs.Common.{[]}
use Rattle.std.specs.List.{AllWithin}
use Rattle.code_forms.specs.Around.{routine_around}
use Rattle.code_forms.specs.Operands.{LabelTakes}
use Rattle.code_forms.proofs.around.Around.all_take.Given as goal

abbrev pub invariant-loop-label : goal.invariant-loop-label
invariant-loop-label l = AllWithin (LabelTakes (routine_around l.self []) l.words) l.labels 0 l.label-index
