use Rattle.std.specs.List.{AllWithin}
use Rattle.code_forms.specs.Ranges.{ProcedureInRange}
use Rattle.code_forms.proofs.building.procedures_in_range.Given as goal

abbrev pub invariant-loop-at : goal.invariant-loop-at
invariant-loop-at l = AllWithin (ProcedureInRange l.signals l.links) l.procedures 0 l.at
