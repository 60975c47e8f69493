use Rattle.std.specs.List.{AllWithin}
use Rattle.code_forms.specs.Ranges.{LabelInRange}
use Rattle.code_forms.proofs.building.labels_in_range.Given as goal

abbrev pub invariant-loop-label : goal.invariant-loop-label
invariant-loop-label l = AllWithin (LabelInRange l.signals l.links) l.labels 0 l.label-index
