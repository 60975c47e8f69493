use Rattle.std.specs.List.{AllWithin}
use Rattle.code_forms.specs.Ranges.{ArmInRange}
use Rattle.code_forms.proofs.building.arms_in_range.Given as goal

abbrev pub invariant-loop-at : goal.invariant-loop-at
invariant-loop-at l = AllWithin (ArmInRange l.signals l.links) l.arms 0 l.at
