use Rattle.std.specs.List.{AllWithin}
use Rattle.code_forms.specs.Ranges.{SignalInRange}
use Rattle.code_forms.proofs.building.signals_in_range.Given as goal

abbrev pub invariant-loop-at : goal.invariant-loop-at
invariant-loop-at l = AllWithin SignalInRange l.signals 0 l.at
