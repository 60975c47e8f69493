use Rattle.std.specs.List.{AllWithin}
use Rattle.std.proofs.Common.{◌≤◌, length}
use Rattle.mesa_base.specs.declared.limits.TheConstants.{STRING_BYTES}
use Rattle.code_forms.proofs.building.strings_in_range.Given as goal

abbrev pub invariant-loop-at : goal.invariant-loop-at
invariant-loop-at l = AllWithin (λ s. length s ≤ STRING_BYTES) l.strings 0 l.at
