use Rattle.std.proofs.Common.{◌≡◌, take}
use Rattle.mesa_types.proofs.typed_copy.copy_strings.Given as goal

abbrev pub invariant-loop-text : goal.invariant-loop-text
invariant-loop-text l = l.copy ≡ take l.text-index l.strings
