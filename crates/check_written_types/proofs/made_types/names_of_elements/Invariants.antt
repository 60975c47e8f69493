use Rattle.std.proofs.Common.{◌≡◌, take}
use Rattle.check_rules.specs.Parts.{names_of}
use Rattle.check_written_types.proofs.made_types.names_of_elements.Given as goal

abbrev pub invariant-loop-one : goal.invariant-loop-one
invariant-loop-one l = l.names ≡ names_of (take l.one-index l.elements)
