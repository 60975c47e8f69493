use Rattle.std.proofs.Common.{◌≡◌, ℕ, List, drop}
use Rattle.check_rules.specs.Parts.{distinct}
use Rattle.check_declared.specs.Naming.{HasNames}
use Rattle.check_declared.proofs.NameLaws.{so_far}
use Rattle.check_declared.proofs.differing.different.Given as goal

abbrev pub invariant-loop-name : goal.invariant-loop-name
invariant-loop-name l = (before : List (List ℕ)) → HasNames l.fn.taken before
    → (distinct before l.names ≡ distinct (so_far before l.names l.name-index) (drop l.name-index l.names)) × HasNames l.taken (so_far before l.names l.name-index)
