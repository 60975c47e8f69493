use Rattle.std.proofs.Common.{◌≡◌, ◌++◌, length}
use Rattle.config_rules.specs.Components.{names_of}
use Rattle.config_rules.specs.Grown as spec
use Rattle.config_tree.proofs.records.pairs.Given as goal

abbrev pub invariant-pairs : goal.invariant-pairs
invariant-pairs l = l.pairs ++ spec.pairs (names_of l.rest) l.others ≡ spec.pairs (names_of l.inside) l.outside

abbrev pub decreases-pairs : goal.decreases-pairs
decreases-pairs l = length l.rest
