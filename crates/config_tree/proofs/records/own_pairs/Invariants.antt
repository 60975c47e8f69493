use Rattle.std.proofs.Common.{◌≡◌, ◌++◌, drop}
use Rattle.config_rules.specs.Components.{names_of}
use Rattle.config_rules.specs.Grown.{pairs}
use Rattle.config_tree.proofs.records.own_pairs.Given as goal

abbrev pub invariant-loop-identifier : goal.invariant-loop-identifier
invariant-loop-identifier l =
    l.pairs ++ pairs (names_of (drop l.identifier-index l.names)) (names_of (drop l.identifier-index l.names)) ≡ pairs (names_of l.names) (names_of l.names)
