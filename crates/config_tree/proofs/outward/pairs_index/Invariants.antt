use Rattle.std.proofs.Common.{◌≡◌, drop}
use Rattle.check_scopes.specs.Scopes.{over}
use Rattle.check_scopes.specs.Shows.{listed}
use Rattle.config_rules.specs.Exporters.{outside_of}
use Rattle.config_tree.proofs.outward.pairs_index.Given as goal

-- the pairs in the index, and behind them those to come
abbrev pub invariant-loop-pair : goal.invariant-loop-pair
invariant-loop-pair l = over (listed l.index) (outside_of (drop l.pair-index l.pairs)) ≡ outside_of l.pairs
