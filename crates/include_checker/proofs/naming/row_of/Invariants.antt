use Rattle.std.proofs.Common.{◌++◌, drop}
use Rattle.std.specs.List.{filter_map}
use Rattle.include_checker.specs.Named.{FindsAs, number_of_item}
use Rattle.include_checker.proofs.naming.row_of.Given as goal

-- the numbers so far, and behind them those to come
abbrev pub invariant-loop-item : goal.invariant-loop-item
invariant-loop-item l = FindsAs (l.row ++ filter_map (number_of_item l.bases) (drop l.item-index l.directory)) (filter_map (number_of_item l.bases) l.directory)
