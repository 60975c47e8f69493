use Rattle.std.proofs.Common.{◌≡◌, map, filter}
use Rattle.std.specs.List.{range_with_len}
use Rattle.include_rules.specs.Stale.{faced, is_stale}
use Rattle.include_checker.proofs.stale.stale.Given as goal

abbrev pub invariant-loop-text : goal.invariant-loop-text
invariant-loop-text l = l.numbers ≡ filter (is_stale (map faced l.files)) (range_with_len 0 l.text)
