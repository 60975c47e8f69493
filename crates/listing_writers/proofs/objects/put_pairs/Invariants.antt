use Rattle.std.proofs.Common.{◌≡◌, ◌++◌, flat_map, take}
use Rattle.listing_rules.specs.Objects.{pair_line}
use Rattle.listing_writers.proofs.objects.put_pairs.Given as goal

abbrev pub invariant-pairs : goal.invariant-pairs
invariant-pairs l = l.out ≡ l.fn.out ++ flat_map (pair_line l.items) (take l.pair-index l.pairs)
