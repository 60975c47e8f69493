use Rattle.std.proofs.Common.{◌≡◌, ◌++◌, flat_map, take}
use Rattle.listing_rules.specs.Objects.{use_line}
use Rattle.listing_writers.proofs.objects.put_uses.Given as goal

abbrev pub invariant-used : goal.invariant-used
invariant-used l = l.out ≡ l.fn.out ++ flat_map (use_line l.items) (take l.number-index l.used)
