use Rattle.std.proofs.Common.{◌≡◌, ◌++◌, flat_map, take}
use Rattle.listing_writers.proofs.texts.put_each.Given as goal

abbrev pub invariant-parts : goal.invariant-parts
invariant-parts g l = l.out ≡ l.fn.out ++ flat_map g.T.Listed.text (take l.part-index l.parts)
