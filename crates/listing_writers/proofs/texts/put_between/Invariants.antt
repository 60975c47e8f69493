use Rattle.std.proofs.Common.{◌≡◌, ◌++◌, map, take}
use Rattle.listing_rules.specs.Lines.{between}
use Rattle.listing_writers.proofs.texts.put_between.Given as goal

abbrev pub invariant-parts : goal.invariant-parts
invariant-parts g l = l.out ≡ l.fn.out ++ between l.mark (map g.T.Listed.text (take l.i l.parts))
