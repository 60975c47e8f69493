use Rattle.std.proofs.Common.{◌≡◌, ◌++◌, flat_map, take}
use Rattle.listing_writers.specs.Words.{after_blank}
use Rattle.listing_writers.proofs.lines.put_others.Given as goal

abbrev pub invariant-words : goal.invariant-words
invariant-words l = l.out ≡ l.fn.out ++ flat_map after_blank (take l.word-index l.words)
