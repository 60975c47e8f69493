-- What is noted so far, and then the rest, is all.
use Rattle.std.proofs.Common.{◌≡◌, [], drop}
use Rattle.load_checks.specs.Wanting.{IsIndexed, all_noted, entries_shown}
use Rattle.load_checks.proofs.wanting.still_wanted.Given as goal

abbrev pub invariant-loop-image : goal.invariant-loop-image
invariant-loop-image l = record {
  done : all_noted (entries_shown l.wanting.entries.items) (drop l.image-index l.images) ≡ all_noted [] l.images;
  indexed : IsIndexed l.wanting;
}
