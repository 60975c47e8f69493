-- What is noted so far, and then the rest, is all.
use Rattle.std.proofs.Common.{◌≡◌, drop}
use Rattle.load_checks.specs.Wanting.{IsIndexed, entries_shown, noted_in}
use Rattle.load_checks.proofs.wanting.note_image.Given as goal

abbrev pub invariant-loop-wanted : goal.invariant-loop-wanted
invariant-loop-wanted l = record {
  done : noted_in (entries_shown l.wanting.entries.items) (drop l.wanted-index l.wanted-items) ≡ noted_in (entries_shown l.initial.wanting.entries.items) l.wanted-items;
  indexed : IsIndexed l.wanting;
}
