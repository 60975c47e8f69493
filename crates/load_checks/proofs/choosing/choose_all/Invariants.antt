-- What is chosen so far.
use Rattle.std.proofs.Common.{◌≡◌, length, map, take}
use Rattle.load_checks.specs.Choosing.{choices_shown, choice_of}
use Rattle.load_checks.specs.Turns.{part_of}
use Rattle.load_checks.proofs.choosing.choose_all.Given as goal

abbrev pub invariant-loop-wanted : goal.invariant-loop-wanted
invariant-loop-wanted l = record {
  long : length l.chosen.items ≡ l.wanted-index;
  are : choices_shown l.chosen.items ≡ map (choice_of (part_of l.turn)) (take l.wanted-index l.wanted-items);
}
