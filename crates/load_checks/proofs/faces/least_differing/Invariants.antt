-- What is done so far, and then the rest, is all.
use Rattle.std.proofs.Common.{◌≡◌, drop, length}
use Rattle.load_checks.specs.Choosing.{choices_shown}
use Rattle.load_checks.specs.Faces.{lowered_in}
use Rattle.load_checks.proofs.faces.least_differing.Given as goal

abbrev pub invariant-loop-at : goal.invariant-loop-at
invariant-loop-at l =
    lowered_in l.image (choices_shown l.chosen) l.least (drop l.at l.instances) (drop l.at l.image.links)
    ≡ lowered_in l.image (choices_shown l.chosen) (length l.chosen) l.instances l.image.links
