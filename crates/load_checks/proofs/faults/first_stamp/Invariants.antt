-- None so far offers it.
use Rattle.std.proofs.Common.{◌≡◌, drop}
use Rattle.load_checks.specs.Choosing.{first_stamp}
use Rattle.load_checks.proofs.faults.first_stamp.Given as goal

abbrev pub invariant-loop-image : goal.invariant-loop-image
invariant-loop-image l = first_stamp l.wanted (drop l.image-index l.images) ≡ first_stamp l.wanted l.images
