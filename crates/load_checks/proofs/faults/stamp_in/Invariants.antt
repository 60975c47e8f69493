-- None so far offers it.
use Rattle.std.proofs.Common.{◌≡◌, drop}
use Rattle.load_checks.specs.Choosing.{stamp_in}
use Rattle.load_checks.proofs.faults.stamp_in.Given as goal

abbrev pub invariant-loop-offer : goal.invariant-loop-offer
invariant-loop-offer l = stamp_in l.image l.wanted (drop l.offer-index l.offer-items) ≡ stamp_in l.image l.wanted l.offer-items
