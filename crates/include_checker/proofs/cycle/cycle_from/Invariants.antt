use Rattle.std.proofs.Common.{length}
use Rattle.include_checker.proofs.Taking.{count_left}
use Rattle.include_checker.proofs.Walking.{Walked}
use Rattle.include_checker.proofs.cycle.cycle_from.Given as goal

abbrev pub invariant-steps : goal.invariant-steps
invariant-steps l = Walked l.names l.taken l.way l.next

abbrev pub decreases-steps : goal.decreases-steps
decreases-steps l = count_left l.way (length l.names)
