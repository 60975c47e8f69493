use Rattle.machine_ready.proofs.Jumping.{TargetsUpTo}
use Rattle.machine_ready.proofs.targets.targets_of.Given as goal

abbrev pub invariant-loop-entry : goal.invariant-loop-entry
invariant-loop-entry l = TargetsUpTo l.code l.entry-index l.targets
