use Rattle.signal_survey.proofs.Fresh.{IsFreshTable}
use Rattle.signal_survey.proofs.walks.walk_of.Given as goal

abbrev pub invariant-loop-instance : goal.invariant-loop-instance
invariant-loop-instance l = IsFreshTable l.image l.instance l.marks
