use Rattle.signal_survey.specs.Signals.{ArePreceding}
use Rattle.signal_survey.proofs.signals.add_own.Given as goal

abbrev pub invariant-loop-number : goal.invariant-loop-number
invariant-loop-number l = ArePreceding l.image l.instance l.number l.signals
