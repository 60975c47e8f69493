use Rattle.signal_survey.specs.Signals.{ArePreceding}
use Rattle.signal_survey.proofs.signals.signals_of.Given as goal

abbrev pub invariant-loop-instance : goal.invariant-loop-instance
invariant-loop-instance l = ArePreceding l.image l.instance 0 l.signals
