use Rattle.machine_trials.specs.Fitting.{TablesFit}
use Rattle.machine_trials.proofs.ordering.tables_fit.Given as goal

abbrev pub invariant-loop-instance : goal.invariant-loop-instance
invariant-loop-instance l = TablesFit l.image l.instance
