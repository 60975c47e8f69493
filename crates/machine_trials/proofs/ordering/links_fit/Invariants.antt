use Rattle.machine_trials.specs.Fitting.{LinksFit}
use Rattle.machine_trials.proofs.ordering.links_fit.Given as goal

abbrev pub invariant-loop-number : goal.invariant-loop-number
invariant-loop-number l = LinksFit l.image l.links l.table l.number
