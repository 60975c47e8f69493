use Rattle.signal_survey.specs.Adding.{Adds}
use Rattle.signal_survey.specs.Happenings.{HappensBelow}
use Rattle.signal_survey.proofs.happening.add_instance.Given as goal

abbrev pub invariant-loop-procedure : goal.invariant-loop-procedure
invariant-loop-procedure l = Adds (HappensBelow l.image l.instance l.procedure) l.initial.list l.list
