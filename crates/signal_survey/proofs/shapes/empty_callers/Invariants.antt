use Rattle.signal_survey.specs.Shapes.{HasShape, callers_width}
use Rattle.signal_survey.proofs.Shaped.{ValidBelow}
use Rattle.signal_survey.proofs.shapes.empty_callers.Given as goal

abbrev pub invariant-loop-instance : goal.invariant-loop-instance
invariant-loop-instance l = HasShape (callers_width l.image) l.instance l.table × ValidBelow l.image l.instance
