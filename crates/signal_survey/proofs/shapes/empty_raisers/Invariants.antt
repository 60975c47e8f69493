use Rattle.std.proofs.Common.{◌+◌}
use Rattle.signal_survey.specs.Shapes.{HasShape, raisers_width}
use Rattle.signal_survey.proofs.Shaped.{ValidBelow}
use Rattle.signal_survey.proofs.shapes.empty_raisers.Given as goal

abbrev pub invariant-loop-instance : goal.invariant-loop-instance
invariant-loop-instance l = HasShape (raisers_width l.image) (l.instance + 1) l.table × ValidBelow l.image l.instance
