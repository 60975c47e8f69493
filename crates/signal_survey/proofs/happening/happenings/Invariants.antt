use Rattle.std.proofs.Common.{[]}
use Rattle.signal_survey.specs.Adding.{Adds}
use Rattle.signal_survey.specs.Happenings.{HappensBefore}
use Rattle.signal_survey.proofs.happening.happenings.Given as goal

abbrev pub invariant-loop-instance : goal.invariant-loop-instance
invariant-loop-instance l = Adds (HappensBefore l.image l.instance) [] l.list
