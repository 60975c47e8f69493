use Rattle.std.proofs.Common.{[], take}
use Rattle.signal_survey.specs.Adding.{Adds, Of}
use Rattle.signal_survey.specs.Happenings.{IsCaller}
use Rattle.signal_survey.proofs.calling.caller_edges.Given as goal

abbrev pub invariant-loop-it : goal.invariant-loop-it
invariant-loop-it l = Adds (Of (IsCaller l.image) (take l.it-index l.list)) [] l.edges
