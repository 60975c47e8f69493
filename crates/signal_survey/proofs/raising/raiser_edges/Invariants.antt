use Rattle.std.proofs.Common.{[], take}
use Rattle.signal_survey.specs.Adding.{Adds, Of}
use Rattle.signal_survey.specs.Happenings.{IsRaiser}
use Rattle.signal_survey.proofs.raising.raiser_edges.Given as goal

abbrev pub invariant-loop-it : goal.invariant-loop-it
invariant-loop-it l = Adds (Of (IsRaiser l.image) (take l.it-index l.list)) [] l.edges
