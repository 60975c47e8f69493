use Rattle.place_walks.specs.Walks.{left_of}
use Rattle.signal_survey.proofs.Walked.{IsWalking}
use Rattle.signal_survey.proofs.coming.come.Given as goal

abbrev pub invariant-going : goal.invariant-going
invariant-going l = IsWalking l.image l.signal l.round l.walk

abbrev pub decreases-going : goal.decreases-going
decreases-going l = left_of l.round l.walk
