use Rattle.signal_survey.proofs.Listed.{IsListing}
use Rattle.signal_survey.proofs.listing.escaping.Given as goal

abbrev pub invariant-loop-number : goal.invariant-loop-number
invariant-loop-number l = IsListing l.image l.signals l.number l.found l.walk
