use Rattle.survey_code.specs.Listing.{AreSites}
use Rattle.survey_code.proofs.site.sites_of.Given as goal

abbrev pub invariant-loop-number : goal.invariant-loop-number
invariant-loop-number l = AreSites l.procedure l.marks l.number l.sites
