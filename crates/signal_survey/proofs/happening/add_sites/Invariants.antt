use Rattle.std.proofs.Common.{take}
use Rattle.signal_survey.specs.Adding.{Adds, Of}
use Rattle.signal_survey.specs.Happenings.{SiteHappens}
use Rattle.signal_survey.proofs.happening.add_sites.Given as goal

abbrev pub invariant-loop-site : goal.invariant-loop-site
invariant-loop-site l = Adds (Of (SiteHappens l.instance l.procedure) (take l.site-index l.sites)) l.initial.list l.list
