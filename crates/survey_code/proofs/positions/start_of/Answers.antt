use Rattle.std.proofs.Common.{sym, subst}
use Rattle.survey_code.specs.Around.{AreOver}
use Rattle.survey_code.proofs.Outward.{over_before}
use Rattle.survey_code.proofs.positions.start_of.Goals as goal

pub returns-then-begun-count : goal.returns-then-begun-count
returns-then-begun-count c table at h = subst (λ k. AreOver table k at c.args.innermost) (sym c.if-begun-count.true) h

pub returns : goal.returns
returns c table at h = subst (λ o. AreOver table c.args.begun at o) (sym c.phrase_before.ensures) (over_before table c.args.begun at)
