use Rattle.survey_code.specs.Around.{AreOver}
use Rattle.survey_code.proofs.Outward.{height}
use Rattle.survey_code.proofs.around.open_from.Given as goal

abbrev pub invariant-outward : goal.invariant-outward
invariant-outward l = AreOver l.table l.count l.at l.outer

abbrev pub decreases-outward : goal.decreases-outward
decreases-outward l = height l.outer
