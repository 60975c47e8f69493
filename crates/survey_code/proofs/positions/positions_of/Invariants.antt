use Rattle.std.proofs.Common.{◌≡◌, length}
use Rattle.survey_code.specs.Around.{ArePositions}
use Rattle.survey_code.proofs.Placing.{OverLater}
use Rattle.survey_code.proofs.positions.positions_of.Given as goal

abbrev pub invariant-loop-entry : goal.invariant-loop-entry
invariant-loop-entry l =
    (length l.positions.items ≡ l.entry-index) × ArePositions l.procedure l.positions.items × OverLater l.procedure l.entry-index l.count l.innermost
