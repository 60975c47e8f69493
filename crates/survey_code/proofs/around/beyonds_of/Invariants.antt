use Rattle.std.proofs.Common.{◌≡◌, length}
use Rattle.survey_code.specs.Around.{AreBeyond}
use Rattle.survey_code.proofs.around.beyonds_of.Given as goal

abbrev pub invariant-loop-number : goal.invariant-loop-number
invariant-loop-number l = (length l.beyonds.items ≡ l.number) × AreBeyond l.table l.beyonds.items
