use Rattle.std.proofs.Common.{◌≡◌, length}
use Rattle.survey_code.specs.Around.{AreParents}
use Rattle.survey_code.proofs.around.parents_of.Given as goal

abbrev pub invariant-loop-number : goal.invariant-loop-number
invariant-loop-number l = (length l.parents.items ≡ l.number) × AreParents l.table l.parents.items
