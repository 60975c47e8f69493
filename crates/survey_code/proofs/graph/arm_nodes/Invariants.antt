use Rattle.std.proofs.Common.{◌≡◌, length}
use Rattle.survey_code.specs.Leads.{BeginBefore}
use Rattle.survey_code.specs.Passings.{EachWith}
use Rattle.survey_code.proofs.graph.arm_nodes.Given as goal

abbrev pub invariant-loop-arm : goal.invariant-loop-arm
invariant-loop-arm l = (length l.row ≡ l.arm-index) × EachWith (λ k arm number. BeginBefore l.code arm.start number) l.arms l.row
