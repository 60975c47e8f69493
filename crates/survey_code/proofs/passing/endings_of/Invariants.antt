use Rattle.std.proofs.Common.{◌≡◌, length}
use Rattle.code_forms.specs.declared.module_code.ModuleCode.{ModuleCode}
use Rattle.survey_code.specs.Endings.{TellReached}
use Rattle.survey_code.specs.Passings.{EachWith}
use Rattle.survey_code.specs.Sites.{IsEnding}
use Rattle.survey_code.proofs.passing.endings_of.Given as goal

abbrev pub invariant-loop-arm : goal.invariant-loop-arm
invariant-loop-arm l =
    (length l.endings ≡ l.arm-index) × ((m : ModuleCode) → TellReached m l.procedure l.marks → EachWith (λ k a e. IsEnding m l.procedure a e) l.arms l.endings)
