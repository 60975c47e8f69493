use Rattle.std.proofs.Common.{◌≡◌, length}
use Rattle.code_forms.specs.declared.module_code.ModuleCode.{ModuleCode}
use Rattle.survey_code.specs.Endings.{TellReached}
use Rattle.survey_code.specs.Passings.{EachWith}
use Rattle.survey_code.specs.Sites.{IsPassing}
use Rattle.survey_code.proofs.passing.passings_of.Given as goal

abbrev pub invariant-loop-number : goal.invariant-loop-number
invariant-loop-number l =
    (length l.passings ≡ l.number) × ((m : ModuleCode) → TellReached m l.procedure l.marks → EachWith (λ k x y. IsPassing m l.procedure k x y) l.procedure.phrases l.passings)
