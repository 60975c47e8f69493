-- The endings of arms and what phrases let past, by marks that tell which instructions are reached (rule of this project).
use Rattle.std.specs.Prelude.{◌≡◌, ℕ, List, length, Bool, Some, slice_get}
use Rattle.code_forms.specs.declared.module_code.Arm.{Arm}
use Rattle.code_forms.specs.declared.module_code.CodeProcedure.{CodeProcedure}
use Rattle.code_forms.specs.declared.module_code.ModuleCode.{ModuleCode}
use Rattle.survey_code.specs.declared.surveyed.Ending.{Ending}
use Rattle.survey_code.specs.declared.surveyed.Passing.{Passing}
use Rattle.survey_code.specs.Endings.{TellReached}
use Rattle.survey_code.specs.Sites.{IsEnding, IsPassing}

-- P holds of each of the first list and the one of the second that stands at the same place
abbrev pub EachWith : {A B : Type 0} → (ℕ → A → B → Type 0) → List A → List B → Type 0
EachWith {A} {B} P xs ys = (k : ℕ) (x : A) (y : B) → slice_get xs k ≡ Some x → slice_get ys k ≡ Some y → P k x y

abbrev pub AreEndings : CodeProcedure → (marks : List Bool) → List Arm → List Ending → Type 0
AreEndings p marks arms endings =
    (length endings ≡ length arms) × ((m : ModuleCode) → TellReached m p marks → EachWith (λ k arm ending. IsEnding m p arm ending) arms endings)

abbrev pub ArePassings : CodeProcedure → (marks : List Bool) → List Passing → Type 0
ArePassings p marks passings =
    (length passings ≡ length p.phrases) × ((m : ModuleCode) → TellReached m p marks → EachWith (λ n phrase passing. IsPassing m p n phrase passing) p.phrases passings)
