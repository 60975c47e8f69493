-- What a walk finds when it is the first.
use Rattle.std.specs.Prelude.{◌≡◌, ℕ, ◌+◌, List, [], length, Option, None, Some, slice_get}
use Rattle.std.specs.List.{AllZip}
use Rattle.code_forms.specs.declared.module_code.CodeProcedure.{CodeProcedure}
use Rattle.code_forms.specs.declared.module_code.ModuleCode.{ModuleCode}

-- so many marks, each of which is 0
pub record AreFresh (count : ℕ) (marks : List ℕ) : Type 0 where
  pub many : length marks ≡ count
  pub each : (k mark : ℕ) → slice_get marks k ≡ Some mark → mark ≡ 0

-- one for what lies out of the procedure, and one for each phrase
abbrev pub HasFresh : CodeProcedure → List ℕ → Type 0
HasFresh p marks = AreFresh (length p.phrases + 1) marks

-- those of the procedures of an instance
abbrev pub IsFreshRow : Option ModuleCode → List (List ℕ) → Type 0
IsFreshRow None row = row ≡ []
IsFreshRow (Some m) row = AllZip HasFresh m.procedures row
