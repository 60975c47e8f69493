-- The code of a module that is built of its parts (rule of this project).
use Rattle.std.specs.Prelude.{◌≡◌, ℕ, List}
use Rattle.code_forms.specs.declared.module_code.CodeLink.{CodeLink}
use Rattle.code_forms.specs.declared.module_code.CodeProcedure.{CodeProcedure}
use Rattle.code_forms.specs.declared.module_code.CodeSignal.{CodeSignal}
use Rattle.code_forms.specs.declared.module_code.ModuleCode.{ModuleCode}

-- it has these parts, and so it is the one code that has them
pub record HasParts (m : ModuleCode) (name : List ℕ) (globals : ℕ) (signals : List CodeSignal) (strings : List (List ℕ))
    (links : List CodeLink) (procedures : List CodeProcedure) : Type 0 where
  pub same_name : m.name ≡ name
  pub same_global_words : m.global_words ≡ globals
  pub same_signals : m.signals ≡ signals
  pub same_strings : m.strings ≡ strings
  pub same_links : m.links ≡ links
  pub same_procedures : m.procedures ≡ procedures
