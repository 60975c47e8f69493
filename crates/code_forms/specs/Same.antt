-- Codes that differ in the depths alone count as the same (rule of this project).
use Rattle.std.specs.Prelude.{◌≡◌, List, map}
use Rattle.code_forms.specs.declared.module_code.CodeEntry.{CodeEntry}
use Rattle.code_forms.specs.declared.module_code.CodeProcedure.{CodeProcedure}
use Rattle.code_forms.specs.declared.module_code.ModuleCode.{ModuleCode}

-- with no depth beside it
abbrev pub bare_entry : CodeEntry → CodeEntry
bare_entry e = record { at = e.at; depth = 0; instruction = e.instruction }

abbrev pub with_code : CodeProcedure → List CodeEntry → CodeProcedure
with_code p code = record { name = p.name; args = p.args; results = p.results; frame = p.frame; depth = p.depth; code = code; phrases = p.phrases }

abbrev pub bare_procedure : CodeProcedure → CodeProcedure
bare_procedure p = with_code p (map bare_entry p.code)

abbrev pub bare : List CodeProcedure → List CodeProcedure
bare procedures = map bare_procedure procedures

pub record IsSameCode (a b : ModuleCode) : Type 0 where
  pub name : a.name ≡ b.name
  pub global_words : a.global_words ≡ b.global_words
  pub signals : a.signals ≡ b.signals
  pub strings : a.strings ≡ b.strings
  pub links : a.links ≡ b.links
  pub procedures : bare a.procedures ≡ bare b.procedures
