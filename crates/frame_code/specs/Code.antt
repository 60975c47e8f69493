-- Which code is that of a typed module (rule of this project).
use Rattle.std.specs.Prelude.{◌≡◌, ℕ, ◌<◌, List, All}
use Rattle.mesa_types.specs.Typed.{Module}
use Rattle.code_forms.specs.declared.module_code.ModuleCode.{ModuleCode}
use Rattle.code_blocks.specs.Laws.{StandFor}
use Rattle.code_blocks.specs.Modules.{Parts, module_code}

abbrev pub parts_of : ModuleCode → Parts
parts_of c = record {
  name = c.name;
  globals = c.global_words;
  signals = c.signals;
  strings = c.strings;
  links = c.links;
  procedures = c.procedures;
}

-- texts are of bytes
abbrev pub AreOfBytes : List (List ℕ) → Type 0
AreOfBytes texts = All (λ text. All (λ b. b < 256) text) texts

-- the parts of the one code that is chosen for the module; so they stand for it, are valid with the depths beside the instructions, keep the
-- ranges of each module's code, and are no longer than a file asks
pub record IsCodeOf (m : Module) (c : ModuleCode) : Type 0 where
  pub chosen : parts_of c ≡ module_code m
  pub stands : StandFor m (parts_of c)
  -- what the type of its strings says
  pub bytes : AreOfBytes c.strings
