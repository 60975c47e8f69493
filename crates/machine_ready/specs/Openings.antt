-- How arms are entered, and which phrase is innermost at an instruction (rule of this project).
use Rattle.std.specs.Prelude.{◌≡◌, ℕ, List, Option, flat_map}
use Rattle.code_forms.specs.declared.module_code.Arm.{Arm}
use Rattle.code_forms.specs.declared.module_code.CodeEntry.{CodeEntry}
use Rattle.code_forms.specs.declared.module_code.Phrase.{Phrase}
use Rattle.code_forms.specs.Routine.{Begins, IsStart, spots}
use Rattle.signaller.specs.Search.{innermost_of}
use Rattle.machine_ready.specs.declared.openings.Opening.{Opening}

-- the arms of a table, as they are numbered
abbrev pub arms_in : List Phrase → List Arm
arms_in phrases = flat_map (λ (p : Phrase). p.arms) phrases

-- an arm is entered at the instruction that begins its region, and its parameters go where it says
pub record IsOpening (code : List CodeEntry) (a : Arm) (o : Opening) : Type 0 where
  pub entry : IsStart (spots code) a.start → Begins (spots code) o.entry a.start
  pub slot : o.slot ≡ a.slot
  pub words : o.words ≡ a.words

-- the number of the innermost phrase at an instruction, if one is enabled there
abbrev pub IsInnermostAt : List Phrase → CodeEntry → Option ℕ → Type 0
IsInnermostAt table e number = number ≡ innermost_of table e.at
