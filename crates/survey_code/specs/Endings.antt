-- How an ending grows by an instruction that is reached, and what marks tell (rule of this project).
use Rattle.std.specs.Prelude.{◌≡◌, ℕ, List, length, Bool, Some, nat_eq, slice_get, if◌then◌else◌}
use Rattle.code_forms.specs.declared.instruction.Instruction.{Instruction}
use Rattle.code_forms.specs.declared.instruction.Instruction.TheVariants.{ArmEnd, Resume}
use Rattle.code_forms.specs.declared.module_code.CodeEntry.{CodeEntry}
use Rattle.code_forms.specs.declared.module_code.CodeProcedure.{CodeProcedure}
use Rattle.code_forms.specs.declared.module_code.ModuleCode.{ModuleCode}
use Rattle.survey_rules.specs.Reached.{Reached}
use Rattle.survey_code.specs.declared.surveyed.Ending.{Ending}
use Rattle.survey_code.specs.declared.surveyed.Ending.TheVariants.{Stops, Resumes, Passes}
use Rattle.survey_code.specs.Graphs.{IsMarked}

-- by a RESUME of so many words
abbrev pub resumed : Ending → (words : ℕ) → Ending
resumed Stops words = Resumes words
resumed (Resumes others) words = if nat_eq others words then Resumes others else Passes
resumed Passes words = Passes

abbrev pub ending_with : Ending → Instruction → Ending
ending_with ending ArmEnd = Passes
ending_with ending (Resume words) = resumed ending words
ending_with ending _ = ending

-- the marks tell which instructions of the procedure are reached
pub record TellReached (m : ModuleCode) (p : CodeProcedure) (marks : List Bool) : Type 0 where
  pub count : length marks ≡ length p.code
  pub reached : (k : ℕ) (e : CodeEntry) → slice_get p.code k ≡ Some e → IsMarked marks k → Reached m p e.at
  pub all : (k : ℕ) (e : CodeEntry) → slice_get p.code k ≡ Some e → Reached m p e.at → IsMarked marks k
