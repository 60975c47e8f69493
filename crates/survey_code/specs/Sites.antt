-- What a survey takes of a procedure: where signals may come, and what its phrases let past (rule of this project).
use Rattle.std.specs.Prelude.{◌≡◌, ◌≢◌, ◌↔◌, ◌⊎◌, ℕ, true, length, Some, Contains, slice_get}
use Rattle.code_forms.specs.declared.instruction.Instruction.{Instruction}
use Rattle.code_forms.specs.declared.instruction.Instruction.TheVariants.{ArmEnd, Resume}
use Rattle.code_forms.specs.declared.module_code.Arm.{Arm}
use Rattle.code_forms.specs.declared.module_code.CodeProcedure.{CodeProcedure}
use Rattle.code_forms.specs.declared.module_code.ModuleCode.{ModuleCode}
use Rattle.code_forms.specs.declared.module_code.Phrase.{Phrase}
use Rattle.object_files.specs.declared.image.Image.{Image}
use Rattle.signaller.specs.declared.signal_id.SignalId.{SignalId}
use Rattle.machine_rules.specs.Signals.{takes_back}
use Rattle.survey_rules.specs.Escapes.{position_of, position_beyond}
use Rattle.survey_rules.specs.Reached.{Stands, StandsIn}
use Rattle.survey_code.specs.declared.surveyed.Ending.{Ending}
use Rattle.survey_code.specs.declared.surveyed.Ending.TheVariants.{Stops, Resumes, Passes}
use Rattle.survey_code.specs.declared.surveyed.Passing.{Passing}
use Rattle.survey_code.specs.declared.surveyed.Site.{Site}
use Rattle.survey_code.specs.declared.surveyed.Surveyed.{Surveyed}
use Rattle.survey_code.specs.Events.{event_of}

-- the event of an instruction that is reached, at the innermost phrase around it
pub record IsSite (m : ModuleCode) (p : CodeProcedure) (site : Site) : Type 0 where
  pub at : ℕ
  pub instruction : Instruction
  pub stands : Stands m p at instruction
  pub event : event_of instruction ≡ Some site.event
  pub position : site.position ≡ position_of p at

-- ---- how an arm ends

-- Of the instructions of an arm neither an end is reached nor a RESUME; or no end, and RESUMEs that have so many words. Else an end is, or two
-- RESUMEs that have different numbers of words.
abbrev pub EndsBy : (is_reached : Instruction → Type 0) → Ending → Type 0
EndsBy is_reached Stops = (is_reached ArmEnd → ⊥) × ((words : ℕ) → is_reached (Resume words) → ⊥)
EndsBy is_reached (Resumes words) = (is_reached ArmEnd → ⊥) × is_reached (Resume words) × ((others : ℕ) → is_reached (Resume others) → others ≡ words)
EndsBy is_reached Passes = is_reached ArmEnd ⊎ ((words others : ℕ) × is_reached (Resume words) × is_reached (Resume others) × (words ≢ others))

abbrev pub IsEnding : ModuleCode → CodeProcedure → Arm → Ending → Type 0
IsEnding m p arm ending = EndsBy (StandsIn m p arm) ending

-- an arm that ends so lets the signal past no phrase
abbrev pub StopsBy : Image → SignalId → Ending → Type 0
StopsBy image s Stops = Unit {0}
StopsBy image s (Resumes words) = takes_back image s words ≡ true
StopsBy image s Passes = ⊥

-- ---- what is taken of a procedure

-- of the phrase of this number: the one beyond it, and how each of its arms ends
pub record IsPassing (m : ModuleCode) (p : CodeProcedure) (n : ℕ) (phrase : Phrase) (passing : Passing) : Type 0 where
  pub beyond : passing.beyond ≡ position_beyond p n
  pub count : length passing.endings ≡ length phrase.arms
  pub endings : (k : ℕ) (arm : Arm) (ending : Ending) → slice_get phrase.arms k ≡ Some arm → slice_get passing.endings k ≡ Some ending → IsEnding m p arm ending

-- each site of the procedure and no other, and each phrase in order
pub record IsSurveyed (m : ModuleCode) (p : CodeProcedure) (it : Surveyed) : Type 0 where
  pub sites : (site : Site) → Contains it.sites site ↔ IsSite m p site
  pub count : length it.passings ≡ length p.phrases
  pub passings : (n : ℕ) (phrase : Phrase) (passing : Passing) → slice_get p.phrases n ≡ Some phrase → slice_get it.passings n ≡ Some passing
      → IsPassing m p n phrase passing
