-- A procedure with what its code may name (rule of this project).
use Rattle.std.specs.Prelude.{◌≡◌, ℕ, ◌+◌, ◌-◌, List, length, map, Bool, true, false, not, Option, Some, None, slice_get}
use Rattle.code_forms.specs.declared.instruction.Instruction.{Instruction}
use Rattle.code_forms.specs.declared.instruction.Instruction.TheVariants.{Jump, JumpBack, Return, Raise, RaiseLink, RaiseHost, ArmEnd, Resume, Leave, LeaveReturn}
use Rattle.code_forms.specs.declared.around.Moved.{Moved}
use Rattle.code_forms.specs.declared.module_code.CodeEntry.{CodeEntry}
use Rattle.code_forms.specs.declared.module_code.CodeKind.{CodeKind}
use Rattle.code_forms.specs.declared.module_code.CodeKind.TheVariants.{Procedure, Signal, Error}
use Rattle.code_forms.specs.declared.module_code.CodeLink.{CodeLink}
use Rattle.code_forms.specs.declared.module_code.CodeProcedure.{CodeProcedure}
use Rattle.code_forms.specs.declared.module_code.CodeSignal.{CodeSignal}
use Rattle.code_forms.specs.declared.module_code.ModuleCode.{ModuleCode}
use Rattle.code_forms.specs.declared.module_code.Phrase.{Phrase}
use Rattle.code_forms.specs.Instructions.{Effect, Fixed, OfProcedure, OfSignal, OfLink, effect_of, bytes_of}

-- an instruction at its offset; codes with the same ones are the same, whatever their depths
pub record Spot : Type 0 where
  pub at : ℕ
  pub instruction : Instruction

abbrev pub spot_of : CodeEntry → Spot
spot_of e = record { at = e.at; instruction = e.instruction }

abbrev pub spots : List CodeEntry → List Spot
spots code = map spot_of code

-- the words that a call takes and puts
abbrev pub words : ℕ → ℕ → Moved
words takes puts = record { takes = takes; puts = puts }

abbrev pub words_of : CodeProcedure → Moved
words_of p = words p.args p.results

-- the globals, strings, signals, links and procedures of the module, and the frame, the room for operands, the code and the
-- phrases of the procedure
pub record Routine : Type 0 where
  pub globals : ℕ
  pub strings : ℕ
  pub signals : List CodeSignal
  pub links : List CodeLink
  pub procedures : List Moved
  pub frame : ℕ
  pub room : ℕ
  pub code : List Spot
  pub phrases : List Phrase

abbrev pub routine_with : ℕ → ℕ → List CodeSignal → List CodeLink → List CodeProcedure → CodeProcedure → Routine
routine_with globals strings signals links procedures p = record {
  globals = globals;
  strings = strings;
  signals = signals;
  links = links;
  procedures = map words_of procedures;
  frame = p.frame;
  room = p.depth;
  code = spots p.code;
  phrases = p.phrases;
}

abbrev pub routine : ModuleCode → CodeProcedure → Routine
routine m p = routine_with m.global_words (length m.strings) m.signals m.links m.procedures p

-- what is not there takes and puts nothing; a link of any kind takes and puts its words
abbrev pub words_there : Option Moved → Moved
words_there None = words 0 0
words_there (Some w) = w

abbrev pub signal_words : Option CodeSignal → Moved
signal_words None = words 0 0
signal_words (Some s) = words s.args s.results

abbrev pub link_words : Option CodeLink → Moved
link_words None = words 0 0
link_words (Some l) = words l.args l.results

abbrev pub effect_words : Routine → Effect → Moved
effect_words r (Fixed takes puts) = words takes puts
effect_words r (OfProcedure k) = words_there (slice_get r.procedures k)
effect_words r (OfSignal k) = signal_words (slice_get r.signals k)
effect_words r (OfLink k) = link_words (slice_get r.links k)

-- the words that an instruction takes and puts
abbrev pub moves : Routine → Instruction → Moved
moves r i = effect_words r (effect_of i)

abbrev pub is_error : CodeKind → Bool
is_error Procedure = false
is_error Signal = false
is_error Error = true

abbrev pub is_error_signal : Option CodeSignal → Bool
is_error_signal None = false
is_error_signal (Some s) = is_error s.kind

abbrev pub is_error_link : Option CodeLink → Bool
is_error_link None = false
is_error_link (Some l) = is_error l.kind

-- the instruction goes on to the next one
abbrev pub goes_on : Routine → Instruction → Bool
goes_on r (Jump target) = false
goes_on r (JumpBack target) = false
goes_on r Return = false
goes_on r (Raise k) = not (is_error_signal (slice_get r.signals k))
goes_on r (RaiseLink k) = not (is_error_link (slice_get r.links k))
goes_on r (RaiseHost fault) = false
goes_on r ArmEnd = false
goes_on r (Resume n) = false
goes_on r (Leave k target) = false
goes_on r (LeaveReturn k) = false
goes_on r _ = true

-- an instruction has this number and begins at this offset
pub record Begins (code : List Spot) (i offset : ℕ) : Type 0 where
  pub spot : Spot
  pub is : slice_get code i ≡ Some spot
  pub at : spot.at ≡ offset

-- an instruction begins at the offset
pub record IsStart (code : List Spot) (offset : ℕ) : Type 0 where
  pub number : ℕ
  pub begins : Begins code number offset

-- the end of the code
abbrev pub end_of : Option Spot → ℕ
end_of None = 0
end_of (Some s) = s.at + bytes_of s.instruction

abbrev pub code_end : List Spot → ℕ
code_end code = end_of (slice_get code (length code - 1))
