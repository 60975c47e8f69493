-- The signals that may escape an image, by its code alone: the least relation of these rules (rule of this project).
use Rattle.std.specs.Prelude.{◌≡◌, ◌≢◌, ◌⊎◌, ℕ, true, Option, None, Some, Contains, position, slice_get}
use Rattle.code_forms.specs.declared.instruction.Instruction.{Instruction}
use Rattle.code_forms.specs.declared.instruction.Instruction.TheVariants.{LoadLX, StoreLX, LoadGX, StoreGX, Index, DivI, ModI, DivC, ModC, CheckI, CheckC, StrAt, Call, CallLink, Raise, RaiseLink, RaiseHost, ArmEnd, Resume, DivDI, ModDI, DivDC, ModDC, NarrowI, NarrowC, CheckD}
use Rattle.code_forms.specs.declared.module_code.Arm.{Arm}
use Rattle.code_forms.specs.declared.module_code.CodeProcedure.{CodeProcedure}
use Rattle.code_forms.specs.declared.module_code.ModuleCode.{ModuleCode}
use Rattle.code_forms.specs.declared.module_code.Phrase.{Phrase}
use Rattle.object_files.specs.declared.image.Image.{Image}
use Rattle.object_files.specs.declared.image.Link.TheVariants.{Wanted, To}
use Rattle.signaller.specs.declared.signal_id.SignalId.{SignalId}
use Rattle.signaller.specs.declared.signal_id.SignalId.TheVariants.{Own, BoundsFault, ZeroDivisor, NoInput}
use Rattle.signaller.specs.Search.{search_at, search_from, beyond, fits_signal}
use Rattle.machine_rules.specs.LookUps.{code_of, procedure_of, bound_to, links_of, ReadChar, host_of}
use Rattle.machine_rules.specs.Signals.{takes_back}
use Rattle.machine_rules.specs.Steps.{host_signal}
use Rattle.survey_rules.specs.Reached.{Stands, StandsIn}

-- ---- where a signal comes: at a phrase of a procedure, by its number; or out of the procedure, past all of its phrases

abbrev pub Position : Type 0
Position = Option ℕ

-- the innermost phrase around an offset, past the regions of arms too
abbrev pub position_of : CodeProcedure → (at : ℕ) → Position
position_of p at = (search_at true p.phrases at).phrase

-- the next one outward of a phrase
abbrev pub position_beyond : CodeProcedure → (phrase : ℕ) → Position
position_beyond p n = (search_from (beyond true p.phrases n)).phrase

-- ---- what an instruction may raise by itself

abbrev pub MayPassBounds : Instruction → Type 0
MayPassBounds (LoadLX slot extent words) = Unit {0}
MayPassBounds (StoreLX slot extent words) = Unit {0}
MayPassBounds (LoadGX slot extent words) = Unit {0}
MayPassBounds (StoreGX slot extent words) = Unit {0}
MayPassBounds (Index count size) = Unit {0}
MayPassBounds (CheckI least most) = Unit {0}
MayPassBounds (CheckC least most) = Unit {0}
MayPassBounds StrAt = Unit {0}
MayPassBounds NarrowI = Unit {0}
MayPassBounds NarrowC = Unit {0}
MayPassBounds CheckD = Unit {0}
MayPassBounds _ = ⊥

abbrev pub MayDivide : Instruction → Type 0
MayDivide DivI = Unit {0}
MayDivide ModI = Unit {0}
MayDivide DivC = Unit {0}
MayDivide ModC = Unit {0}
MayDivide DivDI = Unit {0}
MayDivide ModDI = Unit {0}
MayDivide DivDC = Unit {0}
MayDivide ModDC = Unit {0}
MayDivide _ = ⊥

-- an instruction of an instance may raise this signal
pub data MayRaise (image : Image) (instance : ℕ) : Instruction → SignalId → Type 0 where
  own : (k : ℕ) → MayRaise image instance (Raise k) (Own instance k)
  linked : (k j n : ℕ) → bound_to image instance k ≡ Some (To j n) → MayRaise image instance (RaiseLink k) (Own j n)
  wanted : (k w : ℕ) → bound_to image instance k ≡ Some (Wanted w) → MayRaise image instance (RaiseLink k) NoInput
  hosts : (fault : ℕ) (s : SignalId) → host_signal fault ≡ Some s → MayRaise image instance (RaiseHost fault) s
  bounds : (i : Instruction) → MayPassBounds i → MayRaise image instance i BoundsFault
  divides : (i : Instruction) → MayDivide i → MayRaise image instance i ZeroDivisor
  reads : (k w : ℕ) → bound_to image instance k ≡ Some (Wanted w) → host_of image w ≡ Some ReadChar → MayRaise image instance (CallLink k) NoInput

-- ---- what an instruction may call: a procedure of an instance, whose body is run before where it is another one that was not started

pub data Calls (image : Image) (instance : ℕ) : Instruction → (other procedure : ℕ) → Type 0 where
  own : (q : ℕ) → Calls image instance (Call q) instance q
  linked : (k j q : ℕ) → bound_to image instance k ≡ Some (To j q) → Calls image instance (CallLink k) j q

abbrev pub IsRun : (instance other procedure q : ℕ) → Type 0
IsRun instance other procedure q = (q ≡ procedure) ⊎ ((other ≢ instance) × (q ≡ 0))

-- ---- arms that let no signal past their phrase

-- no end of the arm is reached, and each RESUME that is gives as many words as the signal takes back
pub record StopsSignal (image : Image) (m : ModuleCode) (p : CodeProcedure) (s : SignalId) (arm : Arm) : Type 0 where
  pub no_end : StandsIn m p arm ArmEnd → ⊥
  pub resumes : (words : ℕ) → StandsIn m p arm (Resume words) → takes_back image s words ≡ true

-- the first arm of a phrase that fits the signal, as the instance reads it, is such an arm
pub record Catches (image : Image) (instance : ℕ) (m : ModuleCode) (p : CodeProcedure) (s : SignalId) (n : ℕ) : Type 0 where
  pub phrase : Phrase
  pub is_phrase : slice_get p.phrases n ≡ Some phrase
  pub k : ℕ
  pub first : position (fits_signal (links_of image instance) s) phrase.arms ≡ Some k
  pub arm : Arm
  pub is_arm : slice_get phrase.arms k ≡ Some arm
  pub stops : StopsSignal image m p s arm

-- ---- the relation

-- a procedure of an instance, with the code of its module
pub record IsCode (image : Image) (instance procedure : ℕ) (m : ModuleCode) (p : CodeProcedure) : Type 0 where
  pub is_module : code_of image instance ≡ Some m
  pub is_procedure : procedure_of image instance procedure ≡ Some p

-- the signal comes at a position of a procedure of an instance
pub data Comes (image : Image) (s : SignalId) : (instance procedure : ℕ) → Position → Type 0 where
  -- a reached instruction may raise it
  raised : (j n at : ℕ) (m : ModuleCode) (p : CodeProcedure) (i : Instruction) → IsCode image j n m p → Stands m p at i → MayRaise image j i s
      → Comes image s j n (position_of p at)
  -- or calls what it comes out of
  called : (j n at other procedure q : ℕ) (m : ModuleCode) (p : CodeProcedure) (i : Instruction) → IsCode image j n m p → Stands m p at i
      → Calls image j i other procedure → IsRun j other procedure q → Comes image s other q None → Comes image s j n (position_of p at)
  -- or a phrase lets it past
  passed : (j n k : ℕ) (m : ModuleCode) (p : CodeProcedure) → IsCode image j n m p → Comes image s j n (Some k)
      → (Catches image j m p s k → ⊥) → Comes image s j n (position_beyond p k)

-- it comes out of the body of an instance that CONTROL names
pub data Escapes (image : Image) (s : SignalId) : Type 0 where
  escapes : (j : ℕ) → Contains image.control j → Comes image s j 0 None → Escapes image s
