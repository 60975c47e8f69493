-- The ranges that the code of each module keeps, valid or not (rule of this project).
use Rattle.std.specs.Prelude.{◌≡◌, ℕ, ◌+◌, ◌<◌, ◌≤◌, ◌^◌, List, length, All, Option, Some, None, slice_get}
use Rattle.std.specs.List.{AllAdjacentBelow, HoldsAt}
use Rattle.mesa_base.specs.declared.limits.TheConstants.{GLOBAL_WORDS, DISTINCT_STRINGS, STRING_BYTES}
use Rattle.code_forms.specs.declared.limits.TheConstants.{FRAME_WORDS, STACK_WORDS}
use Rattle.code_forms.specs.declared.module_code.Arm.{Arm}
use Rattle.code_forms.specs.declared.module_code.CodeEntry.{CodeEntry}
use Rattle.code_forms.specs.declared.module_code.CodeKind.{CodeKind}
use Rattle.code_forms.specs.declared.module_code.CodeKind.TheVariants.{Procedure, Signal, Error}
use Rattle.code_forms.specs.declared.module_code.CodeLink.{CodeLink}
use Rattle.code_forms.specs.declared.module_code.CodeProcedure.{CodeProcedure}
use Rattle.code_forms.specs.declared.module_code.CodeSignal.{CodeSignal}
use Rattle.code_forms.specs.declared.module_code.Label.{Label}
use Rattle.code_forms.specs.declared.module_code.Label.TheVariants as l
use Rattle.code_forms.specs.declared.module_code.Phrase.{Phrase}
use Rattle.code_forms.specs.Instructions.{bytes_of}

-- an entry that is a signal or an error; an error has no results
abbrev pub IsSignalWith : CodeKind → ℕ → Type 0
IsSignalWith Procedure results = ⊥
IsSignalWith Signal results = Unit {0}
IsSignalWith Error results = results ≡ 0

abbrev pub SignalInRange : CodeSignal → Type 0
SignalInRange s = IsSignalWith s.kind s.results

-- a link of an error has no results
abbrev pub IsLinkWith : CodeKind → ℕ → Type 0
IsLinkWith Procedure results = Unit {0}
IsLinkWith Signal results = Unit {0}
IsLinkWith Error results = results ≡ 0

abbrev pub LinkInRange : CodeLink → Type 0
LinkInRange l = IsLinkWith l.kind l.results

abbrev pub IsSignalLink : Option CodeLink → Type 0
IsSignalLink None = ⊥
IsSignalLink (Some link) = IsSignalWith link.kind link.results

-- a label names a signal of the module, or a link of a signal or an error
abbrev pub LabelInRange : List CodeSignal → List CodeLink → Label → Type 0
LabelInRange signals links l.Any = Unit {0}
LabelInRange signals links l.Unwind = Unit {0}
LabelInRange signals links (l.Own k) = k < length signals
LabelInRange signals links (l.Link k) = IsSignalLink (slice_get links k)
LabelInRange signals links l.BoundsFault = Unit {0}
LabelInRange signals links l.ZeroDivisor = Unit {0}

-- a file has so few of them that 32 bits count them
abbrev pub AreFew : {X : Type 0} → List X → Type 0
AreFew xs = length xs < 2 ^ 32

pub record ArmInRange (signals : List CodeSignal) (links : List CodeLink) (arm : Arm) : Type 0 where
  pub labelled : 0 < length arm.labels
  pub few : AreFew arm.labels
  pub labels : All (LabelInRange signals links) arm.labels

pub record PhraseInRange (signals : List CodeSignal) (links : List CodeLink) (phrase : Phrase) : Type 0 where
  pub armed : 0 < length phrase.arms
  pub few : AreFew phrase.arms
  pub arms : All (ArmInRange signals links) phrase.arms

-- there is an instruction; the first begins at 0, and each other where the one before it ends, within 32 bits
pub record InOrder (code : List CodeEntry) : Type 0 where
  pub some : 0 < length code
  pub first : HoldsAt (λ e. e.at ≡ 0) code 0
  pub joined : AllAdjacentBelow (λ e f. e.at + bytes_of e.instruction ≡ f.at) code (length code)
  pub short : All (λ e. e.at + bytes_of e.instruction < 2 ^ 32) code

pub record ProcedureInRange (signals : List CodeSignal) (links : List CodeLink) (p : CodeProcedure) : Type 0 where
  pub frame : p.frame ≤ FRAME_WORDS
  pub words : p.args + p.results ≤ p.frame
  pub depth : p.depth ≤ STACK_WORDS
  pub code : InOrder p.code
  pub few : AreFew p.phrases
  pub phrases : All (PhraseInRange signals links) p.phrases

-- what `validate` needs of a procedure to read it
pub record CanBeRead (p : CodeProcedure) : Type 0 where
  pub code : InOrder p.code
  pub armed : All (λ q. 0 < length q.arms) p.phrases
  pub small : p.depth ≤ STACK_WORDS

-- the first procedure is the body, which takes and gives nothing
abbrev pub IsBody : Option CodeProcedure → Type 0
IsBody None = ⊥
IsBody (Some p) = (p.args ≡ 0) × (p.results ≡ 0)

pub record KeepsRanges (globals : ℕ) (signals : List CodeSignal) (strings : List (List ℕ)) (links : List CodeLink)
    (procedures : List CodeProcedure) : Type 0 where
  pub few_globals : globals ≤ GLOBAL_WORDS
  pub few_signals : AreFew signals
  pub each_signal : All SignalInRange signals
  pub few_strings : length strings ≤ DISTINCT_STRINGS
  pub each_string : All (λ s. length s ≤ STRING_BYTES) strings
  pub each_link : All LinkInRange links
  pub body : IsBody (slice_get procedures 0)
  pub few_procedures : AreFew procedures
  pub each_procedure : All (ProcedureInRange signals links) procedures
