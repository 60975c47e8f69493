-- Which code is valid, and the first fault of code that is not (rule of this project).
use Rattle.std.specs.Prelude.{◌≡◌, ℕ, ◌+◌, ◌<◌, List, length, Some, slice_get, take}
use Rattle.code_forms.specs.declared.bad_code.BadCode.{BadCode}
use Rattle.code_forms.specs.declared.bad_code.CodeFault.{CodeFault}
use Rattle.code_forms.specs.declared.bad_code.CodeFault.TheVariants.{BadJump, StackDiffers, BadOperand, CatchRange}
use Rattle.code_forms.specs.declared.module_code.CodeLink.{CodeLink}
use Rattle.code_forms.specs.declared.module_code.CodeProcedure.{CodeProcedure}
use Rattle.code_forms.specs.declared.module_code.CodeSignal.{CodeSignal}
use Rattle.code_forms.specs.declared.module_code.ModuleCode.{ModuleCode}
use Rattle.code_forms.specs.declared.module_code.Phrase.{Phrase}
use Rattle.code_forms.specs.Routine.{Spot, Routine, routine_with}
use Rattle.code_forms.specs.Phrases.{PhraseIsRight, PhrasesAreRight, EndsWithCode, PhrasesFill}
use Rattle.code_forms.specs.Jumps.{JumpsRightly}
use Rattle.code_forms.specs.Depths.{Settled, StackIsRight, DepthsAreSettled}
use Rattle.code_forms.specs.Operands.{OperandsAreRight}

-- an instruction breaks no rule
pub record SpotIsRight (r : Routine) (i : ℕ) (spot : Spot) : Type 0 where
  pub jump : JumpsRightly r spot.at spot.instruction
  pub depth : ℕ
  pub settled : Settled r i depth
  pub stack : StackIsRight r i spot depth
  pub operands : OperandsAreRight r spot

-- the first so many instructions break none
abbrev pub SpotsAreRight : Routine → ℕ → Type 0
SpotsAreRight r count = (i : ℕ) (spot : Spot) → i < count → slice_get r.code i ≡ Some spot → SpotIsRight r i spot

-- valid code of a procedure
pub record RoutineIsValid (r : Routine) : Type 0 where
  pub phrases : PhrasesFill r.code r.phrases
  pub spots : SpotsAreRight r (length r.code)

-- the first phrase that is not right, or else the last one where the regions do not fill the code; the fault is at its range's beginning
pub data FirstBadPhrase (code : List Spot) (phrases : List Phrase) : ℕ → Type 0 where
  at_phrase : (n : ℕ) (p : Phrase) → slice_get phrases n ≡ Some p → PhrasesAreRight code phrases n
      → (PhraseIsRight code (take n phrases) p → ⊥) → FirstBadPhrase code phrases p.from
  at_last : (n : ℕ) (p : Phrase) → n + 1 ≡ length phrases → slice_get phrases n ≡ Some p → PhrasesAreRight code phrases (n + 1)
      → (EndsWithCode code phrases → ⊥) → FirstBadPhrase code phrases p.from

-- the fault of an instruction: BadJump before StackDiffers before BadOperand
pub data FaultAt (r : Routine) (i : ℕ) (spot : Spot) : CodeFault → Type 0 where
  bad_jump : (JumpsRightly r spot.at spot.instruction → ⊥) → FaultAt r i spot (BadJump spot.at)
  stack_differs : (depth : ℕ) → JumpsRightly r spot.at spot.instruction → Settled r i depth → (StackIsRight r i spot depth → ⊥)
      → FaultAt r i spot (StackDiffers spot.at)
  bad_operand : (depth : ℕ) → JumpsRightly r spot.at spot.instruction → Settled r i depth → StackIsRight r i spot depth
      → (OperandsAreRight r spot → ⊥) → FaultAt r i spot (BadOperand spot.at)

-- the first fault of a procedure: of the phrases, in their order; else at the least offset
pub data FirstFault (r : Routine) : CodeFault → Type 0 where
  in_phrases : (from : ℕ) → FirstBadPhrase r.code r.phrases from → FirstFault r (CatchRange from)
  in_code : (i : ℕ) (spot : Spot) (fault : CodeFault) → PhrasesFill r.code r.phrases → slice_get r.code i ≡ Some spot → SpotsAreRight r i
      → FaultAt r i spot fault → FirstFault r fault

-- the first so many procedures are valid
abbrev pub AreValid : ℕ → ℕ → List CodeSignal → List CodeLink → List CodeProcedure → ℕ → Type 0
AreValid globals strings signals links procedures count =
    (n : ℕ) (p : CodeProcedure) → n < count → slice_get procedures n ≡ Some p → RoutineIsValid (routine_with globals strings signals links procedures p)

-- valid code of a module
abbrev pub Valid : ModuleCode → Type 0
Valid m = AreValid m.global_words (length m.strings) m.signals m.links m.procedures (length m.procedures)

-- the first fault of a module: in the first procedure with one
pub record IsFirstFaultOf (globals strings : ℕ) (signals : List CodeSignal) (links : List CodeLink)
    (procedures : List CodeProcedure) (bad : BadCode) : Type 0 where
  pub procedure : CodeProcedure
  pub is : slice_get procedures bad.procedure ≡ Some procedure
  pub before : AreValid globals strings signals links procedures bad.procedure
  pub fault : FirstFault (routine_with globals strings signals links procedures procedure) bad.fault

abbrev pub IsFirstFault : ModuleCode → BadCode → Type 0
IsFirstFault m = IsFirstFaultOf m.global_words (length m.strings) m.signals m.links m.procedures

-- the first so many procedures have the depths of their instructions beside them
abbrev pub HaveDepths : ℕ → ℕ → List CodeSignal → List CodeLink → List CodeProcedure → ℕ → Type 0
HaveDepths globals strings signals links procedures count =
    (n : ℕ) (p : CodeProcedure) → n < count → slice_get procedures n ≡ Some p
    → DepthsAreSettled (routine_with globals strings signals links procedures p) p.code

abbrev pub HasDepths : ModuleCode → Type 0
HasDepths m = HaveDepths m.global_words (length m.strings) m.signals m.links m.procedures (length m.procedures)
