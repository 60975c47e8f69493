-- The graph of a procedure: to which of its instructions and phrases each of them leads (rule of this project). An instruction's node is its number; a
-- phrase's comes behind those of all instructions.
use Rattle.std.specs.Prelude.{◌≡◌, ℕ, ◌+◌, ◌<◌, ◌≤◌, List, [], ◌∷◌, length, true, Option, Some, None, Contains, slice_get}
use Rattle.std.specs.List.{AllWithin}
use Rattle.code_forms.specs.declared.instruction.Instruction.{Instruction}
use Rattle.code_forms.specs.declared.instruction.Instruction.TheVariants.{Jump, JumpIf, JumpIfNot, JumpBack, Leave}
use Rattle.code_forms.specs.declared.module_code.Arm.{Arm}
use Rattle.code_forms.specs.declared.module_code.CodeEntry.{CodeEntry}
use Rattle.code_forms.specs.declared.module_code.CodeProcedure.{CodeProcedure}
use Rattle.code_forms.specs.declared.module_code.ModuleCode.{ModuleCode}
use Rattle.code_forms.specs.declared.module_code.Phrase.{Phrase}
use Rattle.code_forms.specs.Routine.{routine, goes_on}
use Rattle.survey_rules.specs.Escapes.{position_of, position_beyond}
use Rattle.survey_rules.specs.Reached.{LeadsTo}
use Rattle.survey_code.specs.Passings.{EachWith}

-- so many instructions begin before the offset
pub record BeginBefore (code : List CodeEntry) (offset number : ℕ) : Type 0 where
  pub bound : number ≤ length code
  pub before : AllWithin (λ e. e.at < offset) code 0 number
  pub rest : AllWithin (λ e. offset ≤ e.at) code number (length code)

abbrev pub phrase_node : CodeProcedure → ℕ → ℕ
phrase_node p n = length p.code + n

-- an instruction leads to the next one, where it goes on; to the one where its jump leads; and to the innermost phrase around it
pub data EntryLeads (m : ModuleCode) (p : CodeProcedure) (k at : ℕ) (i : Instruction) : ℕ → Type 0 where
  ahead : goes_on (routine m p) i ≡ true → EntryLeads m p k at i (k + 1)
  jumps : (target number : ℕ) → LeadsTo i target → BeginBefore p.code target number → EntryLeads m p k at i number
  inside : (n : ℕ) → position_of p at ≡ Some n → EntryLeads m p k at i (phrase_node p n)

-- a phrase leads to the first instruction of each of its arms, and to the phrase beyond it
pub data PhraseLeads (p : CodeProcedure) (n : ℕ) (arms : List Arm) : ℕ → Type 0 where
  in_arm : (k number : ℕ) (arm : Arm) → slice_get arms k ≡ Some arm → BeginBefore p.code arm.start number → PhraseLeads p n arms number
  outward : (q : ℕ) → position_beyond p n ≡ Some q → PhraseLeads p n arms (phrase_node p q)

-- a row has these nodes and no others
pub record Lists (Leads : ℕ → Type 0) (row : List ℕ) : Type 0 where
  pub only : (next : ℕ) → Contains row next → Leads next
  pub all : (next : ℕ) → Leads next → Contains row next

pub record IsGraphOf (m : ModuleCode) (p : CodeProcedure) (graph : List (List ℕ)) : Type 0 where
  pub count : length graph ≡ length p.code + length p.phrases
  pub entries : (k : ℕ) (e : CodeEntry) (row : List ℕ) → slice_get p.code k ≡ Some e → slice_get graph k ≡ Some row → Lists (EntryLeads m p k e.at e.instruction) row
  pub phrases : (n : ℕ) (phrase : Phrase) (row : List ℕ) → slice_get p.phrases n ≡ Some phrase → slice_get graph (phrase_node p n) ≡ Some row
      → Lists (PhraseLeads p n phrase.arms) row

-- ---- parts of it

-- where a jump leads
abbrev pub goal_of : Instruction → Option ℕ
goal_of (Jump goal) = Some goal
goal_of (JumpIf goal) = Some goal
goal_of (JumpIfNot goal) = Some goal
goal_of (JumpBack goal) = Some goal
goal_of (Leave arms goal) = Some goal
goal_of _ = None

-- the instruction at an offset, that may not be there
abbrev pub IsGoal : List CodeEntry → (target node : Option ℕ) → Type 0
IsGoal code None node = node ≡ None
IsGoal code (Some target) node = (number : ℕ) × (node ≡ Some number) × BeginBefore code target number

abbrev pub listed : {A : Type 0} → Option A → List A
listed None = []
listed (Some x) = x ∷ []

-- those at the starts of arms
abbrev pub AreStarts : List CodeEntry → List Arm → List ℕ → Type 0
AreStarts code arms row = (length row ≡ length arms) × EachWith (λ k arm number. BeginBefore code arm.start number) arms row

abbrev pub AreEntryRows : ModuleCode → CodeProcedure → List (List ℕ) → Type 0
AreEntryRows m p rows = (length rows ≡ length p.code) × EachWith (λ k e row. Lists (EntryLeads m p k e.at e.instruction) row) p.code rows

abbrev pub ArePhraseRows : CodeProcedure → List (List ℕ) → Type 0
ArePhraseRows p rows = (length rows ≡ length p.phrases) × EachWith (λ n phrase row. Lists (PhraseLeads p n phrase.arms) row) p.phrases rows
