-- Instructions that work on one activation alone, one after the other; and what own code comes to, in words. No turn and no other
-- activation is spoken of here.
use Rattle.std.specs.Prelude.{◌≡◌, ℕ, ◌+◌, ◌<◌, ◌≤◌, ◌⊎◌, List, [], ◌∷◌}
use Rattle.mesa_types.specs.Longs.{two_words}
use Rattle.mesa_types.specs.Operators.{WordFault, Tried, Fine, Faulty}
use Rattle.code_forms.specs.declared.instruction.Instruction.{Instruction}
use Rattle.machine_rules.specs.Words.{push}
use Rattle.machine_rules.specs.Working.{Work, Worked, Works, Faults, Touches, works}
use Rattle.agreement_rules.specs.Layout.{Strings, slots_of}

-- all have worked; or a fault is raised, with what the instructions before it have made; or one touches more
pub data Done : Type 0 where
  Did : Work → Done
  FaultAt : WordFault → Work → Done
  Strays : Done

unfoldable pub go_on : (before : Work) → Worked → (Work → Done) → Done
go_on before (Works w) k = k w
go_on before (Faults fault) k = FaultAt fault before
go_on before Touches k = Strays

-- in a module of this number; where an instruction raises a fault, those behind it do not work
unfoldable pub works_all : Strings → (number : ℕ) → List Instruction → Work → Done
works_all texts number [] w = Did w
works_all texts number (i ∷ is) w = go_on w (works texts number i w) (works_all texts number is)

-- words in the place of the operands', or a fault
pub data Outcome : Type 0 where
  Given : List ℕ → Outcome
  Raised : WordFault → Outcome

unfoldable pub outcome : Tried → Outcome
outcome (Fine x) = Given (x ∷ [])
outcome (Faulty fault) = Raised fault

-- a LONG number, as its two words
unfoldable pub long_outcome : Tried → Outcome
long_outcome (Fine n) = Given (two_words n)
long_outcome (Faulty fault) = Raised fault

-- all slots but the 16 scratch words from t on are as they were
abbrev pub Kept : (t : ℕ) → (old new : List ℕ) → Type 0
Kept t old new = (n : ℕ) → (n < t) ⊎ (t + 16 ≤ n) → slots_of new n ≡ slots_of old n

-- the words of the outcome stand on the rest of the operands, or that fault is raised; but for scratch words, nothing has changed
unfoldable pub Comes : (t : ℕ) → (rest variables globals : List ℕ) → Outcome → Done → Type 0
Comes t rest variables globals (Given ws) (Did w) = (w.operands ≡ push ws rest) × Kept t variables w.variables × (w.globals ≡ globals)
Comes t rest variables globals (Raised fault) (FaultAt other w) = (other ≡ fault) × Kept t variables w.variables × (w.globals ≡ globals)
Comes t rest variables globals out done = ⊥

-- the instructions take the words that were pushed on any operands to the outcome, where these are the frame's variables and the
-- instance's globals
abbrev pub Does : Strings → (number t : ℕ) → (variables globals : List ℕ) → List Instruction → List ℕ → Outcome → Type 0
Does texts number t variables globals code ins out =
    (rest : List ℕ)
    → Comes t rest variables globals out (works_all texts number code (record { operands = push ins rest; variables = variables; globals = globals }))
