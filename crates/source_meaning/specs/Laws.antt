-- The laws of the meaning.
use Rattle.std.specs.Prelude.{◌≡◌, ◌≢◌, ℕ, ◌+◌, ◌<◌, ◌≤◌, List, ◌++◌, true}
use Rattle.mesa_types.specs.Typed.{Stmt, Expr, Phrase}
use Rattle.source_meaning.specs.Value.{Values}
use Rattle.source_meaning.specs.Program.{Signal, Target, Program}
use Rattle.source_meaning.specs.Lawful.{Lawful}
use Rattle.source_meaning.specs.State.{Store, State, Ending, Fault, Answer, Normal, Gives, Go, Resumed, Rejected, Retried, Continued, Uncaught, Spent, FrameLimit, Broken, Result, Run}
use Rattle.source_meaning.specs.Variables.{Where}
use Rattle.source_meaning.specs.Signals.{raise, through_of, through}
use Rattle.source_meaning.specs.Calls.{start, call}
use Rattle.source_meaning.specs.Meaning.{value, meaning}
use Rattle.source_meaning.specs.Means.{outcome, Means}

-- ys begins with xs
pub record Begins (xs ys : List ℕ) : Type 0 where
  pub rest : List ℕ
  pub whole : ys ≡ xs ++ rest

-- what is left of an input, some of which was taken from its front
pub record LeftOf (input left : List ℕ) : Type 0 where
  pub taken : List ℕ
  pub whole : input ≡ taken ++ left

-- each frame that was there is of the same procedure, no number is drawn twice, and what is started stays so
pub record GoesOn (s s' : Store) : Type 0 where
  pub frames : (f : ℕ) → f < s.fresh → s'.procedures f ≡ s.procedures f
  pub fresh : s.fresh ≤ s'.fresh
  pub started : (i : ℕ) → s.started i ≡ true → s'.started i ≡ true

-- as many activations as there were, and the frames as they were found
pub record AsFound (before after : State) : Type 0 where
  pub activations : after.standing ≡ before.standing
  pub store : GoesOn before.store after.store

-- each construct leaves what stands as it was found
pub record LeavesAsFound (P : Program) (fuel : ℕ) (w : Where) (σ : State) : Type 0 where
  pub by_statement : (s : Stmt) → AsFound σ (meaning P fuel s w σ).state
  pub by_expression : (e : Expr) → AsFound σ (value P (meaning P fuel) e w σ).state
  pub by_call : (t : Target) (vs : Values) → AsFound σ (call P (meaning P fuel) w t vs σ).state
  pub by_start : (j : ℕ) → AsFound σ (start P (meaning P fuel) j w.chain σ).state
  pub by_raise : (sig : Signal) (vs : Values) → AsFound σ (raise P (meaning P fuel) w sig vs σ).state

abbrev pub NothingIsLeftStanding : Type 0
NothingIsLeftStanding = (P : Program) (fuel : ℕ) (w : Where) (σ : State) → LeavesAsFound P fuel w σ

-- An answer that goes through a phrase, a jump that runs its UNWIND arm among them, leaves what stands as it was found, whatever that arm
-- answers; so a run that leaves it so does it through a phrase too
pub record PassesAsFound (P : Program) (fuel : ℕ) (w : Where) (phrase : Phrase) : Type 0 where
  pub by_answer : (a : Answer) (σ : State) → AsFound σ (through_of (meaning P fuel) w phrase a σ).state
  pub by_run : (m : Run) → ((σ : State) → AsFound σ (m σ).state) → (σ : State) → AsFound σ (through (meaning P fuel) w phrase m σ).state

abbrev pub PhrasesArePassedAsFound : Type 0
PhrasesArePassedAsFound = (P : Program) (fuel : ℕ) (w : Where) (phrase : Phrase) → PassesAsFound P fuel w phrase

-- there is one output, end, number of turns left and number of bytes taken, and no other
pub record OneResult (P : Program) (input : List ℕ) (e : Ending) (turns : ℕ) : Type 0 where
  pub output : List ℕ
  pub end : Answer
  pub left : ℕ
  pub taken : ℕ
  pub is_meant : Means P input e turns output end left taken
  pub no_other : (o : List ℕ) (a : Answer) (l t : ℕ) → Means P input e turns o a l t → (o ≡ output) × (a ≡ end) × (l ≡ left) × (t ≡ taken)

abbrev pub HasOneResult : Type 0
HasOneResult = (P : Program) (input : List ℕ) (e : Ending) (turns : ℕ) → OneResult P input e turns

-- fuel above the turns is enough: it never shows
abbrev pub FuelNeverShows : Type 0
FuelNeverShows = (P : Program) (n k : ℕ) (s : Stmt) (w : Where) (σ : State) → σ.turns < n → n ≤ k → meaning P n s w σ ≡ meaning P k s w σ

-- a larger bound: the output begins with the one before, and an end that was not Spent is the same, with as many turns more left
pub record LargerBound (r : Result) (d : ℕ) (r' : Result) : Type 0 where
  pub begins : Begins r.state.output r'.state.output
  pub ends : r.answer ≢ Spent → r' ≡ record { answer = r.answer; state = record r.state { turns = r.state.turns + d } }

abbrev pub BoundsAreCuts : Type 0
BoundsAreCuts = (P : Program) (input : List ℕ) (e : Ending) (turns d : ℕ) → LargerBound (outcome P input e turns) d (outcome P input e (turns + d))

-- more input in the place of a fault: the output begins with the one before, and an end that was not Broken is the same,
-- with as much more of the input left
pub record MoreInput (r : Result) (xs : List ℕ) (e : Ending) (r' : Result) : Type 0 where
  pub begins : Begins r.state.output r'.state.output
  pub ends : r.answer ≢ Broken → r' ≡ record { answer = r.answer; state = record r.state { input = r.state.input ++ xs; ending = e } }

abbrev pub FaultsAreCuts : Type 0
FaultsAreCuts = (P : Program) (input xs : List ℕ) (e : Ending) (turns : ℕ) →
    MoreInput (outcome P input Fault turns) xs e (outcome P (input ++ xs) e turns)

-- what is taken of the input is taken from its front
abbrev pub InputIsTakenInOrder : Type 0
InputIsTakenInOrder = (P : Program) (input : List ℕ) (e : Ending) (turns : ℕ) → LeftOf input (outcome P input e turns).state.input

-- the ends of a program
unfoldable pub IsEnd : Ending → Answer → Type 0
IsEnd e Normal = Unit {0}
IsEnd e (Uncaught s) = Unit {0}
IsEnd e Spent = Unit {0}
IsEnd e FrameLimit = Unit {0}
IsEnd e Broken = e ≡ Fault
IsEnd e (Gives vs) = ⊥
IsEnd e (Go f p) = ⊥
IsEnd e (Resumed vs) = ⊥
IsEnd e Rejected = ⊥
IsEnd e (Retried n) = ⊥
IsEnd e (Continued n) = ⊥

-- a lawful program is done, or ends with a signal that nothing catches, with its turns spent or its frames full, or is
-- broken off, and that only where a fault follows the input
abbrev pub AlwaysEnds : Type 0
AlwaysEnds = (P : Program) → Lawful P → (input : List ℕ) (e : Ending) (turns : ℕ) → IsEnd e (outcome P input e turns).answer
