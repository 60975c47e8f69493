-- The state of the machine: a list of activations, and what stands beside it (rule of this project).
use Rattle.std.specs.Prelude.{ℕ, List, Bool, Option}
use Rattle.signaller.specs.declared.search.Search.{Search}
use Rattle.signaller.specs.declared.signal_id.SignalId.{SignalId}
use Rattle.machine_rules.specs.declared.end.End.{End}

-- where a jump out of arms goes: the place of its activation, the place of the frame to which that belongs, and the offset there;
-- with none it returns from the frame
pub record Target : Type 0 where
  pub place : ℕ
  pub owner : ℕ
  pub goal : Option ℕ

-- why an arm runs: for a raise, with the signal and its arguments; or for a jump, which it interrupts. The search beyond its phrase
-- tells who is asked when it rejects
pub data Why : Type 0 where
  ForRaise : (signal : SignalId) (args : List ℕ) (beyond : Search) → Why
  ForJump : (target : Target) (beyond : Search) → Why

-- a frame with its variables; or a running arm, with the place of the frame to which it belongs, its number among the arms of its
-- procedure, and why it runs
pub data Role (X : Type 0) : Type 0 where
  Frame : (variables : X) → Role X
  InArm : (owner arm : ℕ) (why : Why) → Role X

-- an activation: its instance, its procedure, the offset of its next instruction, its operands (the word pushed last comes first), and
-- what it is. One that waits stands at the instruction that it waits for
pub record Activation (X : Type 0) : Type 0 where
  pub instance : ℕ
  pub procedure : ℕ
  pub offset : ℕ
  pub operands : List ℕ
  pub role : Role X

-- frames have their variables' words
abbrev pub Active : Type 0
Active = Activation (List ℕ)

-- the topmost one comes first; a place is the number of activations below it
abbrev pub Activations : Type 0
Activations = List Active

-- what stands beside the activations: the instances that are still to be started, those that were started, the globals of each, the
-- turns that are left, how many instructions were begun, the input that is left and whether a fault follows it, and the output
pub record Store : Type 0 where
  pub control : List ℕ
  pub started : (instance : ℕ) → Bool
  pub globals : (instance : ℕ) → List ℕ
  pub turns : ℕ
  pub begun : ℕ
  pub input : List ℕ
  pub faulty : Bool
  pub output : List ℕ

pub data State : Type 0 where
  -- the topmost activation goes on; without one the next instance is started
  Runs : Activations → Store → State
  -- a signal with its arguments looks for an arm: the phrases of the activation at this place are asked, from the search on
  Seeks : SignalId → List ℕ → (place : ℕ) → Search → Activations → Store → State
  -- a jump gives up activations, and looks for UNWIND arms: the phrases of the topmost one are asked, from the search on
  Leaves : Target → Search → Activations → Store → State

pub data Ending : Type 0 where
  Ended : End → Ending
  -- the input failed
  Broken : Ending
  -- something is not there; no image that a file holds comes to this
  Stuck : Ending

pub data Stepped : Type 0 where
  Goes : State → Stepped
  Stops : Ending → Store → Stepped
