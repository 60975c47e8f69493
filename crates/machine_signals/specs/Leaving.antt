-- Arms that reject, and jumps out of arms (rule of this project).
use Rattle.std.specs.Prelude.{◌≡◌, ℕ, ◌<◌, ◌≤◌, ◌+◌, ◌*◌, List, ◌∷◌, length, Bool, false, Option, Some, None}
use Rattle.code_forms.specs.declared.module_code.CodeProcedure.{CodeProcedure}
use Rattle.object_files.specs.declared.image.Image.{Image}
use Rattle.signaller.specs.declared.search.Search.{Search}
use Rattle.machine_rules.specs.State.{Target as Aim, Active, Activations, Store, Leaves, Stepped, Goes}
use Rattle.machine_rules.specs.Signals.{takes_back, reject}
use Rattle.machine_rules.specs.Leaving.{arrived}
use Rattle.machine_topmost.specs.declared.registers.Registers.{Registers}
use Rattle.machine_activations.specs.declared.calling.Sequel.{Sequel}
use Rattle.machine_activations.specs.declared.calling.Sequel.TheVariants.{Goes as GoesOn, Empty, Pending, Ends as EndsSo}
use Rattle.machine_activations.specs.declared.row.Kind.{Kind}
use Rattle.machine_activations.specs.declared.row.Kind.TheVariants.{Frame as FrameRow, Arm as ArmRow}
use Rattle.machine_activations.specs.declared.row.Layout.{Layout}
use Rattle.machine_activations.specs.declared.row.Reason.TheVariants.{Raise as RaiseRow, Jump as JumpRow}
use Rattle.machine_activations.specs.declared.row.Row.{Row}
use Rattle.machine_activations.specs.declared.row.Target.{Target}
use Rattle.machine_activations.specs.Rows.{IsTarget}
use Rattle.machine_activations.specs.Below.{Left, Below}
use Rattle.machine_activations.specs.Frames.{row_at, owner_place}
use Rattle.machine_activations.specs.Reaching.{Reaches, IsUnstuck}
use Rattle.machine_activations.specs.Shows.{Shows}
use Rattle.machine_signals.specs.declared.seeking.Landed.{Landed}
use Rattle.machine_signals.specs.Arms.{Awaits}
use Rattle.machine_signals.specs.Indexed.{AskedOf, BeginsThere}

-- some activations are shown, and the machine comes to where the topmost one rejects
pub record Rejects (image : Image) (layout : Layout) (region : List ℕ) (table : List Row) (r : Registers) (s : Stepped) (m : Store) : Type 0 where
  pub top : Active
  pub rest : Activations
  pub procedure : CodeProcedure
  pub shows : Shows image layout region table r procedure top rest
  pub reaches : Reaches image s (reject top.role rest m)

pub record CanReject (image : Image) (layout : Layout) (region : List ℕ) (table : List Row) (r : Registers) : Type 0 where
  pub start : Stepped
  pub unstuck : IsUnstuck image start
  pub store : Store
  pub rejects : Rejects image layout region table r start store

-- All activations wait, the topmost one at a place, and the machine comes to where a jump leaves it, from a search on.
pub record Leaving (image : Image) (layout : Layout) (region : List ℕ) (table : List Row) (top : ℕ) (target : Target) (search : Search)
    (s : Stepped) (m : Store) : Type 0 where
  pub activations : Activations
  pub aim : Aim
  pub below : Below image layout region table Left activations
  pub high : length activations ≡ top + 1
  pub same : IsTarget target aim
  pub reaches : Reaches image s (Goes (Leaves aim search activations m))

pub record CanLeave (image : Image) (layout : Layout) (region : List ℕ) (table : List Row) (top : ℕ) (target : Target) (search : Search) : Type 0 where
  pub start : Stepped
  pub unstuck : IsUnstuck image start
  pub store : Store
  pub leaving : Leaving image layout region table top target search start store

-- the jump has arrived at its target's activation, at a place, above which there is none
pub record Arrives (image : Image) (layout : Layout) (region : List ℕ) (table : List Row) (place : ℕ) (goal : Option ℕ) (s : Stepped) (m : Store) : Type 0 where
  pub top : Active
  pub rest : Activations
  pub below : Below image layout region table Left (top ∷ rest)
  pub high : length rest ≡ place
  pub reaches : Reaches image s (arrived image goal top rest m)

pub record CanArrive (image : Image) (layout : Layout) (region : List ℕ) (table : List Row) (place : ℕ) (goal : Option ℕ) : Type 0 where
  pub start : Stepped
  pub unstuck : IsUnstuck image start
  pub store : Store
  pub arrives : Arrives image layout region table place goal start store

-- so it has, or an UNWIND arm of the activation that is topmost then is to be run
abbrev pub Unwound : Image → Layout → List ℕ → List Row → Target → Stepped → Store → Option Landed → Type 0
Unwound image layout region table target s m None = Arrives image layout region table target.place target.goal s m
Unwound image layout region table target s m (Some landed) =
    Awaits image layout region table landed.place landed.place landed.arm (JumpRow target landed.beyond) 0 0 s m

-- the arm is one of an activation that the jump leaves, and its search one of the same procedure
pub record IsUnwinding (image : Image) (table : List Row) (top : ℕ) (target : Target) (landed : Landed) : Type 0 where
  pub low : landed.place ≤ top
  pub above : target.place < landed.place
  pub asks : AskedOf image (row_at table landed.place) landed.beyond

-- where an activation goes on, it is no higher than a place
abbrev pub StaysLow : (place : ℕ) → Sequel → Type 0
StaysLow place (GoesOn r) = r.top ≤ place
StaysLow place Empty = Unit {0}
StaysLow place (Pending r) = r.top ≤ place
StaysLow place (EndsSo end) = Unit {0}

-- what is asked of the activation under one of a kind that is dropped
abbrev pub LeftThere : Image → Kind → Row → Search → Type 0
LeftThere image FrameRow row search = BeginsThere image false row search
LeftThere image (ArmRow own n (RaiseRow signal args beyond)) row search = BeginsThere image false row search
LeftThere image (ArmRow own n (JumpRow target beyond)) row search = search ≡ beyond

-- the activation of a row and a place goes on at an entry without operands
abbrev pub emptied : Row → (place : ℕ) → Layout → (entry : ℕ) → Registers
emptied row q layout entry =
    record { top = q; slots = owner_place row.kind q * layout.part; sp = q * layout.part + layout.frame; entry = entry }

-- an activation of a kind takes words back to its raiser
abbrev pub resumes_with : Image → Kind → (words : ℕ) → Bool
resumes_with image FrameRow n = false
resumes_with image (ArmRow own arm (RaiseRow signal args beyond)) n = takes_back image signal n
resumes_with image (ArmRow own arm (JumpRow target beyond)) n = false
