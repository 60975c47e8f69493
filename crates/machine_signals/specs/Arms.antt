-- Arms that are run over the activations in the region (rule of this project).
use Rattle.std.specs.Prelude.{◌≡◌, ℕ, ◌+◌, ◌*◌, ◌<◌, ◌≤◌, List, length, Option, Some, None, nat_lt, slice_set, if◌then◌else◌}
use Rattle.code_forms.specs.declared.module_code.Arm.{Arm}
use Rattle.code_forms.specs.declared.module_code.CodeProcedure.{CodeProcedure}
use Rattle.object_files.specs.declared.image.Image.{Image}
use Rattle.signaller.specs.declared.place.Place.{Place}
use Rattle.signaller.specs.Search.{arms_before}
use Rattle.signaller.specs.Sought.{IsPlace}
use Rattle.machine_rules.specs.State.{Why, InArm, Active, Activations, Store, Stepped}
use Rattle.machine_rules.specs.LookUps.{procedure_of}
use Rattle.machine_rules.specs.Activations.{activation_at, owner}
use Rattle.machine_rules.specs.Signals.{enter_arm}
use Rattle.machine_topmost.specs.declared.registers.Registers.{Registers}
use Rattle.machine_topmost.specs.Flat.{part, with_part}
use Rattle.machine_activations.specs.declared.calling.Sequel.{Sequel}
use Rattle.machine_activations.specs.declared.calling.Sequel.TheVariants.{Goes, Empty, Pending, Ends}
use Rattle.machine_activations.specs.declared.row.Kind.TheVariants.{Arm as ArmRow}
use Rattle.machine_activations.specs.declared.row.Layout.{Layout}
use Rattle.machine_activations.specs.declared.row.Reason.{Reason}
use Rattle.machine_activations.specs.declared.row.Row.{Row}
use Rattle.machine_activations.specs.Rows.{IsWhy}
use Rattle.machine_activations.specs.Below.{over_by, Below}
use Rattle.machine_activations.specs.Frames.{row_at, owner_place, waiting}
use Rattle.machine_activations.specs.Reaching.{Reaches}
use Rattle.machine_signals.specs.declared.arms.Span.{Span}

-- where an arm's region lies
abbrev pub span_of : Arm → Span
span_of a = record { start = a.start; end = a.end }

-- that of no arm has no offset
abbrev pub span_in : Option Arm → Span
span_in None = record { start = 0; end = 0 }
span_in (Some a) = span_of a

-- of so many words given, an arm takes as many as it has parameters
abbrev pub taken : (given words : ℕ) → ℕ
taken given words = if nat_lt words given then words else given

-- an arm's place in the table tells its number
pub record HasArm (p : CodeProcedure) (number : ℕ) : Type 0 where
  pub place : Place
  pub is : IsPlace p.phrases place
  pub numbered : number ≡ arms_before p.phrases place.phrase + place.arm

-- The region and the table.

-- the row of the activation on top, which waits without so many of its operands
abbrev pub with_waiting : List Row → Registers → Layout → (args : ℕ) → List Row
with_waiting table r layout args = slice_set table r.top (waiting (row_at table r.top) r layout args)

abbrev pub arm_row : (instance procedure owner arm : ℕ) → Reason → Row
arm_row j n own arm reason = record { instance = j; procedure = n; entry = 0; count = 0; kind = ArmRow own arm reason }

abbrev pub with_arm : List Row → (top : ℕ) → Row → (owner arm : ℕ) → Reason → List Row
with_arm table top holder own arm reason = slice_set table top (arm_row holder.instance holder.procedure own arm reason)

-- parameters are put into the frame of an owner
abbrev pub with_params : List ℕ → Layout → (owner slot : ℕ) → List ℕ → List ℕ
with_params region layout own slot new = with_part region (own * layout.part + slot) new

abbrev pub arm_registers : Layout → (top owner entry : ℕ) → Registers
arm_registers layout top own entry =
    record { top = top; slots = own * layout.part; sp = top * layout.part + layout.frame; entry = entry }

-- All activations wait, the topmost one at a place, and an arm of the one at another place is to be run over them; the words that it is
-- given stand in the region. The machine comes to where it does that.
pub record Awaits (image : Image) (layout : Layout) (region : List ℕ) (table : List Row) (top place arm : ℕ) (reason : Reason)
    (from count : ℕ) (s : Stepped) (m : Store) : Type 0 where
  pub activations : Activations
  pub holder : Active
  pub why : Why
  pub words : List ℕ
  pub below : Below image layout region table (over_by holder.instance holder.procedure (InArm (owner holder.role place) arm why)) activations
  pub high : length activations ≡ top + 1
  pub low : place ≤ top
  pub there : activation_at activations place ≡ Some holder
  pub procedure : CodeProcedure
  pub is : procedure_of image holder.instance holder.procedure ≡ Some procedure
  pub has : HasArm procedure arm
  pub same_why : IsWhy reason why
  pub source : part region from count ≡ words
  pub inside : from + count ≤ length region
  pub reaches : Reaches image s (enter_arm image arm holder place why words activations m)

-- so it is from some state on
pub record CanEnter (image : Image) (layout : Layout) (region : List ℕ) (table : List Row) (top place arm : ℕ) (reason : Reason) (from count : ℕ) : Type 0 where
  pub start : Stepped
  pub store : Store
  pub awaits : Awaits image layout region table top place arm reason from count start store

-- the arm stands on top then; or the run ends, with the rows as they were
abbrev pub AddsArm : List Row → (top place arm : ℕ) → Reason → (table' : List Row) → Sequel → Type 0
AddsArm table top place n reason table' (Goes r) = (r.top ≡ top + 1) × (top + 1 < length table)
    × (table' ≡ with_arm table (top + 1) (row_at table place) (owner_place (row_at table place).kind place) n reason)
AddsArm table top place n reason table' Empty = ⊥
AddsArm table top place n reason table' (Pending r) = ⊥
AddsArm table top place n reason table' (Ends end) = table' ≡ table
