-- Raises, and the rows of the arms that run (rule of this project).
use Rattle.std.specs.Prelude.{◌≡◌, ℕ, ◌+◌, ◌-◌, ◌<◌, ◌≤◌, List, length, true, Some, IfSome, slice_get}
use Rattle.code_forms.specs.declared.module_code.CodeEntry.{CodeEntry}
use Rattle.code_forms.specs.declared.module_code.CodeProcedure.{CodeProcedure}
use Rattle.code_forms.specs.Routine.{Begins, spots}
use Rattle.object_files.specs.declared.image.Image.{Image}
use Rattle.object_files.specs.declared.image.Link.{Link}
use Rattle.object_files.specs.declared.image.Link.TheVariants.{Wanted, To}
use Rattle.signaller.specs.declared.signal_id.SignalId.{SignalId}
use Rattle.signaller.specs.declared.signal_id.SignalId.TheVariants.{Own, NoInput}
use Rattle.machine_rules.specs.State.{Active, Activations, Store, Stepped}
use Rattle.machine_rules.specs.LookUps.{procedure_of}
use Rattle.machine_rules.specs.Signals.{takes_back}
use Rattle.machine_rules.specs.Steps.{raise_with}
use Rattle.machine_topmost.specs.declared.registers.Registers.{Registers}
use Rattle.machine_activations.specs.declared.calling.Sequel.{Sequel}
use Rattle.machine_activations.specs.declared.calling.Sequel.TheVariants.{Goes, Empty, Pending, Ends}
use Rattle.machine_activations.specs.declared.row.Kind.{Kind}
use Rattle.machine_activations.specs.declared.row.Kind.TheVariants.{Frame as FrameRow, Arm as ArmRow}
use Rattle.machine_activations.specs.declared.row.Layout.{Layout}
use Rattle.machine_activations.specs.declared.row.Reason.{Reason}
use Rattle.machine_activations.specs.declared.row.Reason.TheVariants.{Raise as RaiseRow, Jump as JumpRow}
use Rattle.machine_activations.specs.declared.row.Row.{Row}
use Rattle.machine_activations.specs.declared.row.Target.{Target}
use Rattle.machine_activations.specs.Below.{GoesOn}
use Rattle.machine_activations.specs.Frames.{row_at}
use Rattle.machine_activations.specs.Reaching.{Reaches}
use Rattle.machine_activations.specs.Shows.{Shows}
use Rattle.machine_signals.specs.Indexed.{AskedOf}

-- some activations are shown, and the machine comes to where the topmost one raises a signal with so many of its operands as arguments.
-- Where it is given the words that the signal takes back, it goes on behind its entry
pub record Raises (image : Image) (layout : Layout) (region : List ℕ) (table : List Row) (r : Registers) (signal : SignalId) (args : ℕ)
    (s : Stepped) (m : Store) : Type 0 where
  pub top : Active
  pub rest : Activations
  pub procedure : CodeProcedure
  pub shows : Shows image layout region table r procedure top rest
  pub enough : args ≤ length top.operands
  pub waits : (n : ℕ) → takes_back image signal n ≡ true → GoesOn procedure r.entry (length top.operands - args + n)
  pub reaches : Reaches image s (raise_with image signal args top rest m)

-- so it is from some state on
pub record CanRaise (image : Image) (layout : Layout) (region : List ℕ) (table : List Row) (r : Registers) (signal : SignalId) (args : ℕ) : Type 0 where
  pub start : Stepped
  pub store : Store
  pub raises : Raises image layout region table r signal args start store

-- the signal that a link of a signal or an error raises: of what is wanted of the host NoInput alone is one
abbrev pub raised_by : Link → SignalId
raised_by (Wanted n) = NoInput
raised_by (To j k) = Own j k

-- The rows of arms.

-- an instruction that finds no operands begins at the offset
pub record FindsNone (p : CodeProcedure) (offset : ℕ) : Type 0 where
  pub number : ℕ
  pub begins : Begins (spots p.code) number offset
  pub deep : (e : CodeEntry) → slice_get p.code number ≡ Some e → e.depth ≡ 0

-- a jump goes to an activation below a place, and there to such an instruction
pub record LeadsBelow (image : Image) (table : List Row) (q : ℕ) (target : Target) : Type 0 where
  pub low : target.place < q
  pub goal : (p : CodeProcedure) → procedure_of image (row_at table target.place).instance (row_at table target.place).procedure ≡ Some p
      → IfSome target.goal (FindsNone p)

-- the search of an arm of a raise is one of its own procedure's; that of a jump is one of the procedure of the activation under it
abbrev pub ReasonHolds : Image → List Row → (place : ℕ) → Reason → Type 0
ReasonHolds image table q (RaiseRow signal args beyond) = AskedOf image (row_at table q) beyond
ReasonHolds image table q (JumpRow target beyond) = AskedOf image (row_at table (q - 1)) beyond × LeadsBelow image table q target

-- of a kind that is dropped, the search that goes on under it is one of the procedure of that row
abbrev pub AsksLeft : Image → Kind → Row → Type 0
AsksLeft image FrameRow row = Unit {0}
AsksLeft image (ArmRow own arm (RaiseRow signal args beyond)) row = Unit {0}
AsksLeft image (ArmRow own arm (JumpRow target beyond)) row = AskedOf image row beyond

abbrev pub KindHolds : Image → List Row → (place : ℕ) → Kind → Type 0
KindHolds image table q FrameRow = Unit {0}
KindHolds image table q (ArmRow own arm reason) = ReasonHolds image table q reason

-- the rows of running arms tell searches and jumps that can go on
abbrev pub ArmsHold : Image → List Row → (top : ℕ) → Type 0
ArmsHold image table top = (q : ℕ) → q ≤ top → KindHolds image table q (row_at table q).kind

-- and so they do where an activation goes on
abbrev pub HoldsOn : Image → List Row → Sequel → Type 0
HoldsOn image table (Goes r) = ArmsHold image table r.top
HoldsOn image table Empty = Unit {0}
HoldsOn image table (Pending r) = ArmsHold image table r.top
HoldsOn image table (Ends end) = Unit {0}

-- an arm goes on, or the run ends
abbrev pub RunsArm : Sequel → Type 0
RunsArm (Goes r) = Unit {0}
RunsArm Empty = ⊥
RunsArm (Pending r) = ⊥
RunsArm (Ends end) = Unit {0}
