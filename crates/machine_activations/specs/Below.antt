-- How the region and the table show the activations that wait, each for what stands over it (rule of this project).
use Rattle.std.specs.Prelude.{◌≡◌, ℕ, zero, suc, ◌+◌, ◌≤◌, List, [], ◌∷◌, length, true, Option, Some, None, slice_get, nat_eq, if◌then◌else◌}
use Rattle.code_forms.specs.declared.instruction.Instruction.TheVariants.{CallLink}
use Rattle.code_forms.specs.declared.module_code.CodeEntry.{CodeEntry}
use Rattle.code_forms.specs.declared.module_code.CodeProcedure.{CodeProcedure}
use Rattle.code_forms.specs.Routine.{Begins, spots}
use Rattle.object_files.specs.declared.image.Image.{Image}
use Rattle.machine_rules.specs.signaller.specs.declared.signal_id.SignalId.{SignalId}
use Rattle.machine_rules.specs.State.{ForRaise, ForJump, Role, Frame, InArm, Active, Activations}
use Rattle.machine_rules.specs.LookUps.{procedure_of}
use Rattle.machine_rules.specs.Signals.{takes_back}
use Rattle.machine_topmost.specs.Flat.{part}
use Rattle.machine_activations.specs.declared.row.Layout.{Layout}
use Rattle.machine_activations.specs.declared.row.Row.{Row}
use Rattle.machine_activations.specs.Placed.{floor_at, Placed}
use Rattle.machine_activations.specs.Rows.{Rowed}

-- what stands over an activation that waits
pub data Over : Type 0 where
  -- a frame of the procedure of this number of an instance: it was called; with 0 it is a body, which the call had to start first
  Called : (instance procedure : ℕ) → Over
  -- a signal that it raised, with its arguments
  Raised : SignalId → (args : List ℕ) → Over
  -- a jump, which gives it up or goes on in it
  Left : Over

-- an activation over another one
unfoldable pub over_by : (instance procedure : ℕ) → Role (List ℕ) → Over
over_by j n (Frame variables) = Called j n
over_by j n (InArm own arm (ForRaise signal args beyond)) = Raised signal args
over_by j n (InArm own arm (ForJump target beyond)) = Left

abbrev pub over : Active → Over
over a = over_by a.instance a.procedure a.role

-- the arguments of a raise stand above the operands of the activation that raised it
unfoldable pub args_over : Over → List ℕ
args_over (Called j n) = []
args_over (Raised signal args) = args
args_over Left = []

-- behind an entry comes one that has so many operands
pub record GoesOn (p : CodeProcedure) (entry depth : ℕ) : Type 0 where
  pub next : CodeEntry
  pub is : slice_get p.code (entry + 1) ≡ Some next
  pub deep : next.depth ≡ depth

-- it stands at the call of a link with its operands
pub record IsAtLink (p : CodeProcedure) (entry count : ℕ) : Type 0 where
  pub here : CodeEntry
  pub is : slice_get p.code entry ≡ Some here
  pub link : ℕ
  pub calls : here.instruction ≡ CallLink link
  pub deep : here.depth ≡ count

-- with the words that what stands over it gives it goes on
unfoldable pub Waits : Image → Over → CodeProcedure → (entry count : ℕ) → Type 0
Waits image (Called j zero) p entry count = IsAtLink p entry count
Waits image (Called j (suc n)) p entry count =
    (called : CodeProcedure) × (procedure_of image j (suc n) ≡ Some called) × GoesOn p entry (count + called.results)
Waits image (Raised signal args) p entry count = (n : ℕ) → takes_back image signal n ≡ true → GoesOn p entry (count + n)
Waits image Left p entry count = Unit {0}

-- the row keeps where it waits, and how many operands it has
pub record Kept (image : Image) (table : List Row) (over : Over) (q : ℕ) (p : CodeProcedure) (a : Active) : Type 0 where
  pub row : Row
  pub there : slice_get table q ≡ Some row
  pub begins : Begins (spots p.code) row.entry a.offset
  pub same_count : row.count ≡ length a.operands
  pub waits : Waits image over p row.entry row.count

pub record Waiting (image : Image) (layout : Layout) (region : List ℕ) (table : List Row) (over : Over) (q : ℕ) (a : Active) : Type 0 where
  pub procedure : CodeProcedure
  pub is : procedure_of image a.instance a.procedure ≡ Some procedure
  pub placed : Placed layout region q procedure.frame a
  pub args : part region (floor_at layout q + length a.operands) (length (args_over over)) ≡ args_over over
  pub room : length a.operands + length (args_over over) ≤ procedure.depth
  pub rowed : Rowed table q a
  pub kept : Kept image table over q procedure a

-- The frame to which an arm belongs.

pub record Home : Type 0 where
  pub instance : ℕ
  pub procedure : ℕ

unfoldable pub home_of : Role (List ℕ) → (instance procedure : ℕ) → Option Home
home_of (Frame variables) j n = Some (record { instance = j; procedure = n })
home_of (InArm own arm why) j n = None

-- of which instance and procedure the frame at a place is
unfoldable pub frame_at : Activations → (place : ℕ) → Option Home
frame_at [] q = None
frame_at (a ∷ S) q = if nat_eq q (length S) then home_of a.role a.instance a.procedure else frame_at S q

-- an arm's frame is below it, of the arm's instance and procedure
unfoldable pub OwnedBy : Role (List ℕ) → (instance procedure : ℕ) → Activations → Type 0
OwnedBy (Frame variables) j n S = Unit {0}
OwnedBy (InArm own arm why) j n S = frame_at S own ≡ Some (record { instance = j; procedure = n })

abbrev pub Owned : Active → Activations → Type 0
Owned a S = OwnedBy a.role a.instance a.procedure S

-- the activations under what stands over them
unfoldable pub Below : Image → Layout → (region : List ℕ) → (table : List Row) → Over → Activations → Type 0
Below image layout region table x [] = Unit {0}
Below image layout region table x (a ∷ S) =
    Waiting image layout region table x (length S) a × Owned a S × Below image layout region table (over a) S
