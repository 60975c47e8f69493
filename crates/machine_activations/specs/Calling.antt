-- What calls and returns stand on, and where they lead (rule of this project).
use Rattle.std.specs.Prelude.{◌≡◌, ℕ, ◌+◌, ◌-◌, ◌≤◌, List, [], length, Some, slice_get, slice_set}
use Rattle.code_forms.specs.declared.instruction.Instruction.{Instruction}
use Rattle.code_forms.specs.declared.module_code.CodeEntry.{CodeEntry}
use Rattle.code_forms.specs.declared.module_code.CodeProcedure.{CodeProcedure}
use Rattle.code_forms.specs.declared.module_code.ModuleCode.{ModuleCode}
use Rattle.object_files.specs.declared.image.Image.{Image}
use Rattle.machine_rules.specs.State.{Active, Activations, Store, Runs, Ended, Stepped, Goes}
use Rattle.machine_rules.specs.LookUps.{code_of, procedure_of, instruction_under}
use Rattle.machine_rules.specs.Moves.{limit, with}
use Rattle.machine_rules.specs.Calls.{pending}
use Rattle.machine_rules.specs.Steps.{Ends}
use Rattle.machine_topmost.specs.declared.registers.Registers.{Registers}
use Rattle.machine_activations.specs.declared.calling.Sequel.{Sequel}
use Rattle.machine_activations.specs.declared.calling.Sequel.TheVariants.{Goes as GoesOn, Empty, Pending, Ends as EndsSo}
use Rattle.machine_activations.specs.declared.row.Layout.{Layout}
use Rattle.machine_activations.specs.declared.row.Row.{Row}
use Rattle.machine_activations.specs.Below.{Called, Waits}
use Rattle.machine_activations.specs.Frames.{row_at, frame_row, with_frame, frame_registers}
use Rattle.machine_activations.specs.Shows.{IsPrepared, IsAmple, Shows}
use Rattle.machine_activations.specs.Reaching.{Reaches, IsUnstuck, Shown}

-- the code is that of the topmost activation
abbrev pub IsCodeOf : Image → ModuleCode → List Row → Registers → Type 0
IsCodeOf image code table r = code_of image (row_at table r.top).instance ≡ Some code

-- some activations of an image are shown, from which it does not get stuck
pub record Stands (code : ModuleCode) (layout : Layout) (region : List ℕ) (table : List Row) (r : Registers) : Type 0 where
  pub image : Image
  pub prepared : IsPrepared image layout
  pub is : IsCodeOf image code table r
  pub start : Stepped
  pub unstuck : IsUnstuck image start
  pub store : Store
  pub shown : Shown image layout region table r start store

-- the same of this image
pub record StandsIn (image : Image) (layout : Layout) (region : List ℕ) (table : List Row) (r : Registers) : Type 0 where
  pub start : Stepped
  pub unstuck : IsUnstuck image start
  pub store : Store
  pub shown : Shown image layout region table r start store

-- the topmost activation stands at an instruction
pub record IsAt (code : ModuleCode) (table : List Row) (r : Registers) (i : Instruction) : Type 0 where
  pub procedure : CodeProcedure
  pub is : slice_get code.procedures (row_at table r.top).procedure ≡ Some procedure
  pub entry : CodeEntry
  pub fetched : slice_get procedure.code r.entry ≡ Some entry
  pub at : entry.instruction ≡ i

-- a procedure of an instance can be entered: its arguments are operands of the topmost activation, which then waits for its results
pub record Enters (image : Image) (layout : Layout) (region : List ℕ) (table : List Row) (r : Registers)
    (called : CodeProcedure) (instance number : ℕ) : Type 0 where
  pub top : Active
  pub rest : Activations
  pub procedure : CodeProcedure
  pub shows : Shows image layout region table r procedure top rest
  pub is : procedure_of image instance number ≡ Some called
  pub enough : called.args ≤ length top.operands
  pub waits : Waits image (Called instance number) procedure r.entry (length top.operands - called.args)

-- of some image
pub record EntersSome (layout : Layout) (region : List ℕ) (table : List Row) (r : Registers) (called : CodeProcedure) (instance number : ℕ) : Type 0 where
  pub image : Image
  pub prepared : IsPrepared image layout
  pub enters : Enters image layout region table r called instance number

-- the topmost activation does the call that had to start an instance first
pub record CallsThen (image : Image) (layout : Layout) (region : List ℕ) (table : List Row) (r : Registers) (s : Stepped) (m : Store) : Type 0 where
  pub top : Active
  pub rest : Activations
  pub procedure : CodeProcedure
  pub shows : Shows image layout region table r procedure top rest
  pub reaches : Reaches image s (with (instruction_under image top) m λ i. pending image i top rest m)

-- the region has the parts of the activations that stand then
abbrev pub IsAmpleFor : Layout → List ℕ → List Row → Sequel → Type 0
IsAmpleFor layout region table (GoesOn r) = IsAmple layout region table r.top
IsAmpleFor layout region table Empty = length table ≡ limit
IsAmpleFor layout region table (Pending r) = IsAmple layout region table r.top
IsAmpleFor layout region table (EndsSo end) = length table ≡ limit

-- a frame stands on top then, and the activation below waits; or the run ends, and the rows are as they were. A call leads to nothing else
abbrev pub AddsFrame : Layout → (table : List Row) → Registers → (table' : List Row) → Sequel → Type 0
AddsFrame layout table r table' (GoesOn r') =
    (args : ℕ) × (instance : ℕ) × (procedure : ℕ) × (r' ≡ frame_registers r layout) × (table' ≡ with_frame table r layout args instance procedure)
AddsFrame layout table r table' Empty = ⊥
AddsFrame layout table r table' (Pending r') = ⊥
AddsFrame layout table r table' (EndsSo end) = table' ≡ table

-- the activation under the topmost one goes on or is to do its call again, or none is left
abbrev pub GoesBelow : Registers → Sequel → Type 0
GoesBelow r (GoesOn r') = r'.top + 1 ≡ r.top
GoesBelow r Empty = r.top ≡ 0
GoesBelow r (Pending r') = r'.top + 1 ≡ r.top
GoesBelow r (EndsSo end) = ⊥

-- the first frame stands then, or the run ends and the rows are as they were
abbrev pub AddsFirst : (table table' : List Row) → Sequel → Type 0
AddsFirst table table' (GoesOn r') = (instance : ℕ) × (r'.top ≡ 0) × (table' ≡ slice_set table 0 (frame_row instance 0))
AddsFirst table table' Empty = ⊥
AddsFirst table table' (Pending r') = ⊥
AddsFirst table table' (EndsSo end) = table' ≡ table

-- where the machine comes to, with this store
unfoldable pub LeadsTo : Image → Layout → List ℕ → List Row → Stepped → Store → Sequel → Type 0
LeadsTo image layout region table s m (GoesOn r) = Shown image layout region table r s m
LeadsTo image layout region table s m Empty = Reaches image s (Goes (Runs [] m))
LeadsTo image layout region table s m (Pending r) = CallsThen image layout region table r s m
LeadsTo image layout region table s m (EndsSo end) = Ends image s (Ended end) m
