-- What a call through a link stands on, and where it leads (rule of this project).
use Rattle.std.specs.Prelude.{◌≡◌, ℕ, suc, ◌-◌, ◌≤◌, List, Bool, Some, slice_get, vec_capacity}
use Rattle.code_forms.specs.declared.instruction.Instruction.{Instruction}
use Rattle.code_forms.specs.declared.instruction.Instruction.TheVariants.{CallLink}
use Rattle.code_forms.specs.declared.module_code.CodeEntry.{CodeEntry}
use Rattle.code_forms.specs.declared.module_code.CodeProcedure.{CodeProcedure}
use Rattle.code_forms.specs.declared.module_code.ModuleCode.{ModuleCode}
use Rattle.object_files.specs.declared.image.Image.{Image}
use Rattle.object_files.specs.declared.image.Link.{Link}
use Rattle.machine_rules.specs.State.{Active, Activations, Store, Stepped}
use Rattle.machine_rules.specs.LookUps.{bound_to}
use Rattle.machine_rules.specs.Calls.{host}
use Rattle.machine_topmost.specs.declared.registers.Registers.{Registers}
use Rattle.machine_activations.specs.declared.row.Layout.{Layout}
use Rattle.machine_activations.specs.declared.row.Row.{Row}
use Rattle.machine_activations.specs.declared.stack.Stack.{Stack}
use Rattle.machine_activations.specs.Calling.{IsCodeOf, IsAt, IsAmpleFor, AddsFrame, Enters, CallsThen, LeadsTo, StandsIn}
use Rattle.machine_activations.specs.Frames.{row_at}
use Rattle.machine_activations.specs.Reaching.{Reaches, IsUnstuck, Shown}
use Rattle.machine_activations.specs.Shows.{IsAmple, IsPrepared, Shows}
use Rattle.machine_activations.specs.Stacks.{on}
use Rattle.machine_calls.specs.declared.host.HostProcedure.TheVariants.{Write}
use Rattle.machine_calls.specs.declared.host.Writing.{Writing}
use Rattle.machine_calls.specs.declared.linking.LinkSequel.{LinkSequel}
use Rattle.machine_calls.specs.declared.linking.LinkSequel.TheVariants.{Done, Host}
use Rattle.machine_calls.specs.Hosts.{host_is, CallsHost}
use Rattle.machine_calls.specs.Started.{ShowsStarted}

-- the topmost activation stands at an instruction of its code
pub record StandsAt (image : Image) (table : List Row) (r : Registers) (i : Instruction) : Type 0 where
  pub code : ModuleCode
  pub is_code : IsCodeOf image code table r
  pub at : IsAt code table r i

-- a call, for which an instance was started first, is done now, and the machine is not stuck
pub record WaitsToCall (image : Image) (layout : Layout) (region : List ℕ) (table : List Row) (r : Registers) : Type 0 where
  pub start : Stepped
  pub unstuck : IsUnstuck image start
  pub store : Store
  pub then : CallsThen image layout region table r start store

-- the topmost activation stands at the call of a link that is bound to something
pub record CallsLink (image : Image) (layout : Layout) (region : List ℕ) (table : List Row) (r : Registers) (number : ℕ) : Type 0 where
  pub top : Active
  pub rest : Activations
  pub procedure : CodeProcedure
  pub shows : Shows image layout region table r procedure top rest
  pub entry : CodeEntry
  pub fetched : slice_get procedure.code r.entry ≡ Some entry
  pub calls : entry.instruction ≡ CallLink number
  pub bound : Link
  pub is_bound : bound_to image top.instance number ≡ Some bound

-- the body of an instance can be entered on top
pub record EntersBody (image : Image) (layout : Layout) (region : List ℕ) (table : List Row) (r : Registers) (instance : ℕ) : Type 0 where
  pub body : CodeProcedure
  pub none : body.args ≡ 0
  pub enters : Enters image layout region table r body instance 0

-- the region has the parts of the activations that stand then
abbrev pub IsAmpleForLink : Layout → List ℕ → List Row → Registers → LinkSequel → Type 0
IsAmpleForLink layout region table r (Done sequel) = IsAmpleFor layout region table sequel
IsAmpleForLink layout region table r (Host h) = IsAmple layout region table r.top

-- a stack has room so too, and its places lie where they did
pub record KeepsRoomForLink (s s' : Stack) (r : Registers) (sequel : LinkSequel) : Type 0 where
  pub ample : on s' IsAmpleForLink r sequel
  pub same_layout : s'.layout ≡ s.layout
  pub reserved : vec_capacity s.region ≤ vec_capacity s'.region

-- a frame stands on top then; or the run ends or the host is called, and the rows are as they were
abbrev pub AddsFrameForLink : Layout → (table : List Row) → Registers → (table' : List Row) → LinkSequel → Type 0
AddsFrameForLink layout table r table' (Done sequel) = AddsFrame layout table r table' sequel
AddsFrameForLink layout table r table' (Host h) = table' ≡ table

-- where the machine comes to: what comes next, or to the call of the host's procedure
unfoldable pub LinkLeads : Image → Layout → List ℕ → List Row → Registers → Stepped → Store → LinkSequel → Type 0
LinkLeads image layout region table r s m (Done sequel) = LeadsTo image layout region table s m sequel
LinkLeads image layout region table r s m (Host h) =
    (e : CallsHost image layout region table r (host_is h)) × Reaches image s (host image (host_is h) e.top e.rest m)

-- and some instances were started, as the marks show
pub record LinkedTo (image : Image) (layout : Layout) (region : List ℕ) (table : List Row) (r : Registers) (marks : List Bool)
    (s : Stepped) (m : Store) (sequel : LinkSequel) : Type 0 where
  pub started : ℕ → Bool
  pub shown : ShowsStarted marks started
  pub leads : LinkLeads image layout region table r s (record m { started = started }) sequel

-- somewhere the topmost activation, of this instance, stands at an instruction, and the machine is not stuck
pub record StandsSomewhere (image : Image) (instance : ℕ) (i : Instruction) : Type 0 where
  pub layout : Layout
  pub region : List ℕ
  pub table : List Row
  pub r : Registers
  pub prepared : IsPrepared image layout
  pub stands : StandsIn image layout region table r
  pub at : StandsAt image table r i
  pub own : instance ≡ (row_at table r.top).instance

-- A procedure that writes is called at once: it is found, and a turn is left for it.
abbrev pub CallsWriting : Image → Layout → List ℕ → List Row → Registers → (turns : ℕ) → Writing → Type 0
CallsWriting image layout region table r turns writing =
    (s : Stepped) (m : Store) → m.turns ≡ turns → Shown image layout region table r s m
    → LinkLeads image layout region table r s (record m { turns = turns - 1; begun = suc m.begun }) (Host (Write writing))
