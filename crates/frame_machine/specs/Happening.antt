-- On what the pause of the topmost activation stands, and what the rows of arms hold afterwards (rule of this project).
use Rattle.std.specs.Prelude.{List, Bool, true, false, Option, Some, None}
use Rattle.code_forms.specs.declared.instruction.Instruction.{Instruction}
use Rattle.code_forms.specs.declared.instruction.Instruction.TheVariants.{Call, CallLink, Return}
use Rattle.object_files.specs.declared.image.Image.{Image}
use Rattle.machine_rules.specs.State.{Store, Stepped}
use Rattle.machine_topmost.specs.declared.registers.Registers.{Registers}
use Rattle.machine_topmost.specs.declared.registers.Why.{Why}
use Rattle.machine_activations.specs.declared.calling.Sequel.TheVariants.{Goes}
use Rattle.machine_activations.specs.declared.row.Row.{Row}
use Rattle.machine_activations.specs.Reaching.{IsUnstuck}
use Rattle.machine_activations.specs.Stacks.{on}
use Rattle.machine_calls.specs.declared.linking.LinkSequel.{LinkSequel}
use Rattle.machine_calls.specs.declared.linking.LinkSequel.TheVariants.{Done, Host}
use Rattle.machine_signals.specs.Raising.{ArmsHold, HoldsOn}
use Rattle.machine_ready.specs.declared.prepared.Prepared.{Prepared}
use Rattle.frame_machine.specs.SoFar.{PausesAt}

-- the run of the topmost activation pauses so, from some state on from which the machine does not get stuck
pub record CanPause (image : Image) (p : Prepared) (r : Registers) (why : Why) : Type 0 where
  pub start : Stepped
  pub unstuck : IsUnstuck image start
  pub store : Store
  pub pauses : on p.stack (PausesAt image) r why start store

-- the rows of running arms tell searches and jumps that can go on, where an activation goes on or calls the host
abbrev pub HoldsOnLink : Image → List Row → Registers → LinkSequel → Type 0
HoldsOnLink image rows r (Done sequel) = HoldsOn image rows sequel
HoldsOnLink image rows r (Host h) = ArmsHold image rows r.top

-- where a call or an arm leads: to the activation that goes on with these registers, unless something else is told
abbrev pub linked_or : Option LinkSequel → Registers → LinkSequel
linked_or None r = Done (Goes r)
linked_or (Some sequel) r = sequel

-- an instruction that calls or returns
abbrev pub is_call : Instruction → Bool
is_call (Call number) = true
is_call (CallLink number) = true
is_call Return = true
is_call _ = false
