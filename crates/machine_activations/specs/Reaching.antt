-- Where the machine comes to, and what is shown there (rule of this project).
use Rattle.std.specs.Prelude.{◌≡◌, ◌≢◌, ℕ, suc, ◌+◌, List, [], ◌∷◌, Some, slice_get}
use Rattle.code_forms.specs.declared.instruction.Instruction.{Instruction}
use Rattle.code_forms.specs.declared.module_code.CodeEntry.{CodeEntry}
use Rattle.code_forms.specs.declared.module_code.CodeProcedure.{CodeProcedure}
use Rattle.object_files.specs.declared.image.Image.{Image}
use Rattle.machine_rules.specs.signaller.specs.declared.signal_id.SignalId.TheVariants.{BoundsFault as BoundsSignal, ZeroDivisor as ZeroSignal}
use Rattle.machine_rules.specs.declared.end.End.TheVariants.{Spent as TurnsSpent}
use Rattle.machine_rules.specs.State.{Active, Activations, Store, State, Runs, Ending, Ended, Stuck, Stepped, Goes, Stops}
use Rattle.machine_rules.specs.Signals.{raise}
use Rattle.machine_rules.specs.Steps.{perform, step, Ends}
use Rattle.machine_topmost.specs.declared.registers.Registers.{Registers}
use Rattle.machine_topmost.specs.declared.registers.Why.{Why}
use Rattle.machine_topmost.specs.declared.registers.Why.TheVariants.{Touches, Spent, BoundsFault, ZeroDivisor}
use Rattle.machine_topmost.specs.Flat.{Flat}
use Rattle.machine_activations.specs.declared.row.Layout.{Layout}
use Rattle.machine_activations.specs.declared.row.Row.{Row}
use Rattle.machine_activations.specs.Shows.{Shows}

-- the machine comes from one place to the other
pub data Reaches (image : Image) : Stepped → Stepped → Type 0 where
  already : (s : Stepped) → Reaches image s s
  steps_on : (s : State) (t : Stepped) → Reaches image (step image s) t → Reaches image (Goes s) t

-- it does not come to where something is not there
abbrev pub IsUnstuck : Image → Stepped → Type 0
IsUnstuck image s = (end : Ending) (last : Store) → Ends image s end last → end ≢ Stuck

-- from here it comes to where some activations are shown, with this store
pub record Shown (image : Image) (layout : Layout) (region : List ℕ) (table : List Row) (r : Registers) (s : Stepped) (m : Store) : Type 0 where
  pub top : Active
  pub rest : Activations
  pub procedure : CodeProcedure
  pub shows : Shows image layout region table r procedure top rest
  pub reaches : Reaches image s (Goes (Runs (top ∷ rest) m))

-- so many instructions later, with other globals of one instance and other turns
pub record Later (instance : ℕ) (m : Store) (count : ℕ) (globals : List ℕ) (turns : ℕ) (n : Store) : Type 0 where
  pub begun : n.begun ≡ m.begun + count
  pub own : n.globals instance ≡ globals
  pub others : (j : ℕ) → j ≢ instance → n.globals j ≡ m.globals j
  pub same_turns : n.turns ≡ turns
  pub started : (j : ℕ) → n.started j ≡ m.started j
  pub control : n.control ≡ m.control
  pub input : n.input ≡ m.input
  pub faulty : n.faulty ≡ m.faulty
  pub output : n.output ≡ m.output

-- what the machine does at the instruction at which the run of the topmost activation pauses
unfoldable pub pauses_so : Image → Why → Instruction → Active → Activations → Store → Stepped
pauses_so image Touches i a S m = perform image i a S m
pauses_so image Spent i a S m = Stops (Ended TurnsSpent) m
pauses_so image BoundsFault i a S m = raise image BoundsSignal [] a S m
pauses_so image ZeroDivisor i a S m = raise image ZeroSignal [] a S m

-- it comes to where the topmost activation, of the same procedure, stands at an instruction at which its run pauses
pub record Comes (image : Image) (layout : Layout) (table : List Row) (p : CodeProcedure) (a : Active) (S : Activations) (m : Store)
    (count : ℕ) (why : Why) (u : Flat) : Type 0 where
  pub top : Active
  pub rest : Activations
  pub store : Store
  pub same_instance : top.instance ≡ a.instance
  pub same_procedure : top.procedure ≡ a.procedure
  pub shows : Shows image layout u.region table u.registers p top rest
  pub later : Later a.instance m count u.globals u.turns store
  pub reaches : Reaches image (Goes (Runs (a ∷ S) m)) (Goes (Runs (top ∷ rest) store))
  pub entry : CodeEntry
  pub fetched : slice_get p.code u.registers.entry ≡ Some entry
  pub pauses : step image (Runs (top ∷ rest) store) ≡ pauses_so image why entry.instruction top rest (record store { begun = suc store.begun })
