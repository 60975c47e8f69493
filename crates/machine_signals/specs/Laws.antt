-- The laws on which a run stands that makes these calls (rule of this project).
use Rattle.std.specs.Prelude.{◌≡◌, ℕ, suc, ◌+◌, ◌<◌, List, [], ◌∷◌, length, Bool, true, false}
use Rattle.code_forms.specs.declared.module_code.CodeProcedure.{CodeProcedure}
use Rattle.object_files.specs.declared.image.Image.{Image}
use Rattle.signaller.specs.declared.signal_id.SignalId.{SignalId}
use Rattle.signaller.specs.declared.signal_id.SignalId.TheVariants.{Own, BoundsFault, ZeroDivisor, NoInput, Unnamed}
use Rattle.machine_rules.specs.State.{Active, Activations, Store, Runs, Stepped, Goes}
use Rattle.machine_rules.specs.Signals.{raise}
use Rattle.machine_topmost.specs.declared.registers.Registers.{Registers}
use Rattle.machine_topmost.specs.declared.registers.Why.TheVariants.{BoundsFault as BoundsPause, ZeroDivisor as DivisorPause}
use Rattle.machine_topmost.specs.Flat.{Flat}
use Rattle.machine_activations.specs.declared.row.Layout.{Layout}
use Rattle.machine_activations.specs.declared.row.Row.{Row}
use Rattle.machine_activations.specs.Frames.{with_frame}
use Rattle.machine_activations.specs.Reaching.{Reaches, Comes}
use Rattle.machine_activations.specs.Shows.{Shows}
use Rattle.machine_signals.specs.Raising.{ArmsHold, Raises}

-- where the run of the topmost activation pauses at a fault, it raises the fault's signal with no arguments
pub record FaultsRaise : Type 0 where
  pub bounds : (image : Image) (layout : Layout) (table : List Row) (p : CodeProcedure) (a : Active) (S : Activations) (m : Store) (count : ℕ) (u : Flat)
      (s : Stepped) → Reaches image s (Goes (Runs (a ∷ S) m)) → (c : Comes image layout table p a S m count BoundsPause u)
      → Raises image layout u.region table u.registers BoundsFault 0 s (record c.store { begun = suc c.store.begun })
  pub divisor : (image : Image) (layout : Layout) (table : List Row) (p : CodeProcedure) (a : Active) (S : Activations) (m : Store) (count : ℕ) (u : Flat)
      (s : Stepped) → Reaches image s (Goes (Runs (a ∷ S) m)) → (c : Comes image layout table p a S m count DivisorPause u)
      → Raises image layout u.region table u.registers ZeroDivisor 0 s (record c.store { begun = suc c.store.begun })

abbrev pub is_own : SignalId → Bool
is_own (Own j k) = true
is_own BoundsFault = false
is_own ZeroDivisor = false
is_own NoInput = false
is_own Unnamed = false

-- where activations are shown and the machine comes to the raise of a predeclared signal, that is raised with no arguments
abbrev pub PredeclaredRaise : Type 0
PredeclaredRaise = (image : Image) (layout : Layout) (region : List ℕ) (table : List Row) (r : Registers) (signal : SignalId) → is_own signal ≡ false
    → (p : CodeProcedure) (a : Active) (S : Activations) → Shows image layout region table r p a S → (s : Stepped) (m : Store)
    → Reaches image s (raise image signal [] a S m) → Raises image layout region table r signal 0 s m

-- the rows of running arms hold on where a frame is made on top
abbrev pub FramesKeepArms : Type 0
FramesKeepArms = (image : Image) (table : List Row) (r : Registers) (layout : Layout) (args instance procedure : ℕ) → r.top < length table
    → ArmsHold image table r.top → ArmsHold image (with_frame table r layout args instance procedure) (r.top + 1)
