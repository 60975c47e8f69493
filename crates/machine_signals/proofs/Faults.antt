-- Where the run of the topmost activation pauses at a fault, the machine raises it.
use Rattle.std.proofs.Common.{ℕ, suc, List, ◌∷◌, refl}
use Rattle.code_forms.specs.declared.module_code.CodeProcedure.{CodeProcedure}
use Rattle.object_files.specs.declared.image.Image.{Image}
use Rattle.signaller.specs.declared.signal_id.SignalId.TheVariants.{BoundsFault as BoundsSignal, ZeroDivisor as ZeroSignal}
use Rattle.machine_rules.specs.State.{Active, Activations, Store, Runs, Stepped, Goes}
use Rattle.machine_topmost.specs.declared.registers.Why.TheVariants.{BoundsFault, ZeroDivisor}
use Rattle.machine_topmost.specs.Flat.{Flat}
use Rattle.machine_activations.specs.declared.row.Layout.{Layout}
use Rattle.machine_activations.specs.declared.row.Row.{Row}
use Rattle.machine_activations.specs.Reaching.{Reaches, Comes, pauses_so}
use Rattle.machine_activations.proofs.Reach.{one_step, two_ways}
use Rattle.machine_signals.specs.Raising.{Raises}
use Rattle.machine_signals.proofs.Raisers.{predeclared_raises}

module _ (image : Image) (layout : Layout) (table : List Row) (p : CodeProcedure) (a : Active) (S : Activations) (m : Store) (count : ℕ) (u : Flat)
    (s : Stepped) (reaches : Reaches image s (Goes (Runs (a ∷ S) m))) where
  pub bounds_raises : (c : Comes image layout table p a S m count BoundsFault u) → Raises image layout u.region table u.registers BoundsSignal 0 s (record c.store { begun = suc c.store.begun })
  unfolding pauses_so
  bounds_raises c =
      predeclared_raises image layout u.region table u.registers BoundsSignal refl p c.top c.rest c.shows s (record c.store { begun = suc c.store.begun })
      (two_ways image s _ _ reaches (two_ways image _ _ _ c.reaches (one_step image (Runs (c.top ∷ c.rest) c.store) _ c.pauses)))

  pub divisor_raises : (c : Comes image layout table p a S m count ZeroDivisor u) → Raises image layout u.region table u.registers ZeroSignal 0 s (record c.store { begun = suc c.store.begun })
  unfolding pauses_so
  divisor_raises c =
      predeclared_raises image layout u.region table u.registers ZeroSignal refl p c.top c.rest c.shows s (record c.store { begun = suc c.store.begun })
      (two_ways image s _ _ reaches (two_ways image _ _ _ c.reaches (one_step image (Runs (c.top ∷ c.rest) c.store) _ c.pauses)))
