-- What each pause of the topmost activation comes to, and the host's signal at the end of the input.
use Rattle.std.proofs.Common.{ℕ, suc, List, [], ◌∷◌, refl, sym, subst}
use Rattle.object_files.specs.declared.image.Image.{Image}
use Rattle.signaller.specs.declared.signal_id.SignalId.TheVariants.{BoundsFault as BoundsSignal, ZeroDivisor as ZeroSignal, NoInput}
use Rattle.machine_rules.specs.declared.end.End.TheVariants.{Spent as TurnsSpent}
use Rattle.machine_rules.specs.State.{Store, Runs, Ended, Stepped, Goes}
use Rattle.machine_rules.specs.Signals.{raise}
use Rattle.machine_rules.specs.Steps.{Ends, stops, goes}
use Rattle.machine_topmost.specs.declared.registers.Registers.{Registers}
use Rattle.machine_topmost.specs.declared.registers.Why.{Why}
use Rattle.machine_topmost.specs.declared.registers.Why.TheVariants.{Touches, Spent, BoundsFault, ZeroDivisor}
use Rattle.machine_activations.specs.declared.row.Layout.{Layout}
use Rattle.machine_activations.specs.declared.row.Row.{Row}
use Rattle.machine_activations.specs.Reaching.{Shown, pauses_so}
use Rattle.machine_activations.proofs.Reach.{one_step, two_ways, ends_alike}
use Rattle.machine_calls.specs.Hosting.{Raises as RaisesNoInput}
use Rattle.machine_signals.specs.Raising.{Raises}
use Rattle.machine_signals.proofs.Raisers.{predeclared_raises}
use Rattle.frame_machine.specs.SoFar.{PausesAt}

module _ (image : Image) (layout : Layout) (region : List ℕ) (table : List Row) (r : Registers) (s : Stepped) (m : Store) where
  abbrev began : Store
  began = record m { begun = suc m.begun }

  -- some activations are shown
  pub pause_shown : (why : Why) → PausesAt image layout region table r why s m → Shown image layout region table r s m
  pause_shown why q = record { top = q.top; rest = q.rest; procedure = q.procedure; shows = q.shows; reaches = q.reaches }

  pub touches_shown : PausesAt image layout region table r Touches s m → Shown image layout region table r s m
  touches_shown q = pause_shown Touches q

  -- no turn is left
  pub spent_ends : PausesAt image layout region table r Spent s m → Ends image s (Ended TurnsSpent) began
  unfolding pauses_so
  spent_ends q =
      ends_alike image _ _ q.reaches (Ended TurnsSpent) began
      (goes (Runs (q.top ∷ q.rest) m) (Ended TurnsSpent) began (subst (λ x. Ends image x (Ended TurnsSpent) began) (sym q.pauses) (stops (Ended TurnsSpent) began)))

  -- a fault is raised
  pub bounds_raises : PausesAt image layout region table r BoundsFault s m → Raises image layout region table r BoundsSignal 0 s began
  unfolding pauses_so
  bounds_raises q =
      predeclared_raises image layout region table r BoundsSignal refl q.procedure q.top q.rest q.shows s began
      (two_ways image s (Goes (Runs (q.top ∷ q.rest) m)) (raise image BoundsSignal [] q.top q.rest began) q.reaches (one_step image (Runs (q.top ∷ q.rest) m) (raise image BoundsSignal [] q.top q.rest began) q.pauses))

  pub divisor_raises : PausesAt image layout region table r ZeroDivisor s m → Raises image layout region table r ZeroSignal 0 s began
  unfolding pauses_so
  divisor_raises q =
      predeclared_raises image layout region table r ZeroSignal refl q.procedure q.top q.rest q.shows s began
      (two_ways image s (Goes (Runs (q.top ∷ q.rest) m)) (raise image ZeroSignal [] q.top q.rest began) q.reaches (one_step image (Runs (q.top ∷ q.rest) m) (raise image ZeroSignal [] q.top q.rest began) q.pauses))

  -- none is left to read
  pub no_input_raises : RaisesNoInput image layout region table r s m → Raises image layout region table r NoInput 0 s m
  no_input_raises q = predeclared_raises image layout region table r NoInput refl q.procedure q.top q.rest q.shows s m q.reaches
