-- The call that runs the arm that catches a signal.
use Rattle.std.proofs.Common.{◌≡◌, ℕ, ◌+◌, ◌<◌, List, length, Some, ap, subst, ◌∙◌, sym, arith}
use Rattle.std.proofs.lemmas.Option.{same_Some}
use Rattle.object_files.specs.declared.image.Image.{Image}
use Rattle.signaller.specs.declared.search.Search.{Search}
use Rattle.signaller.specs.declared.signal_id.SignalId.{SignalId}
use Rattle.machine_rules.specs.State.{Activations, Store, Seeks, Stepped, Goes}
use Rattle.machine_rules.specs.LookUps.{procedure_of}
use Rattle.machine_activations.specs.declared.calling.Sequel.{Sequel}
use Rattle.machine_activations.specs.declared.calling.Sequel.TheVariants.{Goes as GoesOn, Empty, Pending, Ends}
use Rattle.machine_activations.specs.declared.row.Layout.{Layout}
use Rattle.machine_activations.specs.declared.row.Reason.{Reason}
use Rattle.machine_activations.specs.declared.row.Reason.TheVariants.{Raise as RaiseRow}
use Rattle.machine_activations.specs.declared.row.Row.{Row}
use Rattle.machine_activations.specs.Below.{Over, Raised, Below}
use Rattle.machine_activations.specs.Frames.{row_at}
use Rattle.machine_activations.proofs.Reach.{two_ways}
use Rattle.machine_signals.specs.declared.seeking.Landed.{Landed}
use Rattle.machine_signals.specs.Arms.{AddsArm, Awaits, CanEnter}
use Rattle.machine_signals.specs.Indexed.{AsksIn}
use Rattle.machine_signals.specs.Raising.{ArmsHold, HoldsOn, RunsArm}
use Rattle.machine_signals.specs.Seeking.{CanSeek, IsLanding, Lands, Seeking}
use Rattle.machine_signals.proofs.ArmRows.{arms_entered}
use Rattle.machine_signals.proofs.Landing.{landing_awaits}

pub arm_runs : (table : List Row) (top place arm : ℕ) (reason : Reason) (table' : List Row) (sequel : Sequel) → AddsArm table top place arm reason table' sequel → RunsArm sequel
arm_runs table top place arm reason table' (GoesOn r) adds = tt
arm_runs table top place arm reason table' Empty adds = adds
arm_runs table top place arm reason table' (Pending r) adds = adds
arm_runs table top place arm reason table' (Ends end) adds = tt

module _ (image : Image) (layout : Layout) (region : List ℕ) (table : List Row) (top : ℕ) (signal : SignalId) (from count place : ℕ) (search : Search)
    (landed : Landed) (found : IsLanding image table place landed)
    (seeks : (words : List ℕ) (x : Over) (S : Activations) (args : List ℕ) (m : Store) → Below image layout words table x S → place < length S
    → Lands image signal args S m landed (Goes (Seeks signal args place search S m))) where
  pub lands_awaits : (s : Stepped) (m : Store) → Seeking image layout region table top signal from count place search s m
      → Awaits image layout region table top landed.place landed.arm (RaiseRow signal count landed.beyond) from count s m
  lands_awaits s m w =
      let h = w.high in let l = w.low in
      let lands = seeks region (Raised signal w.args) w.activations w.args m w.below (omega (arith, h, l)) in
      landing_awaits image layout region table top signal from count place search s m w landed found
      (record { holder = lands.holder; there = lands.there; by = two_ways image s _ _ w.reaches lands.by })

  pub can_enter : CanSeek image layout region table top signal from count place search
      → CanEnter image layout region table top landed.place landed.arm (RaiseRow signal count landed.beyond) from count
  can_enter can = record { start = can.start; store = can.store; awaits = lands_awaits can.start can.store can.seeking }

  -- the arm's row tells a search in its table
  pub holds_then : (table' : List Row) (sequel : Sequel) → AddsArm table top landed.place landed.arm (RaiseRow signal count landed.beyond) table' sequel → ArmsHold image table top
      → HoldsOn image table' sequel
  holds_then table' sequel adds holds =
      arms_entered image table table' top landed.place landed.arm (RaiseRow signal count landed.beyond) sequel adds holds
      (λ row instance procedure rows same is p is_p.
      let code : procedure_of image (row_at table landed.place).instance (row_at table landed.place).procedure ≡ Some p =
      ap (λ j. procedure_of image j (row_at table landed.place).procedure) (sym instance ∙ ap (λ (x : Row). x.instance) (sym is))
      ∙ ap (λ n. procedure_of image (row_at rows (top + 1)).instance n) (sym procedure ∙ ap (λ (x : Row). x.procedure) (sym is)) ∙ is_p in
      subst (λ q. AsksIn q landed.beyond) (same_Some found.procedure p (sym found.is ∙ code)) found.asks)
