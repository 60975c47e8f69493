-- An arm that catches a signal can be run.
use Rattle.std.proofs.Common.{◌≡◌, ℕ, ◌<◌, ◌≤◌, List, length, refl, sym, ap, ◌∙◌, arith}
use Rattle.std.proofs.lemmas.Option.{same_Some, slice_get_within}
use Rattle.object_files.specs.declared.image.Image.{Image}
use Rattle.signaller.specs.declared.search.Search.{Search}
use Rattle.signaller.specs.declared.signal_id.SignalId.{SignalId}
use Rattle.machine_rules.specs.State.{ForRaise, Active, Store, Stepped}
use Rattle.machine_rules.specs.LookUps.{procedure_of}
use Rattle.machine_topmost.proofs.Copied.{length-part}
use Rattle.machine_activations.specs.declared.row.Layout.{Layout}
use Rattle.machine_activations.specs.declared.row.Reason.TheVariants.{Raise as RaiseRow}
use Rattle.machine_activations.specs.declared.row.Row.{Row}
use Rattle.machine_activations.specs.Rows.{IsWhy}
use Rattle.machine_activations.specs.Below.{Raised, over_by}
use Rattle.machine_activations.specs.Frames.{row_at}
use Rattle.machine_signals.specs.declared.seeking.Landed.{Landed}
use Rattle.machine_signals.specs.Arms.{Awaits}
use Rattle.machine_signals.specs.Seeking.{Lands, IsLanding, Seeking}
use Rattle.machine_signals.specs.Indexed.{IsAsked}
use Rattle.machine_signals.proofs.Places.{At, place_at, at_instance, at_procedure, at_asked}

module _ (image : Image) (layout : Layout) (region : List ℕ) (table : List Row) (top : ℕ) (signal : SignalId) (from count place : ℕ) (search : Search)
    (s : Stepped) (m : Store) (w : Seeking image layout region table top signal from count place search s m) where
  -- each activation that waits can be asked
  pub each_asked : (q : ℕ) → q ≤ place → IsAsked image table q
  each_asked q low =
      let h = w.high in let l = w.low in
      at_asked image layout region table w.activations q (place_at image layout region table (Raised signal w.args) w.activations q w.below (omega (arith, h, l, low)))

  pub place_within : place < length table
  place_within =
      let h = w.high in let l = w.low in
      let t = place_at image layout region table (Raised signal w.args) w.activations place w.below (omega (arith, h, l)) in
      slice_get_within table place t.waiting.rowed.row t.waiting.rowed.there

  module _ (landed : Landed) (found : IsLanding image table place landed) (lands : Lands image signal w.args w.activations m landed s) where
    low : landed.place ≤ top
    low = let l = found.low in let k = w.low in omega (arith, l, k)

    there : At image layout region table w.activations landed.place
    there = place_at image layout region table (Raised signal w.args) w.activations landed.place w.below (let h = w.high in let l = low in omega (arith, h, l))

    holder_is : there.active ≡ lands.holder
    holder_is = same_Some there.active lands.holder (sym there.is ∙ lands.there)

    holder_instance : (row_at table landed.place).instance ≡ lands.holder.instance
    holder_instance = at_instance image layout region table w.activations landed.place there ∙ ap (λ (a : Active). a.instance) holder_is

    holder_procedure : (row_at table landed.place).procedure ≡ lands.holder.procedure
    holder_procedure = at_procedure image layout region table w.activations landed.place there ∙ ap (λ (a : Active). a.procedure) holder_is

    pub landing_awaits : Awaits image layout region table top landed.place landed.arm (RaiseRow signal count landed.beyond) from count s m
    unfolding over_by IsWhy
    landing_awaits = record {
      activations = w.activations;
      holder = lands.holder;
      why = ForRaise signal w.args landed.beyond;
      words = w.args;
      below = w.below;
      high = w.high;
      low = low;
      there = lands.there;
      procedure = found.procedure;
      is = ap (λ j. procedure_of image j lands.holder.procedure) (sym holder_instance)
          ∙ ap (λ n. procedure_of image (row_at table landed.place).instance n) (sym holder_procedure) ∙ found.is;
      has = found.has;
      same_why = (refl, sym (length-part region from count w.inside) ∙ ap length w.source, refl);
      source = w.source;
      inside = w.inside;
      reaches = lands.by;
    }
