-- The way of a signal from table to table, over the activations that the region shows.
use Rattle.std.proofs.Common.{◌≡◌, ℕ, suc, ◌<◌, List, length, true, Some, sym, ap, subst, ◌∙◌, arith}
use Rattle.std.proofs.lemmas.Option.{same_Some, slice_get-get_or}
use Rattle.code_forms.specs.declared.module_code.CodeEntry.{CodeEntry}
use Rattle.code_forms.specs.declared.module_code.CodeProcedure.{CodeProcedure}
use Rattle.code_forms.specs.declared.module_code.Phrase.{Phrase}
use Rattle.code_forms.proofs.Ordered.{spot_within}
use Rattle.object_files.specs.declared.image.Image.{Image}
use Rattle.signaller.specs.declared.search.Found.{Found}
use Rattle.signaller.specs.declared.search.Found.TheVariants.{Arm as FoundArm, Beyond}
use Rattle.signaller.specs.declared.search.Search.{Search}
use Rattle.signaller.specs.declared.signal_id.SignalId.{SignalId}
use Rattle.signaller.specs.Search.{search_at, next_arm}
use Rattle.machine_rules.specs.declared.end.End.TheVariants.{Uncaught}
use Rattle.machine_rules.specs.State.{Active, Activations, Store, Seeks, Ending, Ended, Stepped, Goes, Stops}
use Rattle.machine_rules.specs.LookUps.{procedure_of, links_of, phrases_under}
use Rattle.machine_rules.specs.Activations.{activation_at, owner}
use Rattle.machine_rules.specs.Moves.{with}
use Rattle.machine_rules.specs.Signals.{around, outward, asked, seek}
use Rattle.machine_rules.specs.Steps.{step, Ends, stops, goes}
use Rattle.machine_rules.proofs.Arming.{phrases_are}
use Rattle.machine_activations.specs.declared.row.Layout.{Layout}
use Rattle.machine_activations.specs.declared.row.Row.{Row}
use Rattle.machine_activations.specs.Below.{Over, Below}
use Rattle.machine_activations.specs.Frames.{row_at, owner_place}
use Rattle.machine_activations.specs.Reaching.{Reaches}
use Rattle.machine_activations.proofs.Located.{at_offset}
use Rattle.machine_activations.proofs.Reach.{one_step, two_ways, ends_alike}
use Rattle.machine_signals.specs.Indexed.{BeginsThere}
use Rattle.machine_signals.specs.Seeking.{Lands}
use Rattle.machine_signals.proofs.Places.{At, place_at, at_instance, at_owner, at_entry, at_code}

module _ (image : Image) (layout : Layout) (region : List ℕ) (table : List Row) (x : Over) (S : Activations) (below : Below image layout region table x S) where
  at : (q : ℕ) → q < length S → At image layout region table S q
  at q less = place_at image layout region table x S q below less

  -- a search that begins about the entry of a place is that of the activation there
  pub around_is : (q : ℕ) (less : q < length S) (search : Search) → BeginsThere image true (row_at table q) search
      → (b : Active) × (activation_at S q ≡ Some b) × (around image b ≡ search)
  unfolding around
  around_is q less search begins =
      let t = at q less in
      let p = t.waiting.procedure in
      let b = at_entry image layout region table S q t in
      let e : CodeEntry = (record { at = t.active.offset; depth = 0; instruction = b.spot.instruction }) in
      let here = slice_get-get_or p.code (row_at table q).entry e (spot_within p.code (row_at table q).entry b.spot b.is) in
      let offset = at_offset p.code (row_at table q).entry t.active.offset _ here b in (
        t.active,
        t.is,
        ap (λ (l : List Phrase). search_at true l t.active.offset) (phrases_are image t.active p t.waiting.is)
            ∙ ap (λ o. search_at true p.phrases o) (sym offset)
            ∙ sym (begins p _ (at_code image layout region table S q t) here),
      )

  module _ (signal : SignalId) (args : List ℕ) (m : Store) (q : ℕ) (less : q < length S) (search : Search) (p : CodeProcedure)
      (is : procedure_of image (row_at table q).instance (row_at table q).procedure ≡ Some p) where
    abbrev t : At image layout region table S q
    t = at q less

    same_procedure : t.waiting.procedure ≡ p
    same_procedure = same_Some t.waiting.procedure p (sym (at_code image layout region table S q t) ∙ is)

    abbrev answer : Found
    answer = next_arm p.phrases search (links_of image (row_at table q).instance) signal

    asks : step image (Seeks signal args q search S m) ≡ asked image signal args t.active q answer S m
    unfolding step seek with
    asks =
        ap (λ o. with o m (λ (b : Active). asked image signal args b q (next_arm (phrases_under image b) search (links_of image b.instance) signal) S m)) t.is
        ∙ ap (λ (l : List Phrase). asked image signal args t.active q (next_arm l search (links_of image t.active.instance) signal) S m)
        (phrases_are image t.active t.waiting.procedure t.waiting.is ∙ ap (λ (c : CodeProcedure). c.phrases) same_procedure)
        ∙ ap (λ j. asked image signal args t.active q (next_arm p.phrases search (links_of image j) signal) S m) (sym (at_instance image layout region table S q t))

    -- an arm of the table catches it
    pub lands : (s : Stepped) (arm : ℕ) (beyond : Search) → Reaches image s (Goes (Seeks signal args q search S m)) → answer ≡ FoundArm arm beyond
        → Lands image signal args S m (record { place = q; arm = arm; beyond = beyond }) s
    unfolding asked
    lands s arm beyond reaches found = record {
      holder = t.active;
      there = t.is;
      by = two_ways image s _ _ reaches (one_step image _ _ (asks ∙ ap (λ f. asked image signal args t.active q f S m) found));
    }

    outwards : answer ≡ Beyond → step image (Seeks signal args q search S m) ≡ outward image signal args (owner t.active.role q) S m
    unfolding asked
    outwards none = asks ∙ ap (λ f. asked image signal args t.active q f S m) none

    own_is : owner_place (row_at table q).kind q ≡ owner t.active.role q
    own_is = at_owner image layout region table S q t

    -- nothing catches it
    pub uncaught : (s : Stepped) → Reaches image s (Goes (Seeks signal args q search S m)) → answer ≡ Beyond → owner_place (row_at table q).kind q ≡ 0
        → Ends image s (Ended (Uncaught signal)) m
    unfolding outward
    uncaught s reaches none lowest =
        let end : Ending = Ended (Uncaught signal) in
        let so : step image (Seeks signal args q search S m) ≡ Stops end m = outwards none ∙ ap (λ o. outward image signal args o S m) (sym own_is ∙ lowest) in
        ends_alike image _ _ reaches end m (goes (Seeks signal args q search S m) end m (subst (λ y. Ends image y end m) (sym so) (stops end m)))

    -- the table of the activation under its frame is asked next
    pub further : (s : Stepped) (k : ℕ) (next : Search) → Reaches image s (Goes (Seeks signal args q search S m)) → answer ≡ Beyond
        → owner_place (row_at table q).kind q ≡ suc k → BeginsThere image true (row_at table k) next → Reaches image s (Goes (Seeks signal args k next S m))
    unfolding outward with
    further s k next reaches none own begins =
        let low = t.low in
        let up = sym own_is ∙ own in
        let below_it : k < length S = omega (arith, low, up, less) in
        let b = around_is k below_it next begins in
        two_ways image s _ _ reaches (one_step image _ _
        (outwards none ∙ ap (λ o. outward image signal args o S m) up
        ∙ ap (λ o. with o m (λ (c : Active). Goes (Seeks signal args k (around image c) S m))) b.1
        ∙ ap (λ n. Goes (Seeks signal args k n S m)) b.2))
