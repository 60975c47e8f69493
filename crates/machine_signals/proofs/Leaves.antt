-- A jump that leaves activations that wait, one at a step.
use Rattle.std.proofs.Common.{◌≡◌, ◌≢◌, ◌⊎◌, ⊎_elim, ℕ, ◌+◌, ◌-◌, ◌<◌, ◌≤◌, List, [], ◌∷◌, length, false, Some, refl, sym, ap, subst, ◌∙◌, nat_eq, arith}
use Rattle.std.specs.Prelude.{slice_get, if◌then◌else◌}
use Rattle.std.proofs.lemmas.Bool.{eq-eqb, ne_eqb}
use Rattle.std.proofs.lemmas.Option.{same_Some, slice_get-get_or, slice_get_within}
use Rattle.code_forms.specs.declared.module_code.CodeEntry.{CodeEntry}
use Rattle.code_forms.specs.declared.module_code.CodeProcedure.{CodeProcedure}
use Rattle.code_forms.specs.declared.module_code.Phrase.{Phrase}
use Rattle.code_forms.proofs.Ordered.{spot_within}
use Rattle.object_files.specs.declared.image.Image.{Image}
use Rattle.signaller.specs.declared.search.Found.TheVariants.{Arm as FoundArm, Beyond}
use Rattle.signaller.specs.declared.search.Search.{Search}
use Rattle.signaller.specs.Search.{fits_jump, search_at, unwind_next}
use Rattle.machine_rules.specs.State.{Target as Aim, ForRaise, ForJump, Role, Frame, InArm, Active, Activations, Store, Leaves, Stepped, Goes}
use Rattle.machine_rules.specs.LookUps.{procedure_of, phrases_under}
use Rattle.machine_rules.specs.Activations.{activation_at, owner, own_frame}
use Rattle.machine_rules.specs.Signals.{enter_arm}
use Rattle.machine_rules.specs.Leaving.{left_to_ask, dropped, arrived, unwound, leave_step}
use Rattle.machine_rules.specs.Steps.{step}
use Rattle.machine_rules.proofs.Arming.{phrases_are}
use Rattle.machine_rules.proofs.Searching.{found_arm}
use Rattle.machine_activations.specs.declared.row.Kind.{Kind}
use Rattle.machine_activations.specs.declared.row.Kind.TheVariants.{Frame as FrameRow, Arm as ArmRow}
use Rattle.machine_activations.specs.declared.row.Layout.{Layout}
use Rattle.machine_activations.specs.declared.row.Reason.TheVariants.{Raise as RaiseRow, Jump as JumpRow}
use Rattle.machine_activations.specs.declared.row.Row.{Row}
use Rattle.machine_activations.specs.declared.row.Target.{Target}
use Rattle.machine_activations.specs.Rows.{IsTarget, IsWhy, IsKind}
use Rattle.machine_activations.specs.Below.{Left, over, over_by, Waiting, Below}
use Rattle.machine_activations.specs.Frames.{row_at, owner_place}
use Rattle.machine_activations.specs.Reaching.{Reaches}
use Rattle.machine_activations.proofs.Homes.{at_top}
use Rattle.machine_activations.proofs.Located.{at_offset}
use Rattle.machine_activations.proofs.Reach.{one_step, two_ways}
use Rattle.machine_activations.proofs.Returning.{owner_kind}
use Rattle.machine_activations.proofs.Tables.{row_there}
use Rattle.machine_signals.specs.Arms.{Awaits}
use Rattle.machine_signals.specs.Indexed.{AsksIn, BeginsThere, IsAsked}
use Rattle.machine_signals.specs.Leaving.{Leaving, Arrives, LeftThere}
use Rattle.machine_signals.proofs.Asked.{beyond_within}
use Rattle.machine_signals.proofs.Lefts.{below_left}
use Rattle.machine_signals.proofs.Places.{place_at, at_asked}

-- What is asked of the one under the one that is dropped.

pub left_by : (image : Image) (kind : Kind) (role : Role (List ℕ)) (b : Active) (row : Row) (search : Search) → IsKind kind role → LeftThere image kind row search
    → (BeginsThere image false row search → search_at false (phrases_under image b) b.offset ≡ search) → left_to_ask image role b ≡ search
unfolding left_to_ask IsKind IsWhy
left_by image FrameRow (Frame variables) b row search is left about = about left
left_by image FrameRow (InArm own n why) b row search is left about = absurd is
left_by image (ArmRow own n reason) (Frame variables) b row search is left about = absurd is
left_by image (ArmRow own n (RaiseRow signal args beyond)) (InArm own' n' (ForRaise signal' args' beyond')) b row search is left about = about left
left_by image (ArmRow own n (RaiseRow signal args beyond)) (InArm own' n' (ForJump aim beyond')) b row search is left about = absurd is.2
left_by image (ArmRow own n (JumpRow target beyond)) (InArm own' n' (ForRaise signal' args' beyond')) b row search is left about = absurd is.2
left_by image (ArmRow own n (JumpRow target beyond)) (InArm own' n' (ForJump aim beyond')) b row search is left about = sym is.2.1 ∙ sym left

-- the row of the topmost one
pub record Top (image : Image) (layout : Layout) (region : List ℕ) (table : List Row) (q : ℕ) (a : Active) (S : Activations) : Type 0 where
  pub waiting : Waiting image layout region table Left (length S) a
  pub lower : Below image layout region table (over a) S
  pub place : length S ≡ q
  pub kind : IsKind (row_at table q).kind a.role
  pub own : owner_place (row_at table q).kind q ≡ own_frame a S
  pub instance : (row_at table q).instance ≡ a.instance
  pub procedure : (row_at table q).procedure ≡ a.procedure

module _ (image : Image) (layout : Layout) (region : List ℕ) (table : List Row) where
  pub top_told : (q : ℕ) (a : Active) (S : Activations) → Below image layout region table Left (a ∷ S) → length S ≡ q → Top image layout region table q a S
  unfolding Below own_frame
  top_told q a S below place =
      let w = below.0 in
      let row = ap (λ k. row_at table k) (sym place) ∙ row_there table (length S) w.rowed.row w.rowed.there in
      let kind = subst (λ (x : Row). IsKind x.kind a.role) (sym row) w.rowed.same_kind in
      record {
        waiting = w;
        lower = below.2;
        place = place;
        kind = kind;
        own = owner_kind (row_at table q).kind a.role q kind ∙ ap (λ k. owner a.role k) (sym place);
        instance = ap (λ (x : Row). x.instance) row ∙ w.rowed.same_instance;
        procedure = ap (λ (x : Row). x.procedure) row ∙ w.rowed.same_procedure;
      }

  -- a search in the region of the topmost one
  pub about_is : (q : ℕ) (a : Active) (S : Activations) → Below image layout region table Left (a ∷ S) → length S ≡ q → (search : Search) → BeginsThere image false (row_at table q) search
      → search_at false (phrases_under image a) a.offset ≡ search
  about_is q a S below place search begins =
      let t = top_told q a S below place in
      let w = t.waiting in
      let row = ap (λ k. row_at table k) (sym place) ∙ row_there table (length S) w.kept.row w.kept.there in
      let b = w.kept.begins in
      let e : CodeEntry = record { at = a.offset; depth = 0; instruction = b.spot.instruction } in
      let here = slice_get-get_or w.procedure.code w.kept.row.entry e (spot_within w.procedure.code w.kept.row.entry b.spot b.is) in
      let offset = at_offset w.procedure.code w.kept.row.entry a.offset _ here b in
      let code = ap (λ j. procedure_of image j (row_at table q).procedure) t.instance ∙ ap (λ n. procedure_of image a.instance n) t.procedure ∙ w.is in
      ap (λ (l : List Phrase). search_at false l a.offset) (phrases_are image a w.procedure w.is)
      ∙ ap (λ o. search_at false w.procedure.phrases o) (sym offset)
      ∙ sym (begins w.procedure _ code (ap (λ (x : Row). slice_get w.procedure.code x.entry) row ∙ here))

  module _ (s : Stepped) (m : Store) (target : Target) (search : Search) (q : ℕ) where
    -- at its target
    arrives_by : (S : Activations) (aim : Aim) → Below image layout region table Left S → length S ≡ q + 1 → IsTarget target aim → Reaches image s (Goes (Leaves aim search S m))
        → q ≡ target.place → Arrives image layout region table target.place target.goal s m
    unfolding leave_step step
    arrives_by [] aim below high same reaches here = absurd (omega (arith, high))
    arrives_by (a ∷ S) aim below high same reaches here =
        let place : length S ≡ aim.place = (let p = same.place in omega (arith, high, here, p)) in
        let goal : arrived image aim.goal a S m ≡ arrived image target.goal a S m = ap (λ g. arrived image g a S m) (sym same.goal) in
        record {
          top = a;
          rest = S;
          below = below;
          high = omega (arith, high, here);
          reaches = two_ways image s _ _ reaches (one_step image _ _
              (ap (λ b. if b then arrived image aim.goal a S m else (if nat_eq (own_frame a S) aim.owner then dropped image aim a.role S m
              else unwound image aim a (unwind_next (phrases_under image a) search) S m)) (eq-eqb (length S) aim.place place) ∙ goal));
        }

    pub leaving_arrives : Leaving image layout region table q target search s m → q ≡ target.place → Arrives image layout region table target.place target.goal s m
    leaving_arrives w here = arrives_by w.activations w.aim w.below w.high w.same w.reaches here

    -- it is asked, or not
    module _ (a : Active) (S : Activations) (aim : Aim) (below : Below image layout region table Left (a ∷ S)) (place : length S ≡ q) (same : IsTarget target aim) (other : q ≢ target.place) where
      away : length S ≢ aim.place
      away e = let p = same.place in other (omega (arith, e, p, place))

      passes : step image (Leaves aim search (a ∷ S) m)
          ≡ (if nat_eq (own_frame a S) aim.owner then dropped image aim a.role S m else unwound image aim a (unwind_next (phrases_under image a) search) S m)
      unfolding leave_step step
      passes =
          ap (λ b. if b then arrived image aim.goal a S m else (if nat_eq (own_frame a S) aim.owner then dropped image aim a.role S m
          else unwound image aim a (unwind_next (phrases_under image a) search) S m)) (ne_eqb (length S) aim.place away)

      abbrev told : Top image layout region table q a S
      told = top_told q a S below place

      abbrev p : CodeProcedure
      p = told.waiting.procedure

      row_code : procedure_of image (row_at table q).instance (row_at table q).procedure ≡ Some p
      row_code = ap (λ j. procedure_of image j (row_at table q).procedure) told.instance ∙ ap (λ n. procedure_of image a.instance n) told.procedure ∙ told.waiting.is

      drops : (owner_place (row_at table q).kind q ≡ target.owner) ⊎ ((owner_place (row_at table q).kind q ≢ target.owner) × (unwind_next p.phrases search ≡ Beyond))
          → step image (Leaves aim search (a ∷ S) m) ≡ dropped image aim a.role S m
      unfolding unwound
      drops way = ⊎_elim
          (λ (mine : owner_place (row_at table q).kind q ≡ target.owner).
          passes ∙ ap (λ b. if b then dropped image aim a.role S m else unwound image aim a (unwind_next (phrases_under image a) search) S m)
          (eq-eqb (own_frame a S) aim.owner (sym told.own ∙ mine ∙ same.owner)))
          (λ (asked : (owner_place (row_at table q).kind q ≢ target.owner) × (unwind_next p.phrases search ≡ Beyond)).
          passes ∙ ap (λ b. if b then dropped image aim a.role S m else unwound image aim a (unwind_next (phrases_under image a) search) S m)
          (ne_eqb (own_frame a S) aim.owner (λ e. asked.0 (told.own ∙ e ∙ sym same.owner)))
          ∙ ap (λ (l : List Phrase). unwound image aim a (unwind_next l search) S m) (phrases_are image a p told.waiting.is)
          ∙ ap (λ f. unwound image aim a f S m) asked.1)
          way

      runs : owner_place (row_at table q).kind q ≢ target.owner → (n : ℕ) (after : Search) → unwind_next p.phrases search ≡ FoundArm n after
          → step image (Leaves aim search (a ∷ S) m) ≡ enter_arm image n a (length S) (ForJump aim after) [] (a ∷ S) m
      unfolding unwound
      runs others n after found =
          passes ∙ ap (λ b. if b then dropped image aim a.role S m else unwound image aim a (unwind_next (phrases_under image a) search) S m)
          (ne_eqb (own_frame a S) aim.owner (λ e. others (told.own ∙ e ∙ sym same.owner)))
          ∙ ap (λ (l : List Phrase). unwound image aim a (unwind_next l search) S m) (phrases_are image a p told.waiting.is)
          ∙ ap (λ f. unwound image aim a f S m) found

    -- the next one under it is asked
    drop_by : (S : Activations) (aim : Aim) → Below image layout region table Left S → length S ≡ q + 1 → IsTarget target aim → Reaches image s (Goes (Leaves aim search S m))
        → 0 < q → q ≢ target.place → (p : CodeProcedure) → procedure_of image (row_at table q).instance (row_at table q).procedure ≡ Some p
        → (owner_place (row_at table q).kind q ≡ target.owner) ⊎ ((owner_place (row_at table q).kind q ≢ target.owner) × (unwind_next p.phrases search ≡ Beyond))
        → (next : Search) → LeftThere image (row_at table q).kind (row_at table (q - 1)) next → Leaving image layout region table (q - 1) target next s m
    unfolding Below dropped
    drop_by [] aim below high same reaches some other p is way next left = absurd (omega (arith, high))
    drop_by (a ∷ []) aim below high same reaches some other p is way next left = absurd (omega (arith, high, some))
    drop_by (a ∷ b ∷ T) aim below high same reaches some other p is way next left =
        let place : length (b ∷ T) ≡ q = omega (arith, high) in
        let lower = below_left image layout region table (over a) (b ∷ T) below.2 in
        let under : length T ≡ q - 1 = omega (arith, high) in
        let t = top_told q a (b ∷ T) below place in
        let mine : t.waiting.procedure ≡ p = same_Some t.waiting.procedure p (sym (row_code a (b ∷ T) aim below place same other) ∙ is) in
        let asked : left_to_ask image a.role b ≡ next =
        left_by image (row_at table q).kind a.role b (row_at table (q - 1)) next t.kind left (λ begins. about_is (q - 1) b T lower under next begins) in
        record {
          activations = b ∷ T;
          aim = aim;
          below = lower;
          high = omega (arith, high, some);
          same = same;
          reaches = two_ways image s _ _ reaches (one_step image _ _
              (drops a (b ∷ T) aim below place same other
              (subst (λ (c : CodeProcedure). (owner_place (row_at table q).kind q ≡ target.owner) ⊎ ((owner_place (row_at table q).kind q ≢ target.owner) × (unwind_next c.phrases search ≡ Beyond))) (sym mine) way)
              ∙ ap (λ n. Goes (Leaves aim n (b ∷ T) m)) asked));
        }

    pub leaving_drops : Leaving image layout region table q target search s m → 0 < q → q ≢ target.place → (p : CodeProcedure)
        → procedure_of image (row_at table q).instance (row_at table q).procedure ≡ Some p
        → (owner_place (row_at table q).kind q ≡ target.owner) ⊎ ((owner_place (row_at table q).kind q ≢ target.owner) × (unwind_next p.phrases search ≡ Beyond))
        → (next : Search) → LeftThere image (row_at table q).kind (row_at table (q - 1)) next → Leaving image layout region table (q - 1) target next s m
    leaving_drops w some other p is way next left = drop_by w.activations w.aim w.below w.high w.same w.reaches some other p is way next left

    -- an UNWIND arm of it is run
    run_by : (S : Activations) (aim : Aim) → Below image layout region table Left S → length S ≡ q + 1 → IsTarget target aim → Reaches image s (Goes (Leaves aim search S m))
        → q ≢ target.place → owner_place (row_at table q).kind q ≢ target.owner → (p : CodeProcedure) → procedure_of image (row_at table q).instance (row_at table q).procedure ≡ Some p
        → (n : ℕ) (after : Search) → unwind_next p.phrases search ≡ FoundArm n after → Awaits image layout region table q q n (JumpRow target after) 0 0 s m
    unfolding over_by IsWhy
    run_by [] aim below high same reaches other others p is n after found = absurd (omega (arith, high))
    run_by (a ∷ S) aim below high same reaches other others p is n after found =
        let place : length S ≡ q = omega (arith, high) in
        let t = top_told q a S below place in
        let mine : t.waiting.procedure ≡ p = same_Some t.waiting.procedure p (sym (row_code a S aim below place same other) ∙ is) in
        let f = found_arm false fits_jump p.phrases search n after found in
        record {
          activations = a ∷ S;
          holder = a;
          why = ForJump aim after;
          words = [];
          below = below;
          high = high;
          low = omega arith;
          there = ap (λ k. activation_at (a ∷ S) k) (sym place) ∙ at_top a S;
          procedure = p;
          is = t.waiting.is ∙ ap Some mine;
          has = record { place = f.place; is = f.is; numbered = f.number };
          same_why = (same, refl);
          source = refl;
          inside = omega arith;
          reaches = two_ways image s _ _ reaches (one_step image _ _
              (runs a S aim below place same other others n after (ap (λ (c : CodeProcedure). unwind_next c.phrases search) mine ∙ found)
              ∙ ap (λ k. enter_arm image n a k (ForJump aim after) [] (a ∷ S) m) place));
        }

    pub leaving_runs : Leaving image layout region table q target search s m → q ≢ target.place → owner_place (row_at table q).kind q ≢ target.owner → (p : CodeProcedure)
        → procedure_of image (row_at table q).instance (row_at table q).procedure ≡ Some p
        → (n : ℕ) (after : Search) → unwind_next p.phrases search ≡ FoundArm n after → Awaits image layout region table q q n (JumpRow target after) 0 0 s m
    leaving_runs w other others p is n after found = run_by w.activations w.aim w.below w.high w.same w.reaches other others p is n after found

    -- each can be asked
    pub leaving_asked : Leaving image layout region table q target search s m → (k : ℕ) → k ≤ q → IsAsked image table k
    leaving_asked w k low = at_asked image layout region table w.activations k (place_at image layout region table Left w.activations k w.below (let h = w.high in omega (arith, h, low)))

    pub leaving_within : Leaving image layout region table q target search s m → q < length table
    leaving_within w =
        let h = w.high in
        let t = place_at image layout region table Left w.activations q w.below (omega (arith, h)) in
        slice_get_within table q t.waiting.rowed.row t.waiting.rowed.there

-- what an UNWIND arm's search asks
pub after_within : (p : CodeProcedure) (search : Search) (n : ℕ) (after : Search) → unwind_next p.phrases search ≡ FoundArm n after → AsksIn p after
after_within p search n after found =
    let f = found_arm false fits_jump p.phrases search n after found in
    subst (λ (x : Search). AsksIn p x) (sym f.rest) (beyond_within false p f.place.phrase (slice_get_within p.phrases f.place.phrase f.is.phrase f.is.is))
