-- A jump leaves an arm.
use Rattle.std.proofs.Common.{◌≡◌, ℕ, zero, suc, ◌+◌, ◌-◌, ◌<◌, ◌≤◌, List, [], ◌∷◌, length, Bool, true, false, Option, Some, None, refl, sym, ap, subst, ◌∙◌, nat_eq, arith}
use Rattle.std.specs.Prelude.{slice_get, ◌&&◌, nat_le, nat_lt, IfSome, if◌then◌else◌}
use Rattle.std.proofs.lemmas.Bool.{false≢true, eqb-true, le-ltb}
use Rattle.std.proofs.lemmas.Option.{same_Some, slice_get_within}
use Rattle.code_forms.specs.declared.module_code.Arm.{Arm}
use Rattle.code_forms.specs.declared.module_code.CodeProcedure.{CodeProcedure}
use Rattle.code_forms.specs.declared.module_code.Phrase.{Phrase}
use Rattle.object_files.specs.declared.image.Image.{Image}
use Rattle.signaller.specs.declared.search.Search.{Search}
use Rattle.machine_rules.specs.State.{Why, Role, Frame, InArm, Active, Activations, Store, Leaves, Stuck, Stepped, Goes, Stops}
use Rattle.machine_rules.specs.LookUps.{procedure_of, procedure_under, phrases_under, phrases_in, arm_under}
use Rattle.machine_rules.specs.Leaving.{has_offset, is_arm_at, place_for, target_for, left_to_ask, dropped, leave}
use Rattle.machine_rules.specs.Steps.{Ends, stops}
use Rattle.machine_topmost.specs.declared.registers.Registers.{Registers}
use Rattle.machine_activations.specs.declared.row.Kind.{Kind}
use Rattle.machine_activations.specs.declared.row.Kind.TheVariants.{Frame as FrameRow, Arm as ArmRow}
use Rattle.machine_activations.specs.declared.row.Layout.{Layout}
use Rattle.machine_activations.specs.declared.row.Reason.{Reason}
use Rattle.machine_activations.specs.declared.row.Row.{Row}
use Rattle.machine_activations.specs.declared.row.Target.{Target}
use Rattle.machine_activations.specs.Rows.{IsTarget, IsKind}
use Rattle.machine_activations.specs.Below.{Over, over, frame_at, Below}
use Rattle.machine_activations.specs.Frames.{row_at, owner_place}
use Rattle.machine_activations.specs.Reaching.{IsUnstuck}
use Rattle.machine_activations.proofs.Tables.{row_there}
use Rattle.machine_ready.specs.Openings.{arms_in}
use Rattle.machine_signals.specs.Arms.{span_in}
use Rattle.machine_signals.specs.Indexed.{IsAsked}
use Rattle.machine_signals.specs.Jumping.{in_span, has_offset_in, phrases_of, place_in, place_of, Aims, Jumps}
use Rattle.machine_signals.specs.Leaving.{Leaving, LeftThere}
use Rattle.machine_signals.specs.Raising.{FindsNone, LeadsBelow}
use Rattle.machine_signals.proofs.Leaves.{left_by, about_is}
use Rattle.machine_signals.proofs.Lefts.{below_left}
use Rattle.machine_signals.proofs.Places.{place_at, home_for, at_instance, at_procedure, at_owner, at_asked}
use Rattle.machine_signals.proofs.Rejects.{frame_role, kind_is, arm_home, arm_low, owner_alike}
use Rattle.machine_activations.proofs.Reach.{reaches_so, ends_alike}

-- Whether an arm has the offset, by its row.

and_none : (b : Bool) → b && false ≡ false
and_none true = refl
and_none false = refl

span_has : (o : Option Arm) (offset : ℕ) → in_span (span_in o) offset ≡ has_offset o offset
unfolding has_offset
span_has None offset = let e : nat_lt offset 0 ≡ false = le-ltb offset 0 (omega arith) in ap (λ b. nat_le 0 offset && b) e ∙ and_none (nat_le 0 offset)
span_has (Some a) offset = refl

arm_under_is : (image : Image) (a : Active) (n : ℕ) → arm_under image a n ≡ slice_get (arms_in (phrases_in (procedure_of image a.instance a.procedure))) n
unfolding arm_under phrases_under procedure_under
arm_under_is image a n = refl

same_at : (image : Image) (kind : Kind) (role : Role (List ℕ)) (a : Active) (phrases : List Phrase) (own offset : ℕ) → IsKind kind role
    → phrases ≡ phrases_in (procedure_of image a.instance a.procedure) → is_arm_at image a role own offset ≡ has_offset_in kind phrases own offset
unfolding is_arm_at IsKind
same_at image FrameRow (Frame variables) a phrases own offset h same = refl
same_at image FrameRow (InArm k n why) a phrases own offset h same = absurd h
same_at image (ArmRow k n reason) (Frame variables) a phrases own offset h same = absurd h
same_at image (ArmRow k n reason) (InArm k' n' why) a phrases own offset h same =
    ap (λ j. nat_eq j own && has_offset (arm_under image a n') offset) (sym h.0)
    ∙ ap (λ j. nat_eq k own && has_offset (arm_under image a j) offset) (sym h.1)
    ∙ ap (λ o. nat_eq k own && has_offset o offset) (arm_under_is image a n ∙ ap (λ l. slice_get (arms_in l) n) (sym same))
    ∙ ap (λ b. nat_eq k own && b) (sym (span_has (slice_get (arms_in phrases) n) offset))

-- such an arm is one of the frame
kind_owner : (kind : Kind) (phrases : List Phrase) (own offset q : ℕ) → has_offset_in kind phrases own offset ≡ true → owner_place kind q ≡ own
unfolding owner_place
kind_owner FrameRow phrases own offset q e = absurd (false≢true e)
kind_owner (ArmRow k n reason) phrases own offset q e = eqb-true k own (first_of (nat_eq k own) (in_span (span_in (slice_get (arms_in phrases) n)) offset) e)
  where
    first_of : (a b : Bool) → a && b ≡ true → a ≡ true
    first_of true b h = refl
    first_of false b h = absurd (false≢true h)

module _ (image : Image) (layout : Layout) (region : List ℕ) (table : List Row) where
  -- the target's activation, by the rows
  pub place_same : (x : Over) (S : Activations) (own offset : ℕ) → Below image layout region table x S → place_for image S own offset ≡ place_in image table (length S) own offset
  unfolding Below place_for place_in
  place_same x [] own offset below = refl
  place_same x (a ∷ T) own offset below =
      let w = below.0 in
      let row = row_there table (length T) w.rowed.row w.rowed.there in
      let kind = subst (λ (y : Row). IsKind y.kind a.role) (sym row) w.rowed.same_kind in
      let j = ap (λ (y : Row). y.instance) row ∙ w.rowed.same_instance in
      let n = ap (λ (y : Row). y.procedure) row ∙ w.rowed.same_procedure in
      let phrases : phrases_of image (row_at table (length T)) ≡ phrases_in (procedure_of image a.instance a.procedure) =
      ap (λ k. phrases_in (procedure_of image k (row_at table (length T)).procedure)) j ∙ ap (λ k. phrases_in (procedure_of image a.instance k)) n in
      ap (λ b. if b then length T else place_for image T own offset)
      (same_at image (row_at table (length T)).kind a.role a (phrases_of image (row_at table (length T))) own offset kind phrases)
      ∙ ap (λ k. if has_offset_in (row_at table (length T)).kind (phrases_of image (row_at table (length T))) own offset then length T else k)
      (place_same (over a) T own offset below.2)

  -- it is the frame, or an arm of it
  pub data Placed (own count place : ℕ) : Type 0 where
    at_frame : place ≡ own → Placed own count place
    at_arm : place < count → owner_place (row_at table place).kind place ≡ own → Placed own count place

  placed_if : (b : Bool) (own q place : ℕ) → (b ≡ true → owner_place (row_at table q).kind q ≡ own) → Placed own q place → Placed own (suc q) (if b then q else place)
  placed_if true own q place mine lower = at_arm (omega arith) (mine refl)
  placed_if false own q place mine (at_frame is) = at_frame is
  placed_if false own q place mine (at_arm less is) = at_arm (omega (arith, less)) is

  pub placed : (count own offset : ℕ) → Placed own count (place_in image table count own offset)
  unfolding place_in
  placed zero own offset = at_frame refl
  placed (suc q) own offset =
      placed_if (has_offset_in (row_at table q).kind (phrases_of image (row_at table q)) own offset) own q (place_in image table q own offset)
      (λ e. kind_owner (row_at table q).kind (phrases_of image (row_at table q)) own offset q e) (placed q own offset)

-- as the code looks for it

pub offset_told : (image : Image) (table : List Row) (q own offset : ℕ) → IsAsked image table q → (row : Row) → row ≡ row_at table q → (result : Bool)
    → ((p : CodeProcedure) → procedure_of image row.instance row.procedure ≡ Some p → result ≡ has_offset_in row.kind p.phrases own offset)
    → result ≡ has_offset_in (row_at table q).kind (phrases_of image (row_at table q)) own offset
unfolding phrases_in
offset_told image table q own offset asked row row_is result said =
    let there : (p : CodeProcedure) → procedure_of image (row_at table q).instance (row_at table q).procedure ≡ Some p → result ≡ has_offset_in (row_at table q).kind p.phrases own offset =
    subst (λ (x : Row). (p : CodeProcedure) → procedure_of image x.instance x.procedure ≡ Some p → result ≡ has_offset_in x.kind p.phrases own offset) row_is said in
    there asked.read.procedure asked.read.is ∙ ap (λ o. has_offset_in (row_at table q).kind (phrases_in o) own offset) (sym asked.read.is)

pub place_found : (image : Image) (table : List Row) (k q own offset : ℕ) → k ≡ suc q → has_offset_in (row_at table q).kind (phrases_of image (row_at table q)) own offset ≡ true
    → place_in image table k own offset ≡ q
unfolding place_in
place_found image table k q own offset next e =
    ap (λ j. place_in image table j own offset) next ∙ ap (λ b. if b then q else place_in image table q own offset) e

pub place_more : (image : Image) (table : List Row) (k q own offset : ℕ) → k ≡ suc q → has_offset_in (row_at table q).kind (phrases_of image (row_at table q)) own offset ≡ false
    → place_in image table q own offset ≡ place_in image table k own offset
unfolding place_in
place_more image table k q own offset next e =
    sym (ap (λ j. place_in image table j own offset) next ∙ ap (λ b. if b then q else place_in image table q own offset) e)

-- none below the frame is an arm of it
pub place_low : (image : Image) (table : List Row) (k own offset : ℕ) → k ≤ own + 1 → ((q : ℕ) → q < k → IsAsked image table q) → own ≡ place_in image table k own offset
unfolding place_in
place_low image table zero own offset low rows = refl
place_low image table (suc q) own offset low rows =
    by_case (has_offset_in (row_at table q).kind (phrases_of image (row_at table q)) own offset) refl (place_low image table q own offset (omega (arith, low)) (λ k less. rows k (omega (arith, less))))
  where
    by_case : (b : Bool) → has_offset_in (row_at table q).kind (phrases_of image (row_at table q)) own offset ≡ b → own ≡ place_in image table q own offset
        → own ≡ (if b then q else place_in image table q own offset)
    by_case true mine lower =
        let is = kind_owner (row_at table q).kind (phrases_of image (row_at table q)) own offset q mine in
        let high = (rows q (omega arith)).low in
        omega (arith, is, high, low)
    by_case false mine lower = lower

arm_role : (role : Role (List ℕ)) (own n : ℕ) (reason : Reason) → IsKind (ArmRow own n reason) role → (why : Why) × (role ≡ InArm own n why)
unfolding IsKind
arm_role (Frame variables) own n reason h = absurd h
arm_role (InArm own' n' why) own n reason h = (why, ap (λ k. InArm k n' why) (sym h.0) ∙ ap (λ k. InArm own k why) (sym h.1))

module _ (image : Image) (layout : Layout) (region : List ℕ) (table : List Row) (r : Registers) (goal : Option ℕ) (s : Stepped) (m : Store) (w : Jumps image layout region table r goal s m) where
  abbrev a : Active
  a = w.top

  abbrev S : Activations
  S = w.rest

  kind_here : IsKind (row_at table r.top).kind a.role
  kind_here = kind_is image layout region table r w.procedure a S w.shows

  pub jump_within : r.top < length table
  jump_within = let l = slice_get_within table (length S) w.shows.rowed.row w.shows.rowed.there in let t = w.shows.top in omega (arith, l, t)

  pub jump_not_frame : IsUnstuck image s → (row_at table r.top).kind ≡ FrameRow → ⊥
  unfolding leave
  jump_not_frame unstuck frame =
      let f = frame_role a.role (subst (λ (k : Kind). IsKind k a.role) frame kind_here) in
      let stuck : leave image goal a.role S m ≡ Stops Stuck m = ap (λ role. leave image goal role S m) f.1 in
      unstuck Stuck m (ends_alike image _ _ w.reaches Stuck m (subst (λ x. Ends image x Stuck m) (sym stuck) (stops Stuck m))) refl

  -- each one below can be asked
  pub under_asked : (q : ℕ) → q < r.top → IsAsked image table q
  under_asked q less =
      let t = w.shows.top in at_asked image layout region table S q (place_at image layout region table (over a) S q w.shows.below (omega (arith, t, less)))

  module _ (own n : ℕ) (reason : Reason) (kind : (row_at table r.top).kind ≡ ArmRow own n reason) where
    role_is : (why : Why) × (a.role ≡ InArm own n why)
    role_is = arm_role a.role own n reason (subst (λ (k : Kind). IsKind k a.role) kind kind_here)

    pub jump_low : own < r.top
    jump_low = arm_low image layout region table r w.procedure a S w.shows own n role_is.0 role_is.1

    pub jump_under : 1 ≤ r.top
    jump_under = let l = jump_low in omega (arith, l)

    -- at its target is an activation of the arm's procedure
    of_procedure : (q : ℕ) → q < r.top → owner_place (row_at table q).kind q ≡ own → procedure_of image (row_at table q).instance (row_at table q).procedure ≡ Some w.procedure
    of_procedure q less mine =
        let t = w.shows.top in
        let at = place_at image layout region table (over a) S q w.shows.below (omega (arith, t, less)) in
        let same = sym (at_owner image layout region table S q at) ∙ mine in
        let home = ap (λ k. frame_at S k) (sym same) ∙ at.home in
        let both = same_Some (home_for at.active) (home_for a) (sym home ∙ arm_home image layout region table r w.procedure a S w.shows own n role_is.0 role_is.1) in
        ap (λ j. procedure_of image j (row_at table q).procedure) (at_instance image layout region table S q at ∙ ap (λ h. h.instance) both)
        ∙ ap (λ k. procedure_of image a.instance k) (at_procedure image layout region table S q at ∙ ap (λ h. h.procedure) both) ∙ w.shows.is

    at_own : procedure_of image (row_at table own).instance (row_at table own).procedure ≡ Some w.procedure
    at_own =
        let o = owner_alike image layout region table r w.procedure a S w.shows own n role_is.0 role_is.1 in
        ap (λ j. procedure_of image j (row_at table own).procedure) o.0 ∙ ap (λ k. procedure_of image a.instance k) o.1 ∙ w.shows.is

    there_by : (place : ℕ) → Placed image layout region table own r.top place → (place < r.top) × (procedure_of image (row_at table place).instance (row_at table place).procedure ≡ Some w.procedure)
    there_by place (at_frame is) = (let l = jump_low in omega (arith, l, is), subst (λ q. procedure_of image (row_at table q).instance (row_at table q).procedure ≡ Some w.procedure) (sym is) at_own)
    there_by place (at_arm less mine) = (less, of_procedure place less mine)

    placed_of : (goal : Option ℕ) → Placed image layout region table own r.top (place_of image table r.top own goal)
    placed_of None = at_frame refl
    placed_of (Some offset) = placed image layout region table r.top own offset

    module _ (target : Target) (aims : Aims image table r.top own goal target) where
      pub jump_leads : LeadsBelow image table (r.top - 1 + 1) target
      jump_leads =
          let t = there_by target.place (subst (λ q. Placed image layout region table own r.top q) (sym aims.place) (placed_of goal)) in
          let low = t.0 in
          record {
            low = omega (arith, low);
            goal = λ p is. subst (λ g. IfSome g (FindsNone p)) (sym aims.goal_is)
                (subst (λ (q : CodeProcedure). IfSome goal (FindsNone q)) (same_Some w.procedure p (sym t.1 ∙ is)) w.finds);
          }

      aim_by : (S' : Activations) → S ≡ S' → r.top ≡ length S' → (g : Option ℕ) → goal ≡ g → Below image layout region table (over a) S' → IsTarget target (target_for image S' own g)
      unfolding target_for
      aim_by S' same long None is below = record { place = aims.place ∙ ap (λ g. place_of image table r.top own g) is; owner = aims.owner; goal = aims.goal_is ∙ is }
      aim_by S' same long (Some offset) is below = record {
        place = aims.place ∙ ap (λ g. place_of image table r.top own g) is ∙ ap (λ k. place_in image table k own offset) long
            ∙ sym (place_same image layout region table (over a) S' own offset below);
        owner = aims.owner;
        goal = aims.goal_is ∙ is;
      }

      leaving_by : (S' : Activations) → S ≡ S' → r.top ≡ length S' → Below image layout region table (over a) S' → (first : Search)
          → LeftThere image (row_at table r.top).kind (row_at table (r.top - 1)) first → Leaving image layout region table (r.top - 1) target first s m
      unfolding Below leave dropped
      leaving_by [] same long below first left = absurd (let u = jump_under in omega (arith, u, long))
      leaving_by (b ∷ T) same long below first left =
          let under : length T ≡ r.top - 1 = omega (arith, long) in
          let lower = below_left image layout region table (over a) (b ∷ T) below in
          let asked : left_to_ask image a.role b ≡ first =
          left_by image (row_at table r.top).kind a.role b (row_at table (r.top - 1)) first kind_here left (λ begins. about_is image layout region table (r.top - 1) b T lower under first begins) in
          let so : leave image goal a.role S m ≡ Goes (Leaves (target_for image (b ∷ T) own goal) first (b ∷ T) m) =
          ap (λ role. leave image goal role S m) role_is.1 ∙ ap (λ l. dropped image (target_for image l own goal) (InArm own n role_is.0) l m) same
          ∙ ap (λ k. Goes (Leaves (target_for image (b ∷ T) own goal) k (b ∷ T) m)) (ap (λ role. left_to_ask image role b) (sym role_is.1) ∙ asked) in
          record {
            activations = b ∷ T;
            aim = target_for image (b ∷ T) own goal;
            below = lower;
            high = omega (arith, long);
            same = aim_by (b ∷ T) same long goal refl below;
            reaches = reaches_so image _ _ _ w.reaches so;
          }

      pub jump_leaving : (first : Search) → LeftThere image (row_at table r.top).kind (row_at table (r.top - 1)) first → Leaving image layout region table (r.top - 1) target first s m
      jump_leaving first left = leaving_by S refl w.shows.top w.shows.below first left
