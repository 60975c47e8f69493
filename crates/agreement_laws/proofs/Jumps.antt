-- The rows of jumps: to a point of this activation, back to the caller, or out of arms.
use Rattle.std.proofs.Common.{◌≡◌, ℕ, zero, suc, ◌<◌, ◌≤◌, List, [], ◌∷◌, length, Bool, true, false, Option, Some, refl, sym, ap, ◌∙◌, subst, arith}
use Rattle.std.specs.Prelude.{nat_eq, if◌then◌else◌}
use Rattle.std.proofs.lemmas.Bool.{eq-eqb, ne_eqb}
use Rattle.mesa_types.specs.declared.typed_parts.Goal.{Goal}
use Rattle.mesa_types.specs.declared.typed_parts.Goal.TheVariants.{PastStatement, ToLabel, ToReturn}
use Rattle.mesa_types.specs.Typed.{Point, Start, After, point_of}
use Rattle.mesa_types.specs.Sound.{IsForRaises}
use Rattle.code_forms.specs.declared.instruction.Instruction.{Instruction}
use Rattle.code_forms.specs.declared.instruction.Instruction.TheVariants as i
use Rattle.signaller.specs.declared.search.Search.{Search}
use Rattle.signaller.specs.Search.{asked, search_at}
use Rattle.signaller.proofs.Surrounding.{asks_all}
use Rattle.source_meaning.specs.State.{ProcedureId, State, Go, Retried, Continued, Rejected, give}
use Rattle.machine_rules.specs.State.{Target, Active, Activations, Store, Runs, Leaves, Stepped}
use Rattle.machine_rules.specs.Activations.{own_frame}
use Rattle.machine_rules.specs.Leaving.{arrived, dropped, leave, leave_step}
use Rattle.machine_rules.specs.Working.{works}
use Rattle.machine_rules.specs.Steps.{step, perform}
use Rattle.code_rules.specs.Points.{OutOf}
use Rattle.code_rules.specs.Reading.{Coded, Destination, Offset, Caller, Place, Own, one_more, jump_to, read, phrases_around}
use Rattle.agreement_rules.specs.Reaches.{Reaches}
use Rattle.agreement_rules.proofs.Lifted.{found_there}
use Rattle.agreement_laws.specs.World.{World, CodeOf}
use Rattle.agreement_laws.specs.Standing.{Part, IsFrame, IsArm, Here, Standing, at, bare, Frames, role_of, filled, fill, owner_of, Numbered, LiesIn, PartStands, Nested}
use Rattle.agreement_laws.specs.Relation.{Ground, top, own, Agrees, standing, leaving}
use Rattle.agreement_laws.specs.Chains.{IsTarget, goal_of}
use Rattle.agreement_laws.specs.Contexts.{Site, Context, table}
use Rattle.agreement_laws.specs.Answers.{has_arrived, passes, Jumps, HasSpent, GoesBack}
use Rattle.agreement_laws.proofs.Codes.{own_here}
use Rattle.agreement_laws.proofs.Control.{IsControl, begun_more, agreed_begun, jump_is, performs, reaches_performed}
use Rattle.agreement_laws.proofs.Doing.{Did, comes_here}
use Rattle.agreement_laws.proofs.Going.{reaches_alike}
use Rattle.agreement_laws.proofs.Places.{under, target_here}
use Rattle.agreement_laws.proofs.Regions.{jump_asks}
use Rattle.agreement_laws.proofs.Stacks.{fill_long, here_push, frame_push, frame_within}

return_is : IsControl i.Return
unfolding works
return_is texts number v = refl

leave_is : (arms target : ℕ) → IsControl (i.Leave arms target)
unfolding works
leave_is arms target texts number v = refl

leave_return_is : (arms : ℕ) → IsControl (i.LeaveReturn arms)
unfolding works
leave_return_is arms texts number v = refl

-- what is read where an instruction stands
pub own_reads : {P : Coded} {v : Place} {j : Instruction} {is : List Instruction} {a b : ℕ} → Own P v (j ∷ is) a b
    → read P a ≡ Some (record { instruction = j; depth = v.depth; around = v.around })
own_reads (one_more r rest) = r

-- a frame stands at its own place, and under its arms
owner_within : (W : World) (p : ProcedureId) (part : Part) (q : ℕ) (B : List Here) → PartStands W p part B → length B ≡ q → owner_of part q ≤ q
owner_within W p (IsFrame number) q B stands e = omega arith
owner_within W p (IsArm owner holder place number why) q B stands e =
    let lt = frame_within B owner (record { number = stands.frame; procedure = p }) stands.is_frame in omega (arith, lt, e)

-- a jump out of an arm has the target that the dictionary names
module _ (W : World) (μ : Frames) (B : Standing) (p : ProcedureId) (C : Coded) (code : CodeOf W p C) (f : ℕ) (t : Target) (nested : Nested W (bare B)) (lt : t.place < length (bare B)) where
  under_it : (h : Here) → IsTarget W (h ∷ bare B) f t → t.owner < length (bare B) → IsTarget W (bare B) f t
  under_it h x less = record {
    frame = x.frame;
    is_frame = sym (frame_push h (bare B) t.owner less) ∙ x.is_frame;
    number = x.number;
    aimed = x.aimed;
    is_there = sym (here_push h (bare B) t.place lt) ∙ x.is_there;
    owned = x.owned;
    same_procedure = x.same_procedure;
    aims = x.aims;
  }

  owner_below : (h : Here) → IsTarget W (h ∷ bare B) f t → t.owner ≤ t.place
  owner_below h x =
      let u = under W (bare B) nested t.place x.aimed (sym (here_push h (bare B) t.place lt) ∙ x.is_there) in
      let le = owner_within W x.aimed.procedure x.aimed.part t.place u.below u.stands u.long in
      let e = x.owned in omega (arith, le, e)

  left : (part : Part) (goal : Option ℕ) (m : Store) → PartStands W p part (bare B) → IsTarget W (record { procedure = p; part = part } ∷ bare B) f t
      → t.owner ≡ owner_of part (length (bare B)) → t.goal ≡ goal → leave W.image goal (role_of μ part) (fill μ B) m ≡ dropped W.image t (role_of μ part) (fill μ B) m
  unfolding leave
  left (IsFrame number) goal m stands x owner is =
      let le = owner_below (record { procedure = p; part = IsFrame number }) x in absurd (omega (arith, le, lt, owner))
  left (IsArm owner holder place number why) goal m stands x same is =
      let k : Numbered = record { number = stands.frame; procedure = p } in
      let less = frame_within (bare B) owner k stands.is_frame in
      ap (λ y. dropped W.image y (role_of μ (IsArm owner holder place number why)) (fill μ B) m)
      (target_here W μ B nested p C code owner k stands.is_frame refl f t goal
      (under_it (record { procedure = p; part = IsArm owner holder place number why }) x (omega (arith, less, same))) same is)

module _ (W : World) (bound : ℕ) (K : Site) (w : Place) (hi : ℕ) (ctx : Context W K w.points w.around w.slot hi) where
  abbrev G : Ground
  G = K.ground

  abbrev seek : ℕ → Search
  seek a = search_at false (table W G) a

  asks_here : (a : ℕ) → LiesIn (table W G) G.here.part a → phrases_around K.code.routine.phrases a ≡ w.around → asked false (table W G) (seek a).phrase ≡ w.around
  asks_here a lies e =
      asks_all false (table W G) (length (table W G)) a ∙ jump_asks W G.here.procedure K.code ctx.code_of G.here.part a w.around lies e

  -- the activation is dropped without being asked
  drops_here : (t : Target) (a : ℕ) (μ : Frames) (m : Store) → t.place < top G → t.owner ≡ own G
      → step W.image (Leaves t (seek a) (fill μ (at G.here a [] ∷ G.below)) m) ≡ dropped W.image t (role_of μ G.here.part) (fill μ G.below) m
  unfolding step leave_step
  drops_here t a μ m lt owner =
      let x = filled μ (at G.here a []) in
      let S = fill μ G.below in
      let other : nat_eq (length S) t.place ≡ false = ap (λ n. nat_eq n t.place) (fill_long μ G.below) ∙ ne_eqb (top G) t.place (λ e. omega (arith, lt, e)) in
      let same : nat_eq (own_frame x S) t.owner ≡ true = eq-eqb (own_frame x S) t.owner (own_here μ G.here a [] G.below ∙ sym owner) in
      if_false (nat_eq (length S) t.place) _ _ other ∙ if_true (nat_eq (own_frame x S) t.owner) _ _ same
    where
      if_false : (b : Bool) (x y : Stepped) → b ≡ false → (if b then x else y) ≡ y
      if_false b x y e = ap (λ c. if c then x else y) e

      if_true : (b : Bool) (x y : Stepped) → b ≡ true → (if b then x else y) ≡ x
      if_true b x y e = ap (λ c. if c then x else y) e

  leave_control : (k : ℕ) (to : Destination) → IsControl (jump_to (suc k) to)
  leave_control k (Offset target) = leave_is (suc k) target
  leave_control k Caller = leave_return_is (suc k)

  performs_leave : (k : ℕ) (to : Destination) (x : Active) (S : Activations) (m : Store) → perform W.image (jump_to (suc k) to) x S m ≡ leave W.image (goal_of to) x.role S m
  unfolding perform
  performs_leave k (Offset target) x S m = refl
  performs_leave k Caller x S m = refl

  -- out of arms: to an activation below
  pub jumps_out : (p : Point) (k a d : ℕ) (to : Destination) (μ : Frames) (m : Store) (σ : State) → w.points p ≡ OutOf (suc k) to
      → read K.code a ≡ Some (record { instruction = jump_to (suc k) to; depth = d; around = w.around }) → LiesIn (table W G) G.here.part a → Agrees W bound G μ m σ
      → (h : Jumps W bound G K.points w.around (standing G a [] μ m) K.meant.frame p σ) × (h.target.place < top G)
  jumps_out p k a d to μ m σ e r lies h =
      let l = ctx.finds p (suc k) to e in
      let t = l.target in
      let x = ctx.targets K.meant.frame p t l.found in
      let found = found_there K.code.entries a (phrases_around K.code.routine.phrases a) (record { instruction = jump_to (suc k) to; depth = d; around = w.around }) r in
      let nested = ctx.nested in (
        record {
          target = t;
          found = l.found;
          frames = μ;
          store = begun_more m;
          agrees = agreed_begun W bound G μ m σ h;
          on_way = leaving t (seek a) (at G.here a [] ∷ G.below) μ (begun_more m);
          is_on_way = passes (seek a) a [] (asks_here a lies found.1);
          reaches = reaches_alike W.image (Runs (fill μ (at G.here a [] ∷ G.below)) m) (Leaves t (seek a) (fill μ (at G.here a [] ∷ G.below)) (begun_more m))
              (performs W K w.points w.around w.slot hi ctx μ m a d [] (jump_to (suc k) to) w.around r (leave_control k to)
              ∙ performs_leave k to (filled μ (at G.here a [])) (fill μ G.below) (begun_more m)
              ∙ left W μ G.below G.here.procedure K.code ctx.code_of K.meant.frame t nested.1 l.away G.here.part (goal_of to) (begun_more m) nested.0 x l.owner l.goal
              ∙ sym (drops_here t a μ (begun_more m) l.away l.owner));
        },
        l.away,
      )

  -- within the activation, or back to the caller
  pub jumps_here : (p : Point) (a d : ℕ) (to : Destination) (μ : Frames) (m : Store) (σ : State) → w.points p ≡ OutOf 0 to
      → read K.code a ≡ Some (record { instruction = jump_to 0 to; depth = d; around = w.around }) → Agrees W bound G μ m σ
      → Jumps W bound G K.points w.around (standing G a [] μ m) K.meant.frame p σ
  unfolding perform arrived
  jumps_here p a d (Offset target) μ m σ e r h =
      let l = ctx.finds p 0 (Offset target) e in
      record {
        target = l.target;
        found = l.found;
        frames = μ;
        store = begun_more m;
        agrees = agreed_begun W bound G μ m σ h;
        on_way = arrived W.image l.target.goal (filled μ (at G.here a [])) (fill μ G.below) (begun_more m);
        is_on_way = has_arrived a [] l.away;
        reaches = subst (λ g. Reaches W.image (standing G a [] μ m) (arrived W.image g (filled μ (at G.here a [])) (fill μ G.below) (begun_more m))) (sym l.goal)
            (reaches_performed W K w.points w.around w.slot hi ctx μ m a d [] (i.Jump target) w.around r (jump_is target));
      }
  jumps_here p a d Caller μ m σ e r h =
      let l = ctx.finds p 0 Caller e in
      record {
        target = l.target;
        found = l.found;
        frames = μ;
        store = begun_more m;
        agrees = agreed_begun W bound G μ m σ h;
        on_way = arrived W.image l.target.goal (filled μ (at G.here a [])) (fill μ G.below) (begun_more m);
        is_on_way = has_arrived a [] l.away;
        reaches = subst (λ g. Reaches W.image (standing G a [] μ m) (arrived W.image g (filled μ (at G.here a [])) (fill μ G.below) (begun_more m))) (sym l.goal)
            (reaches_performed W K w.points w.around w.slot hi ctx μ m a d [] i.Return w.around r return_is);
      }

  pub jumps_from : (p : Point) (arms a d : ℕ) (to : Destination) (μ : Frames) (m : Store) (σ : State) → w.points p ≡ OutOf arms to
      → read K.code a ≡ Some (record { instruction = jump_to arms to; depth = d; around = w.around }) → LiesIn (table W G) G.here.part a → Agrees W bound G μ m σ
      → Jumps W bound G K.points w.around (standing G a [] μ m) K.meant.frame p σ
  jumps_from p zero a d to μ m σ e r lies h = jumps_here p a d to μ m σ e r h
  jumps_from p (suc k) a d to μ m σ e r lies h = (jumps_out p k a d to μ m σ e r lies h).0

  -- The rows.

  no_start : (goal : Goal) (σ : State) → HasSpent bound (point_of goal) σ
  unfolding point_of
  no_start (PastStatement n) σ = tt
  no_start (ToLabel l) σ = tt
  no_start ToReturn σ = tt

  pub jump_row : (goal : Goal) (arms a b : ℕ) (to : Destination) (μ : Frames) (m : Store) (σ : State) → w.points (point_of goal) ≡ OutOf arms to
      → Own K.code w (jump_to arms to ∷ []) a b → LiesIn (table W G) G.here.part a → Agrees W bound G μ m σ
      → Did W bound K w.around b (standing G a [] μ m) (give (Go K.meant.frame (point_of goal)) σ)
  unfolding give
  jump_row goal arms a b to μ m σ e own lies h = (no_start goal σ, jumps_from (point_of goal) arms a w.depth to μ m σ e (own_reads own) lies h)

  goes_back : (p : Point) (a b : ℕ) (to : Destination) (μ : Frames) (m : Store) (σ : State) → IsForRaises K.scope.arm → w.points p ≡ OutOf 1 to
      → Own K.code w (jump_to 1 to ∷ []) a b → LiesIn (table W G) G.here.part a → Agrees W bound G μ m σ
      → GoesBack W bound G K.scope K.points w.around K.meant.frame p (standing G a [] μ m) σ
  goes_back p a b to μ m σ arm e own lies h =
      let j = jumps_out p 0 a w.depth to μ m σ e (own_reads own) lies h in record { in_arm = arm; jumps = j.0; below = j.1 }

  pub retry_row : (n a b : ℕ) (to : Destination) (μ : Frames) (m : Store) (σ : State) → IsForRaises K.scope.arm → w.points (Start n) ≡ OutOf 1 to
      → Own K.code w (jump_to 1 to ∷ []) a b → LiesIn (table W G) G.here.part a → Agrees W bound G μ m σ
      → Did W bound K w.around b (standing G a [] μ m) (give (Retried n) σ)
  unfolding give
  retry_row n a b to μ m σ arm e own lies h = goes_back (Start n) a b to μ m σ arm e own lies h

  pub continue_row : (n a b : ℕ) (to : Destination) (μ : Frames) (m : Store) (σ : State) → IsForRaises K.scope.arm → w.points (After n) ≡ OutOf 1 to
      → Own K.code w (jump_to 1 to ∷ []) a b → LiesIn (table W G) G.here.part a → Agrees W bound G μ m σ
      → Did W bound K w.around b (standing G a [] μ m) (give (Continued n) σ)
  unfolding give
  continue_row n a b to μ m σ arm e own lies h = goes_back (After n) a b to μ m σ arm e own lies h

  pub reject_row : (a b : ℕ) (μ : Frames) (m : Store) (σ : State) → 0 < K.scope.depth → Own K.code w (i.ArmEnd ∷ []) a b → Agrees W bound G μ m σ
      → Did W bound K w.around b (standing G a [] μ m) (give Rejected σ)
  unfolding give
  reject_row a b μ m σ arm own h = record {
    in_arm = arm;
    offset = a;
    is_there = (found_there K.code.entries a (phrases_around K.code.routine.phrases a) (record { instruction = i.ArmEnd; depth = w.depth; around = w.around }) (own_reads own)).0;
    comes = comes_here W bound K w.around a μ m σ h;
  }
