-- Jumps out of arms of a state that is traced.
use Rattle.std.proofs.Common.{◌≡◌, ◌⊎◌, inl, inr, ⊎_elim, ℕ, List, [], ◌∷◌, length, Bool, true, false, Option, Some, None, refl, sym, ap, subst, ◌∙◌}
use Rattle.std.specs.Prelude.{nat_eq, if◌then◌else◌}
use Rattle.std.proofs.lemmas.Bool.{false≢true, and_parts, eqb-true}
use Rattle.std.proofs.lemmas.Option.{none-some, same_Some}
use Rattle.code_forms.specs.declared.module_code.CodeProcedure.{CodeProcedure}
use Rattle.code_forms.specs.declared.module_code.Phrase.{Phrase}
use Rattle.object_files.specs.declared.image.Image.{Image}
use Rattle.signaller.specs.declared.search.Found.{Found}
use Rattle.signaller.specs.declared.search.Found.TheVariants.{Arm as FoundArm, Beyond}
use Rattle.signaller.specs.declared.search.Search.{Search}
use Rattle.signaller.specs.Search.{search_at, fits_jump, next, unwind_next}
use Rattle.machine_rules.specs.State.{Target, ForRaise, ForJump, Role, Frame, InArm, Active, Activations, Store}
use Rattle.machine_rules.specs.LookUps.{phrases_under, arm_under}
use Rattle.machine_rules.specs.Activations.{activation_at, owner, own_frame}
use Rattle.machine_rules.specs.Moves.{go_to}
use Rattle.machine_rules.specs.Leaving.{has_offset, is_arm_at, place_for, target_for, left_to_ask, dropped, leave, arrived, unwound, leave_step}
use Rattle.machine_rules.proofs.Arming.{phrases_are}
use Rattle.machine_rules.proofs.Located.{World, has as has_procedure}
use Rattle.machine_rules.proofs.Placing.{placed}
use Rattle.machine_rules.proofs.Searching.{found_arm}
use Rattle.machine_rules.proofs.Standing.{Bare, bare, bare_role, bares, bares_long, at_top, at_more, Owns, RoleFits, Stand}
use Rattle.survey_rules.specs.Escapes.{IsCode}
use Rattle.survey_rules.proofs.Codes.{code_there, one_code}
use Rattle.survey_rules.proofs.Living.{Alive, search_alive, next_alive, found_alive}
use Rattle.survey_rules.proofs.Following.{follows_if, follows_return}
use Rattle.survey_rules.proofs.Arms.{arm_reached, follows_arm}
use Rattle.survey_rules.proofs.Tracing.{Reaches, AimsReached, AsksAlive, RoleFrom, Trace, Named, Follows}

-- The target.

-- an arm of the frame, or the frame itself
abbrev OwnedAt : Activations → (own place : ℕ) → Type 0
OwnedAt S own q = (q ≡ own) ⊎ ((b : Bare) × (activation_at (bares S) q ≡ Some b) × (owner b.role q ≡ own))

owner_if : (image : Image) (a : Active) (role : Role (List ℕ)) (own offset q : ℕ) → is_arm_at image a role own offset ≡ true → owner (bare_role role) q ≡ own
unfolding is_arm_at owner
owner_if image a (Frame variables) own offset q e = absurd (false≢true e)
owner_if image a (InArm k n why) own offset q e = eqb-true k own (and_parts (nat_eq k own) (has_offset (arm_under image a n) offset) e).0

owned_if : (image : Image) (a : Active) (S : Activations) (own offset : ℕ) (t : Bool) → is_arm_at image a a.role own offset ≡ t → OwnedAt S own (place_for image S own offset)
    → OwnedAt (a ∷ S) own (if t then length S else place_for image S own offset)
owned_if image a S own offset true e next = inr (
  bare a,
  subst (λ n. activation_at (bares (a ∷ S)) n ≡ Some (bare a)) (bares_long S) (at_top (bare a) (bares S)),
  owner_if image a a.role own offset (length S) e,
)
owned_if image a S own offset false e next = ⊎_elim
    (λ (x : place_for image S own offset ≡ own). inl x)
    (λ (x : (b : Bare) × (activation_at (bares S) (place_for image S own offset) ≡ Some b) × (owner b.role (place_for image S own offset) ≡ own)).
    inr (x.0, at_more (bare a) (bares S) _ x.0 x.1, x.2))
    next

owned_at : (image : Image) (S : Activations) (own offset : ℕ) → OwnedAt S own (place_for image S own offset)
unfolding place_for
owned_at image [] own offset = inl refl
owned_at image (a ∷ S) own offset = owned_if image a S own offset (is_arm_at image a a.role own offset) refl (owned_at image S own offset)

-- two that belong to one frame are of one procedure
same_owner : (B : List Bare) (own i j k l : ℕ) → Owns B own i j → Owns B own k l → (k ≡ i) × (l ≡ j)
same_owner B own i j k l one other =
    let same : one.frame ≡ other.frame = same_Some one.frame other.frame (sym one.is ∙ other.is) in (
      sym other.instance_is ∙ ap (λ (f : Bare). f.instance) (sym same) ∙ one.instance_is,
      sym other.procedure_is ∙ ap (λ (f : Bare). f.procedure) (sym same) ∙ one.procedure_is,
    )

reaches_there : (image : Image) (a b : Bare) (offset : ℕ) → (b.instance ≡ a.instance) × (b.procedure ≡ a.procedure) → Reaches image (record a { offset = offset })
    → Reaches image (record b { offset = offset })
reaches_there image a b offset e r = λ m p c.
    r m p (subst (λ k. IsCode image a.instance k m p) e.1 (subst (λ k. IsCode image k b.procedure m p) e.0 c))

module _ (image : Image) (w : World image) where
  place_reached : (a : Bare) (S : Activations) (own offset : ℕ) → Stand image (bares S) → Owns (bares S) own a.instance a.procedure → Reaches image (record a { offset = offset })
      → (b : Bare) → activation_at (bares S) (place_for image S own offset) ≡ Some b → Reaches image (record b { offset = offset })
  place_reached a S own offset s o r b at = ⊎_elim
      (λ (e : place_for image S own offset ≡ own).
      let same : o.frame ≡ b = same_Some o.frame b (sym o.is ∙ sym (ap (λ k. activation_at (bares S) k) e) ∙ at) in
      reaches_there image a b offset (ap (λ (f : Bare). f.instance) (sym same) ∙ o.instance_is, ap (λ (f : Bare). f.procedure) (sym same) ∙ o.procedure_is) r)
      (λ (x : (y : Bare) × (activation_at (bares S) (place_for image S own offset) ≡ Some y) × (owner y.role (place_for image S own offset) ≡ own)).
      let same : x.0 ≡ b = same_Some x.0 b (sym x.1 ∙ at) in
      let l = placed image (bares S) (place_for image S own offset) b s at in
      let mine : Owns (bares S) own b.instance b.procedure =
      subst (λ k. Owns (bares S) k b.instance b.procedure) (ap (λ (y : Bare). owner y.role (place_for image S own offset)) (sym same) ∙ x.2) l.owns in
      reaches_there image a b offset (same_owner (bares S) own a.instance a.procedure b.instance b.procedure o mine) r)
      (owned_at image S own offset)

  aims_reached : (a : Bare) (S : Activations) (own : ℕ) (goal : Option ℕ) → Stand image (bares S) → Owns (bares S) own a.instance a.procedure
      → ((offset : ℕ) → goal ≡ Some offset → Reaches image (record a { offset = offset })) → AimsReached image (bares S) (target_for image S own goal)
  unfolding target_for
  aims_reached a S own None s o r = λ b at offset e. absurd (none-some offset e)
  aims_reached a S own (Some goal) s o r = λ b at offset e.
      subst (λ x. Reaches image (record b { offset = x })) (same_Some goal offset e) (place_reached a S own goal s o (r goal refl) b at)

  -- The topmost activation is given up.

  asks_offset : (b : Active) (S : Activations) → Stand image (bares (b ∷ S)) → Trace image (bares (b ∷ S)) → AsksAlive image (bares (b ∷ S)) (search_at false (phrases_under image b) b.offset)
  asks_offset b S s t = λ m p c k e.
      search_alive image w b.instance b.procedure m p c false b.offset ((t.0).reaches m p c) k
      (subst (λ (x : List Phrase). (search_at false x b.offset).phrase ≡ Some k) (phrases_are image b p c.is_procedure) e)

  left_alive : (i j : ℕ) (role : Role (List ℕ)) (b : Active) (S : Activations) → RoleFrom image i j (bare_role role) (bares (b ∷ S)) → Stand image (bares (b ∷ S))
      → Trace image (bares (b ∷ S)) → AsksAlive image (bares (b ∷ S)) (left_to_ask image role b)
  unfolding left_to_ask
  left_alive i j (Frame variables) b S from s t = asks_offset b S s t
  left_alive i j (InArm own n (ForRaise signal args after)) b S from s t = asks_offset b S s t
  left_alive i j (InArm own n (ForJump target after)) b S from s t = from.1

  follows_dropped : (target : Target) (i j : ℕ) (role : Role (List ℕ)) (S : Activations) (m : Store) → RoleFrom image i j (bare_role role) (bares S) → AimsReached image (bares S) target
      → Stand image (bares S) → Trace image (bares S) → Named image m.control → Follows image (dropped image target role S m)
  unfolding dropped
  follows_dropped target i j role [] m from aim s t c = tt
  follows_dropped target i j role (b ∷ S) m from aim s t c = (t, c, aim, left_alive i j role b S from s t)

  leave_role : (goal : Option ℕ) (a : Active) (p : CodeProcedure) (role : Role (List ℕ)) (S : Activations) (m : Store) → RoleFits image a.instance a.procedure p (bare_role role) (bares S)
      → RoleFrom image a.instance a.procedure (bare_role role) (bares S) → ((offset : ℕ) → goal ≡ Some offset → Reaches image (record (bare a) { offset = offset }))
      → Stand image (bares S) → Trace image (bares S) → Named image m.control → Follows image (leave image goal role S m)
  unfolding leave
  leave_role goal a p (Frame variables) S m over from r s t c = tt
  leave_role goal a p (InArm own n why) S m over from r s t c =
      follows_dropped (target_for image S own goal) a.instance a.procedure (InArm own n why) S m from (aims_reached (bare a) S own goal s over.owns r) s t c

  pub follows_leave : (goal : Option ℕ) (a : Active) (S : Activations) (m : Store) → ((offset : ℕ) → goal ≡ Some offset → Reaches image (record (bare a) { offset = offset }))
      → Stand image (bares (a ∷ S)) → Trace image (bares (a ∷ S)) → Named image m.control → Follows image (leave image goal a.role S m)
  follows_leave goal a S m r s t c = leave_role goal a ((s.0).at).p a.role S m (s.0).over (t.0).role r s.1 t.1 c

  -- A jump goes on.

  pub follows_go : (target : ℕ) (operands : List ℕ) (a : Active) (S : Activations) (m : Store) → Reaches image (record (bare a) { offset = target }) → Trace image (bares (a ∷ S))
      → Named image m.control → Follows image (go_to target operands a S m)
  unfolding go_to
  follows_go target operands a S m r t c = ((record { reaches = r; role = (t.0).role }, t.1), c)

  follows_arrived : (goal : Option ℕ) (a : Active) (S : Activations) (m : Store) → ((offset : ℕ) → goal ≡ Some offset → Reaches image (record (bare a) { offset = offset }))
      → Stand image (bares (a ∷ S)) → Trace image (bares (a ∷ S)) → Named image m.control → Follows image (arrived image goal a S m)
  unfolding arrived
  follows_arrived None a S m r s t c = follows_return image w a S m s t c
  follows_arrived (Some offset) a S m r s t c = follows_go offset [] a S m (r offset refl) t c

  follows_unwound : (target : Target) (search : Search) (a : Active) (found : Found) (S : Activations) (m : Store) → AimsReached image (bares (a ∷ S)) target
      → AimsReached image (bares S) target → AsksAlive image (bares (a ∷ S)) search → (s : Stand image (bares (a ∷ S))) → Trace image (bares (a ∷ S)) → Named image m.control
      → next false fits_jump ((s.0).at).p.phrases search ≡ found → Follows image (unwound image target a found S m)
  unfolding unwound
  follows_unwound target search a Beyond S m up aim ask s t c e = follows_dropped target a.instance a.procedure a.role S m (t.0).role aim s.1 t.1 c
  follows_unwound target search a (FoundArm n after) S m up aim ask s t c e =
      let p = ((s.0).at).p in let of = ((s.0).at).is in
      let f = found_arm false fits_jump p.phrases search n after e in
      let h = has_procedure image w a.instance a.procedure p of in
      let code = code_there image a.instance a.procedure p of h in
      let alive = found_alive image w a.instance a.procedure h.code p code false search (ask h.code p code) f.before (f.place).phrase f.behind f.parts in
      follows_arm image n a (length S) (ForJump target after) [] (a ∷ S) m
      (λ arm g. arm_reached image w (bare a) p h.code code f.place f.is alive n f.number arm g) (
        up,
        λ k q c' x g. one_code (λ y z. Alive y z x) image a.instance a.procedure h.code k p q code c'
            (next_alive image w a.instance a.procedure h.code p code false (f.place).phrase alive x (ap (λ (y : Search). y.phrase) (sym f.rest) ∙ g)),
      )
      t c

  leave_if : (target : Target) (search : Search) (a : Active) (S : Activations) (m : Store) → AimsReached image (bares (a ∷ S)) target → AsksAlive image (bares (a ∷ S)) search
      → Stand image (bares (a ∷ S)) → Trace image (bares (a ∷ S)) → Named image m.control → (b : Bool) → nat_eq (length S) target.place ≡ b
      → Follows image (if b then arrived image target.goal a S m else (if nat_eq (own_frame a S) target.owner then dropped image target a.role S m
      else unwound image target a (unwind_next (phrases_under image a) search) S m))
  leave_if target search a S m aim ask s t c true e =
      let l : length S ≡ target.place = eqb-true (length S) target.place e in
      let at : activation_at (bares (a ∷ S)) target.place ≡ Some (bare a) =
      subst (λ k. activation_at (bares (a ∷ S)) k ≡ Some (bare a)) (bares_long S ∙ l) (at_top (bare a) (bares S)) in
      follows_arrived target.goal a S m (λ offset g. aim (bare a) at offset g) s t c
  leave_if target search a S m aim ask s t c false e =
      let below : AimsReached image (bares S) target = λ b at offset g. aim b (at_more (bare a) (bares S) target.place b at) offset g in
      follows_if image (nat_eq (own_frame a S) target.owner) _ _
      (λ x. follows_dropped target a.instance a.procedure a.role S m (t.0).role below s.1 t.1 c)
      (λ x. follows_unwound target search a _ S m aim below ask s t c
      (ap (λ (y : List Phrase). unwind_next y search) (sym (phrases_are image a ((s.0).at).p ((s.0).at).is))))

  pub follows_leave_step : (target : Target) (search : Search) (S : Activations) (m : Store) → AimsReached image (bares S) target → AsksAlive image (bares S) search
      → Stand image (bares S) → Trace image (bares S) → Named image m.control → Follows image (leave_step image target search S m)
  unfolding leave_step
  follows_leave_step target search [] m aim ask s t c = tt
  follows_leave_step target search (a ∷ S) m aim ask s t c = leave_if target search a S m aim ask s t c (nat_eq (length S) target.place) refl
