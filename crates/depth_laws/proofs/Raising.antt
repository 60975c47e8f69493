-- Raises, arms and jumps out of arms are alike in images that differ in depths alone.
use Rattle.std.proofs.Common.{◌≡◌, ℕ, zero, suc, List, [], ◌∷◌, length, Bool, true, false, Option, Some, None, refl, sym, ◌∙◌, ap}
use Rattle.std.specs.Prelude.{option_map, ◌&&◌, nat_eq, if◌then◌else◌}
use Rattle.code_forms.specs.Same.{bare_procedure}
use Rattle.code_forms.specs.declared.module_code.CodeProcedure.{CodeProcedure}
use Rattle.object_files.specs.declared.image.Image.{Image}
use Rattle.object_rules.specs.Exact.{IsSameImage}
use Rattle.signaller.specs.Search.{search_at, next_arm}
use Rattle.signaller.specs.declared.search.Found.{Found}
use Rattle.signaller.specs.declared.search.Found.TheVariants.{Arm as FoundArm, Beyond}
use Rattle.signaller.specs.declared.search.Search.{Search}
use Rattle.signaller.specs.declared.signal_id.SignalId.{SignalId}
use Rattle.signaller.specs.declared.signal_id.SignalId.TheVariants.{Own, BoundsFault, ZeroDivisor, NoInput, Unnamed}
use Rattle.machine_rules.specs.State.{Target, Why, ForRaise, ForJump, Role, Frame, InArm, Activation, Active, Activations, Store, Seeks, Leaves, Stepped, Goes}
use Rattle.machine_rules.specs.Activations.{activation_at, owner}
use Rattle.machine_rules.specs.Moves.{with, spend_of, spend, give}
use Rattle.machine_rules.specs.Signals.{enter_arm, around, raise, outward, asked, seek, takes_in, takes_back, can_resume, resumed, resume}
use Rattle.machine_rules.specs.Leaving.{has_offset, is_arm_at, place_for, target_for, left_to_ask, dropped, leave, unwound}
use Rattle.depth_laws.proofs.Views.{signal_alike, links_alike, instruction_alike, phrases_alike, arm_alike}

-- ---- going on alike

pub with_each : {A : Type 0} (o : Option A) (m : Store) (k l : A → Stepped) → ((x : A) → k x ≡ l x) → with o m k ≡ with o m l
unfolding with
with_each None m k l h = refl
with_each (Some x) m k l h = h x

pub with_same : {A : Type 0} (o r : Option A) (m : Store) (k l : A → Stepped) → o ≡ r → ((x : A) → k x ≡ l x) → with o m k ≡ with r m l
with_same o r m k l e h = ap (λ z. with z m k) e ∙ with_each r m k l h

with_bare : (o : Option CodeProcedure) (m : Store) (k : CodeProcedure → Stepped) → ((p : CodeProcedure) → k p ≡ k (bare_procedure p))
    → with o m k ≡ with (option_map bare_procedure o) m k
unfolding with
with_bare None m k h = refl
with_bare (Some p) m k h = h p

-- with procedures, where no depth is looked at
pub with_procedure : (o r : Option CodeProcedure) (m : Store) (k l : CodeProcedure → Stepped) → option_map bare_procedure o ≡ option_map bare_procedure r
    → ((p : CodeProcedure) → k p ≡ k (bare_procedure p)) → ((p : CodeProcedure) → l p ≡ l (bare_procedure p)) → ((p : CodeProcedure) → k p ≡ l p)
    → with o m k ≡ with r m l
with_procedure o r m k l e h g each =
    with_bare o m k h ∙ ap (λ z. with z m k) e ∙ with_each (option_map bare_procedure r) m k l each ∙ sym (with_bare r m l g)

spent_same : (turns : ℕ) (m : Store) (k l : Store → Stepped) → ((n : Store) → k n ≡ l n) → spend_of turns m k ≡ spend_of turns m l
unfolding spend_of
spent_same zero m k l h = refl
spent_same (suc turns) m k l h = h (record m { turns = turns })

pub spend_same : (m : Store) (k l : Store → Stepped) → ((n : Store) → k n ≡ l n) → spend m k ≡ spend m l
unfolding spend
spend_same m k l h = spent_same m.turns m k l h

module _ (a b : Image) (same : IsSameImage a b) where
  pub give_same : (n : ℕ) (words : List ℕ) (S : Activations) (m : Store) → give a n words S m ≡ give b n words S m
  unfolding give
  give_same n words [] m = refl
  give_same n words (x ∷ S) m = with_same _ _ m _ _ (instruction_alike a b same x) (λ i. refl)

  -- ---- raises

  pub enter_arm_same : (n : ℕ) (c : Active) (q : ℕ) (why : Why) (words : List ℕ) (S : Activations) (m : Store)
      → enter_arm a n c q why words S m ≡ enter_arm b n c q why words S m
  unfolding enter_arm
  enter_arm_same n c q why words S m = with_same _ _ m _ _ (arm_alike a b same c n) (λ arm. refl)

  around_same : {X : Type 0} (x : Activation X) → around a x ≡ around b x
  unfolding around
  around_same x = λ i. search_at true (phrases_alike a b same x i) x.offset

  pub raise_same : (signal : SignalId) (args : List ℕ) (x : Active) (S : Activations) (m : Store) → raise a signal args x S m ≡ raise b signal args x S m
  unfolding raise
  raise_same signal args x S m = spend_same m _ _ (λ n i. Goes (Seeks signal args (length S) (around_same x i) (x ∷ S) n))

  outward_same : (signal : SignalId) (args : List ℕ) (q : ℕ) (S : Activations) (m : Store) → outward a signal args q S m ≡ outward b signal args q S m
  unfolding outward
  outward_same signal args zero S m = refl
  outward_same signal args (suc q) S m = with_each (activation_at S q) m _ _ (λ c i. Goes (Seeks signal args q (around_same c i) S m))

  asked_same : (signal : SignalId) (args : List ℕ) (c : Active) (q : ℕ) (found : Found) (S : Activations) (m : Store)
      → asked a signal args c q found S m ≡ asked b signal args c q found S m
  unfolding asked
  asked_same signal args c q Beyond S m = outward_same signal args (owner c.role q) S m
  asked_same signal args c q (FoundArm arm beyond) S m = enter_arm_same arm c q (ForRaise signal args beyond) args S m

  pub seek_same : (signal : SignalId) (args : List ℕ) (q : ℕ) (search : Search) (S : Activations) (m : Store)
      → seek a signal args q search S m ≡ seek b signal args q search S m
  unfolding seek
  seek_same signal args q search S m = with_each (activation_at S q) m _ _ (λ c.
      (λ i. asked a signal args c q (next_arm (phrases_alike a b same c i) search (links_alike a b same c.instance i) signal) S m)
      ∙ asked_same signal args c q _ S m)

  takes_back_same : (signal : SignalId) (n : ℕ) → takes_back a signal n ≡ takes_back b signal n
  unfolding takes_back
  takes_back_same (Own j k) n = ap (λ o. takes_in o n) (signal_alike a b same j k)
  takes_back_same BoundsFault n = refl
  takes_back_same ZeroDivisor n = refl
  takes_back_same NoInput n = refl
  takes_back_same Unnamed n = refl

  can_resume_same : (role : Role (List ℕ)) (n : ℕ) → can_resume a role n ≡ can_resume b role n
  unfolding can_resume
  can_resume_same (Frame variables) n = refl
  can_resume_same (InArm own arm (ForRaise signal args beyond)) n = takes_back_same signal n
  can_resume_same (InArm own arm (ForJump target beyond)) n = refl

  resumed_same : (takes : Bool) (words : List ℕ) (role : Role (List ℕ)) (S : Activations) (m : Store) → resumed takes a words role S m ≡ resumed takes b words role S m
  unfolding resumed
  resumed_same true words role S m = give_same 0 words S m
  resumed_same false words role S m = refl

  pub resume_same : (n : ℕ) (words : List ℕ) (role : Role (List ℕ)) (S : Activations) (m : Store) → resume a n words role S m ≡ resume b n words role S m
  unfolding resume
  resume_same n words role S m = ap (λ t. resumed t a words role S m) (can_resume_same role n) ∙ resumed_same (can_resume b role n) words role S m

  -- ---- jumps out of arms

  is_arm_same : {X : Type 0} (x : Activation X) (role : Role X) (frame offset : ℕ) → is_arm_at a x role frame offset ≡ is_arm_at b x role frame offset
  unfolding is_arm_at
  is_arm_same x (Frame variables) frame offset = refl
  is_arm_same x (InArm own arm why) frame offset = λ i. nat_eq own frame && has_offset (arm_alike a b same x arm i) offset

  place_same : {X : Type 0} (S : List (Activation X)) (frame offset : ℕ) → place_for a S frame offset ≡ place_for b S frame offset
  unfolding place_for
  place_same [] frame offset = refl
  place_same (x ∷ S) frame offset = λ i. if is_arm_same x x.role frame offset i then length S else place_same S frame offset i

  target_same : {X : Type 0} (S : List (Activation X)) (frame : ℕ) (goal : Option ℕ) → target_for a S frame goal ≡ target_for b S frame goal
  unfolding target_for
  target_same S frame None = refl
  target_same S frame (Some offset) = λ i. record { place = place_same S frame offset i; owner = frame; goal = Some offset }

  left_same : (role : Role (List ℕ)) (x : Active) → left_to_ask a role x ≡ left_to_ask b role x
  unfolding left_to_ask
  left_same (Frame variables) x = λ i. search_at false (phrases_alike a b same x i) x.offset
  left_same (InArm own arm (ForRaise signal args beyond)) x = λ i. search_at false (phrases_alike a b same x i) x.offset
  left_same (InArm own arm (ForJump target beyond)) x = refl

  pub dropped_same : (t : Target) (role : Role (List ℕ)) (S : Activations) (m : Store) → dropped a t role S m ≡ dropped b t role S m
  unfolding dropped
  dropped_same t role [] m = refl
  dropped_same t role (x ∷ S) m = λ i. Goes (Leaves t (left_same role x i) (x ∷ S) m)

  pub leave_same : (goal : Option ℕ) (role : Role (List ℕ)) (S : Activations) (m : Store) → leave a goal role S m ≡ leave b goal role S m
  unfolding leave
  leave_same goal (Frame variables) S m = refl
  leave_same goal (InArm own arm why) S m =
      (λ i. dropped a (target_same S own goal i) (InArm own arm why) S m) ∙ dropped_same (target_for b S own goal) (InArm own arm why) S m

  pub unwound_same : (t : Target) (x : Active) (found : Found) (S : Activations) (m : Store) → unwound a t x found S m ≡ unwound b t x found S m
  unfolding unwound
  unwound_same t x Beyond S m = dropped_same t x.role S m
  unwound_same t x (FoundArm arm beyond) S m = enter_arm_same arm x (length S) (ForJump t beyond) [] (x ∷ S) m
