-- The machine runs the UNWIND arms that are due for a jump.
use Rattle.std.proofs.Common.{◌≡◌, ◌⊎◌, inl, inr, ⊎_elim, ℕ, suc, ◌+◌, ◌<◌, ◌≤◌, List, [], ◌∷◌, ◌++◌, length, map, Bool, true, false, Option, Some, None, refl, sym, ap, subst, ◌∙◌, arith}
use Rattle.std.specs.Prelude.{nat_eq, if◌then◌else◌}
use Rattle.std.proofs.lemmas.Bool.{eqb-true, eq-eqb, false≢true, cases_lt}
use Rattle.code_forms.specs.declared.instruction.Instruction.{Instruction}
use Rattle.code_forms.specs.declared.instruction.Instruction.TheVariants.{Leave, LeaveReturn}
use Rattle.code_forms.specs.declared.module_code.Phrase.{Phrase}
use Rattle.object_files.specs.declared.image.Image.{Image}
use Rattle.signaller.specs.declared.search.Found.{Found}
use Rattle.signaller.specs.declared.search.Search.{Search}
use Rattle.signaller.specs.Search.{asked, unwind_next}
use Rattle.machine_rules.specs.State.{Target, Why, ForJump, Role, InArm, Active, Activations, Store, State, Runs, Seeks, Leaves, Ending, Stepped, Goes, Stops}
use Rattle.machine_rules.specs.LookUps.{phrases_under, instruction_under}
use Rattle.machine_rules.specs.Moves.{with}
use Rattle.machine_rules.specs.Working.{works}
use Rattle.machine_rules.specs.Activations.{owner, own_frame}
use Rattle.machine_rules.specs.Signals.{enter_arm}
use Rattle.machine_rules.specs.Leaving.{is_arm_at, place_for, target_for, left_to_ask, dropped, leave, unwound, leave_step}
use Rattle.machine_rules.specs.Steps.{perform, worked, works_in, begin, run, step, Ends, stops, goes, fresh, begins}
use Rattle.machine_rules.specs.Unwinding.{unwind_arms, to_ask, to_ask_under, Due, due, standing, Phase, Giving, Within, Unwinds, arrives, gives_up, begins_arm, arm_stands, arm_ends, arm_stops, arm_jumps, arm_given_up, Comes, here, later, JumpsTo, JumpsUnwind, JumpsOfRunsUnwind}
use Rattle.machine_rules.proofs.Due.{NextOf, no_arm, an_arm, next_of, asks_left, due_bare, asks_top, top_bare}
use Rattle.machine_rules.proofs.Over.{Over, Kept, for_jump, Turn, kept, ended, jumped, passed, turn, kept_begun}
use Rattle.machine_rules.proofs.Below.{acts_of}
use Rattle.machine_rules.proofs.Measure.{OwnedRole, Owned}
use Rattle.machine_rules.proofs.Nearer.{After, GoesForward, after_step}
use Rattle.machine_rules.proofs.OneResult.{goes_forward, finishes}
use Rattle.machine_rules.proofs.Standing.{Bare, bares, bares_long}

-- an arm that was due runs, and these are due behind it
pub record Inside (image : Image) (t : Target) (d : Due) (ds : List Due) (x : Stepped) : Type 0 where
  pub own : ℕ
  pub n : ℕ
  pub beyond : Search
  pub under : List Bare
  pub long : length under ≡ d.place + 1
  pub aims : t.place < length under
  pub rest : ds ≡ due image t (asks_top image beyond under) under
  pub arm : Kept (for_jump own n t beyond) under x

abbrev Asks : Image → Target → List Due → State → Type 0
Asks image t ds (Leaves other search S m) = (other ≡ t) × (t.place < length S) × (ds ≡ due image t (asks_top image search S) S)
Asks image t ds (Runs S m) = ⊥
Asks image t ds (Seeks signal args q search S m) = ⊥

abbrev Fits : Image → Target → Phase → Stepped → Type 0
Fits image t (Giving ds) (Goes s) = Asks image t ds s
Fits image t (Giving ds) (Stops end m) = ⊥
Fits image t (Within d ds) x = Inside image t d ds x

over_long : (r : Role (List ℕ)) (U : List Bare) (S : Activations) → Over r U S → length U < length S
over_long r U [] o = absurd o
over_long r U (a ∷ S) (inl x) = let l = bares_long S in let k = ap (λ (B : List Bare). length B) x.1 in omega (arith, l, k)
over_long r U (a ∷ S) (inr o) = let l = over_long r U S o in omega (arith, l)

-- The arms that are due, where the topmost activation is not the target's.

abbrev dues : ℕ → List ℕ → List Due
dues place arms = map (λ n. record { place = place; arm = n }) arms

module _ (image : Image) (t : Target) (a : Active) (S : Activations) where
  due_here : (numbers : List ℕ) → nat_eq (length S) t.place ≡ true → due image t numbers (a ∷ S) ≡ []
  unfolding due
  due_here numbers e = rw e refl

  due_own : (numbers : List ℕ) → nat_eq (length S) t.place ≡ false → nat_eq (own_frame a S) t.owner ≡ true
      → due image t numbers (a ∷ S) ≡ due image t (to_ask_under image a.role S) S
  unfolding due
  due_own numbers e f = rw (e, f) refl

  due_other : (numbers : List ℕ) → nat_eq (length S) t.place ≡ false → nat_eq (own_frame a S) t.owner ≡ false
      → due image t numbers (a ∷ S) ≡ dues (length S) (unwind_arms (phrases_under image a) numbers) ++ due image t (to_ask_under image a.role S) S
  unfolding due
  due_other numbers e f = rw (e, f) refl

-- One step of the jump.

module _ (image : Image) (t : Target) (search : Search) (m : Store) where
  abbrev Further : Activations → Type 0
  Further S = (p : Phase) → Fits image t p (step image (Leaves t search S m)) → Unwinds image t p (step image (Leaves t search S m))

  goes_down : (ds : List Due) (a : Active) (S : Activations) → step image (Leaves t search (a ∷ S) m) ≡ dropped image t a.role S m → t.place < length S
      → ds ≡ due image t (to_ask_under image a.role S) S → Further (a ∷ S) → Unwinds image t (Giving ds) (Goes (Leaves t search (a ∷ S) m))
  unfolding dropped to_ask_under asks_top
  goes_down ds a [] e l is next = absurd (omega (arith, l))
  goes_down ds a (b ∷ S) e l is next =
      gives_up ds search (left_to_ask image a.role b) a (b ∷ S) m e
      (next (Giving ds) (subst (λ x. Fits image t (Giving ds) x) (sym e)
      (refl, l, is ∙ ap (λ numbers. due image t numbers (b ∷ S)) (sym (asks_left image a.role b)))))

  module _ (a : Active) (S : Activations) (e : nat_eq (length S) t.place ≡ false) (f : nat_eq (own_frame a S) t.owner ≡ false) (l : t.place < length S)
      (next : Further (a ∷ S)) where
    abbrev table : List Phrase
    table = phrases_under image a

    begins_one : (n : ℕ) (after : Search) → step image (Leaves t search (a ∷ S) m) ≡ enter_arm image n a (length S) (ForJump t after) [] (a ∷ S) m
        → Unwinds image t (Giving (record { place = length S; arm = n } ∷ dues (length S) (unwind_arms table (asked false table after.phrase)) ++ due image t (to_ask_under image a.role S) S))
        (Goes (Leaves t search (a ∷ S) m))
    unfolding asks_top
    begins_one n after is =
        let d : Due = record { place = length S; arm = n } in
        let ds = dues (length S) (unwind_arms table (asked false table after.phrase)) ++ due image t (to_ask_under image a.role S) S in
        let long = bares_long S in
        begins_arm d ds search after a S m refl is
        (next (Within d ds) (subst (λ x. Inside image t d ds x) (sym is) (record {
          own = owner a.role (length S);
          n = n;
          beyond = after;
          under = bares (a ∷ S);
          long = omega (arith, long);
          aims = omega (arith, long, l);
          rest = sym (ap (λ numbers. due image t numbers (bares (a ∷ S))) (top_bare image after (a ∷ S)) ∙ due_bare image t _ (a ∷ S) ∙ due_other image t a S _ e f);
          arm = kept_begun image (owner a.role (length S)) n t after (bares (a ∷ S)) a (length S) [] (a ∷ S) m refl refl;
        })))

    by_found : (ds : List Due) (arms : List ℕ) (found : Found) → NextOf table arms found
        → step image (Leaves t search (a ∷ S) m) ≡ unwound image t a found S m
        → ds ≡ dues (length S) arms ++ due image t (to_ask_under image a.role S) S → Unwinds image t (Giving ds) (Goes (Leaves t search (a ∷ S) m))
    unfolding unwound
    by_found ds arms _ (no_arm none) is e2 =
        goes_down ds a S is l (e2 ∙ ap (λ x. dues (length S) x ++ due image t (to_ask_under image a.role S) S) none) next
    by_found ds arms _ (an_arm n after some) is e2 =
        subst (λ x. Unwinds image t (Giving x) (Goes (Leaves t search (a ∷ S) m)))
        (sym (e2 ∙ ap (λ x. dues (length S) x ++ due image t (to_ask_under image a.role S) S) some)) (begins_one n after is)

  below : (a : Active) (S : Activations) → t.place < length (a ∷ S) → nat_eq (length S) t.place ≡ false → t.place < length S
  below a S l e = ⊎_elim (λ (h : t.place < length S). h) (λ (h : length S ≤ t.place). absurd (false≢true (sym e ∙ eq-eqb (length S) t.place (omega (arith, l, h)))))
      (cases_lt t.place (length S))

  asks_by : (ds : List Due) (a : Active) (S : Activations) (p q : Bool) → nat_eq (length S) t.place ≡ p → nat_eq (own_frame a S) t.owner ≡ q
      → t.place < length (a ∷ S) → ds ≡ due image t (asked false (phrases_under image a) search.phrase) (a ∷ S) → Further (a ∷ S)
      → Unwinds image t (Giving ds) (Goes (Leaves t search (a ∷ S) m))
  unfolding step leave_step
  asks_by ds a S true q e f l is next =
      subst (λ x. Unwinds image t (Giving x) (Goes (Leaves t search (a ∷ S) m))) (sym (is ∙ due_here image t a S _ e)) (arrives search a S m (eqb-true (length S) t.place e))
  asks_by ds a S false true e f l is next = goes_down ds a S (rw (e, f) refl) (below a S l e) (is ∙ due_own image t a S _ e f) next
  asks_by ds a S false false e f l is next =
      by_found a S e f (below a S l e) next ds _ (unwind_next (phrases_under image a) search) (next_of (phrases_under image a) search) (rw (e, f) refl)
      (is ∙ due_other image t a S _ e f)

  pub goes_its_way : (ds : List Due) (S : Activations) → t.place < length S → ds ≡ due image t (asks_top image search S) S → Further S
      → Unwinds image t (Giving ds) (Goes (Leaves t search S m))
  unfolding asks_top
  goes_its_way ds [] l is next = absurd (omega (arith, l))
  goes_its_way ds (a ∷ S) l is next = asks_by ds a S (nat_eq (length S) t.place) (nat_eq (own_frame a S) t.owner) refl refl l is next

-- One step while an arm runs.

module _ (image : Image) (t : Target) (d : Due) (ds : List Due) where
  abbrev Onwards : State → Type 0
  Onwards s = (p : Phase) → Fits image t p (step image s) → Unwinds image t p (step image s)

  as_long : (S : Activations) (U : List Bare) → bares S ≡ U → length U ≡ d.place + 1 → length S ≡ d.place + 1
  as_long S U same long = let l = bares_long S in let k = ap (λ (B : List Bare). length B) same in omega (arith, l, k, long)

  by_turn : (own n : ℕ) (beyond : Search) (U : List Bare) → length U ≡ d.place + 1 → t.place < length U → ds ≡ due image t (asks_top image beyond U) U
      → (s : State) → Over (for_jump own n t beyond) U (standing s) → Turn image own n t beyond U s → Onwards s → Unwinds image t (Within d ds) (Goes s)
  by_turn own n beyond U long aims rest _ o (kept s k) next =
      let l = over_long (for_jump own n t beyond) U (standing s) o in
      arm_stands d ds s (omega (arith, l, long))
      (next (Within d ds) (record { own = own; n = n; beyond = beyond; under = U; long = long; aims = aims; rest = rest; arm = k }))
  by_turn own n beyond U long aims rest _ o (ended i a S m m' same is fits e) next =
      let l = as_long S U same long in
      arm_ends d ds beyond i a S m m' l is fits e
      (next (Giving ds) (subst (λ x. Fits image t (Giving ds) x) (sym e) (
        refl,
        omega (arith, aims, long, l),
        subst (λ V. ds ≡ due image t (asks_top image beyond V) V) (sym same) rest ∙ ap (λ numbers. due image t numbers (bares S)) (top_bare image beyond S)
            ∙ due_bare image t (asks_top image beyond S) S,
      )))
  by_turn own n beyond U long aims rest _ o (jumped i a S m same is fits) next = arm_jumps d ds i a S m (as_long S U same long) is fits
  by_turn own n beyond U long aims rest _ o (passed other search further a S m same e) next = arm_given_up d ds other search further a S m (as_long S U same long) e

  pub goes_on_inside : (s : State) → Inside image t d ds (Goes s) → Onwards s → Unwinds image t (Within d ds) (Goes s)
  goes_on_inside s x next =
      by_turn x.own x.n x.beyond x.under x.long x.aims x.rest s x.arm (turn image x.own x.n t x.beyond x.under s x.arm) next

-- The whole run.

by_state : (image : Image) (t : Target) (ds : List Due) (s : State) → Asks image t ds s
    → ((p : Phase) → Fits image t p (step image s) → Unwinds image t p (step image s)) → Unwinds image t (Giving ds) (Goes s)
by_state image t ds (Runs S m) x next = absurd x
by_state image t ds (Seeks signal args q search S m) x next = absurd x
by_state image t ds (Leaves other search S m) (same, l, is) next =
    subst (λ y. ((p : Phase) → Fits image t p (step image (Leaves y search S m)) → Unwinds image t p (step image (Leaves y search S m)))
    → Unwinds image t (Giving ds) (Goes (Leaves y search S m))) (sym same) (goes_its_way image t search m ds S l is) next

unwinds : (image : Image) (t : Target) (x : Stepped) (end : Ending) (last : Store) → Ends image x end last → (p : Phase) → Fits image t p x → Unwinds image t p x
unwinds image t _ _ _ (stops end m) (Giving ds) f = absurd f
unwinds image t _ _ _ (stops end m) (Within d ds) f = arm_stops d ds end m
unwinds image t _ _ _ (goes s end m e) (Giving ds) f = by_state image t ds s f (unwinds image t (step image s) end m e)
unwinds image t _ _ _ (goes s end m e) (Within d ds) f = goes_on_inside image t d ds s f (unwinds image t (step image s) end m e)

-- The target's activation is there.

place_by : (b : Bool) (S : Activations) (own place : ℕ) → (place < length S) ⊎ (place ≡ own) → ((if b then length S else place) < suc (length S)) ⊎ ((if b then length S else place) ≡ own)
place_by true S own place x = inl (omega arith)
place_by false S own place (inl l) = inl (omega (arith, l))
place_by false S own place (inr e) = inr e

place_there : (image : Image) (S : Activations) (own offset : ℕ) → (place_for image S own offset < length S) ⊎ (place_for image S own offset ≡ own)
unfolding place_for
place_there image [] own offset = inr refl
place_there image (a ∷ S) own offset = place_by (is_arm_at image a a.role own offset) S own (place_for image S own offset) (place_there image S own offset)

target_there : (image : Image) (S : Activations) (own : ℕ) (goal : Option ℕ) → own < length S → (target_for image S own goal).place < length S
unfolding target_for
target_there image S own None l = l
target_there image S own (Some offset) l =
    ⊎_elim (λ (h : place_for image S own offset < length S). h) (λ (h : place_for image S own offset ≡ own). omega (arith, h, l)) (place_there image S own offset)

pub jumps_unwind : JumpsUnwind
unfolding leave dropped to_ask_under asks_top
jumps_unwind image goal own n why [] m l end last e = absurd (omega (arith, l))
jumps_unwind image goal own n why (b ∷ S) m l end last e =
    let t = target_for image (b ∷ S) own goal in
    unwinds image t (Goes (Leaves t (left_to_ask image (InArm own n why) b) (b ∷ S) m)) end last e (Giving (due image t (to_ask image (InArm own n why) b) (b ∷ S)))
    (refl, target_there image (b ∷ S) own goal l, ap (λ numbers. due image t numbers (b ∷ S)) (sym (asks_left image (InArm own n why) b)))

-- In a run each arm stands above its frame.

abbrev OwnedIn : Stepped → Type 0
OwnedIn (Goes s) = Owned (acts_of s)
OwnedIn (Stops end m) = Unit {0}

owned_after : (image : Image) (s : State) (x : Stepped) → After image s x → OwnedIn x
owned_after image s (Goes t) after = after.0
owned_after image s (Stops end m) after = tt

owned_at : (image : Image) → GoesForward image → (x : Stepped) (t : State) → Comes image x t → OwnedIn x → Owned (acts_of t)
owned_at image f _ _ (here s) o = o
owned_at image f _ _ (later s t c) o = owned_at image f (step image s) t c (owned_after image s (step image s) (after_step image f s o))

-- what comes of a state that comes to an end
from_step : (image : Image) (s : State) (end : Ending) (last : Store) → Ends image (Goes s) end last → Ends image (step image s) end last
from_step image s end last (goes _ _ _ e) = e

jump_step : (image : Image) (i : Instruction) (goal : Option ℕ) (a : Active) (S : Activations) (m : Store) → instruction_under image a ≡ Some i → JumpsTo i goal
    → step image (Runs (a ∷ S) m) ≡ leave image goal a.role S (record m { begun = suc m.begun })
unfolding step run with begin worked works_in works perform
jump_step image (Leave arms target) goal a S m is e =
    ap (λ o. with o m (λ i. begin image i a S m)) is ∙ ap (λ g. leave image g a.role S (record m { begun = suc m.begun })) (sym e)
jump_step image (LeaveReturn arms) goal a S m is e =
    ap (λ o. with o m (λ i. begin image i a S m)) is ∙ ap (λ g. leave image g a.role S (record m { begun = suc m.begun })) (sym e)
jump_step image _ goal a S m is e = absurd e

role_jumps : (image : Image) (goal : Option ℕ) (own n : ℕ) (why : Why) (role : Role (List ℕ)) (S : Activations) (m : Store) → role ≡ InArm own n why → own < length S
    → (end : Ending) (last : Store) → Ends image (leave image goal role S m) end last
    → Unwinds image (target_for image S own goal) (Giving (due image (target_for image S own goal) (to_ask_under image role S) S)) (leave image goal role S m)
role_jumps image goal own n why role S m is l end last e =
    subst (λ r. Ends image (leave image goal r S m) end last
    → Unwinds image (target_for image S own goal) (Giving (due image (target_for image S own goal) (to_ask_under image r S) S)) (leave image goal r S m))
    (sym is) (jumps_unwind image goal own n why S m l end last) e

pub jumps_of_runs_unwind : JumpsOfRunsUnwind
unfolding begins
jumps_of_runs_unwind image valid input faulty turns i goal own n why a S m comes role is jump =
    let f = goes_forward image valid in
    let o = owned_at image f (Goes (Runs [] (fresh image input faulty turns))) (Runs (a ∷ S) m) comes tt in
    let l : own < length S = subst (λ r. OwnedRole r (length S)) role o.0 in
    let e = jump_step image i goal a S m is jump in
    let r = finishes image f (Runs (a ∷ S) m) o in
    let ends = subst (λ x. Ends image x r.end r.last) e (from_step image (Runs (a ∷ S) m) r.end r.last r.ends) in
    subst (λ x. Unwinds image (target_for image S own goal) (Giving (due image (target_for image S own goal) (to_ask_under image a.role S) S)) x) (sym e)
    (role_jumps image goal own n why a.role S _ role l r.end r.last ends)
