-- Declarations with faults, and those that stand behind them.
use Rattle.std.proofs.Common.{◌≡◌, ◌<◌, ◌≤◌, ◌+◌, ℕ, true, false, List, [], ◌∷◌, ◌++◌, map, take, length, get_or, Ok, Err, refl, sym, ap, subst, ◌∙◌}
use Rattle.std.specs.Prelude.{◌≢◌, Result}
use Rattle.std.proofs.lemmas.List.{take_all, take_more, map-append}
use Rattle.mesa_base.specs.declared.identifier.Identifier.{Identifier}
use Rattle.mesa_base.specs.declared.place.Place.{Place}
use Rattle.check_rules.specs.Around.{Around}
use Rattle.check_rules.specs.Meanings.{Meaning}
use Rattle.check_rules.specs.Programs.{before_others, behind, head_alone, heads_further, next_or, passed_over, told}
use Rattle.check_rules.specs.Scopes.{Scope, innermost}
use Rattle.check_rules.specs.Steps.{Fault, State, Check, Checked, and_then}
use Rattle.check_rules.specs.declared.fault.CheckFault.{CheckFault}
use Rattle.check_rules.specs.declared.fault.Cause.{Cause}
use Rattle.check_rules.specs.declared.fault.CheckFault.TheVariants.{At, Memory}
use Rattle.check_state.specs.Gives.{Gives, GivesOnly, fault}
use Rattle.check_heads.specs.Again.{after, dropped, heads_in, is_fault, next, outcome_alone, retried}

-- ---- one more

module _ {D A : Type 0} (names : D → List Identifier) (rule : D → Check A) where
  behind_both : (ds es : List D) (σ : State) → behind names rule (ds ++ es) σ ≡ behind names rule es (behind names rule ds σ)
  unfolding behind
  behind_both [] es σ = refl
  behind_both (d ∷ ds) es σ = behind_both ds es (next names rule d σ)

  one_more : (all : List D) (i : ℕ) (d : D) → i < length all → d ≡ get_or all i d → take (i + 1) all ≡ take i all ++ d ∷ []
  one_more all i d inside here = take_more all i d inside ∙ ap (λ y. take i all ++ y ∷ []) (sym here)

  pub behind_more : (all : List D) (i : ℕ) (d : D) (σ : State) → i < length all → d ≡ get_or all i d
      → behind names rule (take (i + 1) all) σ ≡ next names rule d (behind names rule (take i all) σ)
  unfolding behind
  behind_more all i d σ inside here = ap (λ ds. behind names rule ds σ) (one_more all i d inside here) ∙ behind_both (take i all) (d ∷ []) σ

  pub behind_none : (σ : State) → behind names rule [] σ ≡ σ
  unfolding behind
  behind_none σ = refl

module _ {D A : Type 0} (rule : D → Check A) where
  after_both : (ds es : List D) (σ : State) → after rule (ds ++ es) σ ≡ after rule es (after rule ds σ)
  unfolding after
  after_both [] es σ = refl
  after_both (d ∷ ds) es σ = after_both ds es (next_or σ (rule d σ))

  pub after_none : (σ : State) → after rule [] σ ≡ σ
  unfolding after
  after_none σ = refl

  pub after_more : {X : Type 0} (view : X → D) (all : List X) (i : ℕ) (x : X) (σ : State) → i < length all → x ≡ get_or all i x
      → after rule (map view (take (i + 1) all)) σ ≡ next_or (after rule (map view (take i all)) σ) (rule (view x) (after rule (map view (take i all)) σ))
  unfolding after
  after_more view all i x σ inside here =
      ap (λ xs. after rule (map view xs) σ) (take_more all i x inside ∙ ap (λ y. take i all ++ y ∷ []) (sym here))
      ∙ ap (λ ds. after rule ds σ) (map-append view (take i all) (x ∷ []))
      ∙ after_both (map view (take i all)) (view x ∷ []) σ

  pub after_ok : {X : Type 0} (view : X → D) (all : List X) (i : ℕ) (x : X) (σ s t : State) (r : A) → i < length all → x ≡ get_or all i x
      → s ≡ after rule (map view (take i all)) σ → rule (view x) s ≡ Ok (r, t) → t ≡ after rule (map view (take (i + 1) all)) σ
  after_ok view all i x σ s t r inside here now e =
      sym (after_more view all i x σ inside here ∙ ap (λ u. next_or u (rule (view x) u)) (sym now) ∙ ap (next_or s) e)

  pub after_all : {X : Type 0} (view : X → D) (all : List X) (i : ℕ) (σ s : State) → length all ≤ i → s ≡ after rule (map view (take i all)) σ → s ≡ after rule (map view all) σ
  after_all view all i σ s outside now = now ∙ ap (λ xs. after rule (map view xs) σ) (take_all i all outside)

-- ---- without the values

abbrev refused : (X : Type 0) → Fault → Checked X
refused X f = Err f

errs : (X : Type 0) (g f : Fault) → refused X g ≡ refused X f → g ≡ f
errs X g f e = cc

abbrev valueless : {A : Type 0} → A × State → Checked (Unit {0} × State)
valueless r = Ok (tt, r.1)

next_dropped : {A : Type 0} (σ : State) (m : Checked (A × State)) → next_or σ (and_then m valueless) ≡ next_or σ m
next_dropped σ (Ok r) = refl
next_dropped σ (Err e) = refl

module _ {D E A : Type 0} (view : E → D) (names : D → List Identifier) where
  behind_dropped : (rule : D → Check A) (es : List E) (σ : State)
      → behind (λ e. names (view e)) (λ e. dropped (rule (view e))) es σ ≡ behind names rule (map view es) σ
  unfolding behind
  behind_dropped rule [] σ = refl
  behind_dropped rule (e ∷ es) σ =
      ap (behind (λ e. names (view e)) (λ e. dropped (rule (view e))) es) (next_dropped (passed_over (names (view e)) σ) (rule (view e) σ))
      ∙ behind_dropped rule es (next_or (passed_over (names (view e)) σ) (rule (view e) σ))

  further_dropped : (rule : D → Check A) (e : E) (es : List E) (σ : State)
      → heads_further (λ e. names (view e)) (λ e. dropped (rule (view e))) (names (view e)) es σ ≡ heads_further names rule (names (view e)) (map view es) σ
  further_dropped rule e es σ = ap (λ s x. head_alone (innermost s.scopes x)) (behind_dropped rule es (passed_over (names (view e)) σ))

  same_fault : (m n : Checked (A × State)) (f : Fault) → told (and_then m valueless) (λ u. and_then n valueless) ≡ Err f → told m (λ u. n) ≡ Err f
  same_fault (Ok r) n f e = absurd (apart e)
    where
      apart : {X Y : Type 0} {x : X} {y : Y} → Ok x ≡ Err y → ⊥
      apart e = cc
  same_fault (Err g) (Ok r) f e = ap (refused (A × State)) (errs (Unit {0} × State) _ f e)
  same_fault (Err g) (Err h) f e = ap (refused (A × State)) (errs (Unit {0} × State) _ f e)

  -- the fault of a declaration before others is the same without the values
  pub before_dropped : (rule : Around → D → Check A) (a : Around) (e : E) (es : List E) (σ : State) (f : Fault)
      → before_others (λ e. names (view e)) (λ a e. dropped (rule a (view e))) a e es σ ≡ Err f
      → before_others names rule a (view e) (map view es) σ ≡ Err f
  before_dropped rule a e es σ f h =
      same_fault (rule a (view e) σ) (rule (record a { further = heads_further names (rule a) (names (view e)) (map view es) σ }) (view e) σ) f
      (ap (λ s. told (and_then (rule a (view e) σ) valueless) (λ u. and_then (rule (record a { further = s }) (view e) σ) valueless))
      (sym (further_dropped (rule a) e es σ)) ∙ h)

-- ---- one more, by what is known of it

kept : {A : Type 0} (s : State) (m : Checked (A × State)) → true ≡ is_fault m → next_or s m ≡ s
kept s (Ok r) h = absurd (apart h)
  where
    apart : true ≡ false → ⊥
    apart e = cc
kept s (Err f) h = refl

module _ {D A : Type 0} (names : D → List Identifier) (rule : D → Check A) where
  pub passed_on : (d : D) (xs : List Identifier) (s t : State) → true ≡ is_fault (rule d s) → xs ≡ names d → t ≡ passed_over xs s → t ≡ next names rule d s
  passed_on d xs s t bad same e = e ∙ ap (λ ys. passed_over ys s) same ∙ sym (kept (passed_over (names d) s) (rule d s) bad)

  pub declared_on : (d : D) (s t : State) (r : A) → rule d s ≡ Ok (r, t) → t ≡ next names rule d s
  declared_on d s t r e = sym (ap (next_or (passed_over (names d) s)) e)

  pub gone_on : (all : List D) (i : ℕ) (d : D) (σ s t : State) → i < length all → d ≡ get_or all i d
      → s ≡ behind names rule (take i all) σ → t ≡ next names rule d s → t ≡ behind names rule (take (i + 1) all) σ
  gone_on all i d σ s t inside here so_far e = e ∙ ap (next names rule d) so_far ∙ sym (behind_more names rule all i d σ inside here)

-- ---- the second try

abbrev Outcome : Type 0
Outcome = Result (Unit {0}) CheckFault

pub no_fault : (m : Checked (Unit {0} × State)) (r : Outcome) (u : Unit {0}) (t : State) → r ≡ Ok u → Gives (λ (u : Unit {0}). tt) m r t → m ≡ Ok (tt, t)
no_fault m r u t is_ok h = subst (λ q. Gives (λ (u : Unit {0}). tt) m q t) is_ok h

pub at_fault : (m : Checked (Unit {0} × State)) (r : Outcome) (e : CheckFault) (cause : Cause) (place : Place) (t : State) → r ≡ Err e → e ≡ At cause place
    → Gives (λ (u : Unit {0}). tt) m r t → true ≡ is_fault m
at_fault m r e cause place t is_err is_at h =
    let told_it : e ≢ Memory → m ≡ Err (fault e) = subst (λ q. Gives (λ (u : Unit {0}). tt) m q t) is_err h in
    sym (ap is_fault (told_it (λ k. apart (sym is_at ∙ k))))
  where
    apart : {c : Cause} {p : Place} → At c p ≡ Memory → ⊥
    apart k = cc

only_outcome : (m : Checked (Unit {0} × State)) (r : Outcome) (t : State) → Gives (λ (u : Unit {0}). tt) m r t → GivesOnly (λ (u : Unit {0}). tt) (outcome_alone m) r
only_outcome m (Ok u) t h = ap outcome_alone h
only_outcome m (Err e) t h = λ ne. ap outcome_alone (h ne)

module _ {D : Type 0} (names : D → List Identifier) (rule : Around → D → Check (Unit {0})) (a : Around) (d : D) (ds : List D) (σ : State) where
  pub retried_by : (b : Around) (heads : Scope Meaning) (τ s t : State) (r : Outcome) → τ ≡ behind names (rule a) ds (passed_over (names d) σ) → heads ≡ heads_in τ
      → b ≡ record a { further = heads } → s ≡ σ → Gives (λ (u : Unit {0}). tt) (rule b d s) r t
      → GivesOnly (λ (u : Unit {0}). tt) (outcome_alone (retried names rule a d ds σ)) r
  retried_by b heads τ s t r all_behind heads_are near begun h =
      let same : rule b d s ≡ retried names rule a d ds σ =
      ap (rule b d) begun ∙ ap (λ b. rule b d σ) near
      ∙ ap (λ (h : Scope Meaning). rule (record a { further = h }) d σ) (heads_are ∙ ap heads_in all_behind) in
      only_outcome (retried names rule a d ds σ) r t (subst (λ m. Gives (λ (u : Unit {0}). tt) m r t) same h)
