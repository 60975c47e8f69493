-- Rules that put each part of a list before the rest, one after the other; a state of their own is handed from part to part.
use Rattle.std.proofs.Common.{◌≡◌, ◌<◌, ◌≤◌, ◌+◌, ℕ, List, [], ◌∷◌, drop, length, get_or, Ok, Err, refl, sym, ap, ◌∙◌}
use Rattle.std.proofs.lemmas.List.{drop_all}
use Rattle.check_rules.specs.Steps.{Check, Checked, Fault, State, and_then, ◌>>=◌, pure}
use Rattle.check_declared.specs.check_jumps.proofs.Tests.{at_drop}

-- ---- steps one after the other

pub then_two : {A B C : Type 0} (m : Checked A) (f : A → Checked B) (k : B → Checked C) → and_then m (λ a. and_then (f a) k) ≡ and_then (and_then m f) k
then_two (Ok a) f k = refl
then_two (Err e) f k = refl

pub then_three : {A B C D : Type 0} (m : Checked A) (f : A → Checked B) (g : A → B → Checked C) (k : C → Checked D)
    → and_then m (λ a. and_then (f a) (λ b. and_then (g a b) k)) ≡ and_then (and_then m (λ a. and_then (f a) (λ b. g a b))) k
then_three (Ok a) f g k = then_two (f a) (g a) k
then_three (Err e) f g k = refl

pub then_four : {A B C D E : Type 0} (m : Checked A) (f : A → Checked B) (g : A → B → Checked C) (h : A → B → C → Checked D) (k : D → Checked E)
    → and_then m (λ a. and_then (f a) (λ b. and_then (g a b) (λ c. and_then (h a b c) k)))
    ≡ and_then (and_then m (λ a. and_then (f a) (λ b. and_then (g a b) (λ c. h a b c)))) k
then_four (Ok a) f g h k = then_three (f a) (g a) (h a) k
then_four (Err e) f g h k = refl

-- ---- lists

unfoldable pub chained : {S A X : Type 0} → (S → A → Check (X → X)) → (S → A → S) → X → S → List A → Check X
chained one next end s [] = pure end
chained one next end s (x ∷ xs) = one s x >>= (λ put. chained one next end (next s x) xs >>= (λ r. pure (put r)))

-- what is still to come, behind what is there
abbrev pub behind : {X : Type 0} → (X → X) → Checked (X × State) → Checked (X × State)
behind before p = and_then p (λ r. Ok (before r.0, r.1))

pub nothing_behind : {X : Type 0} (p : Checked (X × State)) → p ≡ behind (λ y. y) p
nothing_behind (Ok r) = refl
nothing_behind (Err e) = refl

-- what one part puts, before the rest
abbrev pub before_rest : {X : Type 0} → (State → Checked (X × State)) → (X → X) × State → Checked (X × State)
before_rest rest r = and_then (rest r.1) (λ q. Ok (r.0 q.0, q.1))

longer : {X : Type 0} (before put : X → X) (p : Checked (X × State)) → behind before (and_then p (λ q. Ok (put q.0, q.1))) ≡ behind (λ y. before (put y)) p
longer before put (Ok q) = refl
longer before put (Err e) = refl

one_more : {X : Type 0} (before : X → X) (m : Checked ((X → X) × State)) (rest : State → Checked (X × State))
    → behind before (and_then m (before_rest rest)) ≡ and_then m (λ r. behind (λ y. before (r.0 y)) (rest r.1))
one_more before (Ok r) rest = longer before r.0 (rest r.1)
one_more before (Err e) rest = refl

module _ {S A X : Type 0} (one : S → A → Check (X → X)) (next : S → A → S) (end : X) where
  pub chained_at : (s : S) (before : X → X) (all : List A) (i : ℕ) (x : A) (σ : State) → i < length all → x ≡ get_or all i x
      → behind before (chained one next end s (drop i all) σ) ≡ and_then (one s x σ) (λ r. behind (λ y. before (r.0 y)) (chained one next end (next s x) (drop (i + 1) all) r.1))
  unfolding chained
  chained_at s before all i x σ inside here =
      ap (λ xs. behind before (chained one next end s xs σ)) (at_drop all i x inside here)
      ∙ one_more before (one s x σ) (chained one next end (next s x) (drop (i + 1) all))

  -- behind a part that is checked
  pub chained_turn : (s t : S) (before more put : X → X) (all : List A) (i : ℕ) (x : A) (σ τ : State) → i < length all → x ≡ get_or all i x
      → one s x σ ≡ Ok (put, τ) → more ≡ (λ y. before (put y)) → t ≡ next s x
      → behind before (chained one next end s (drop i all) σ) ≡ behind more (chained one next end t (drop (i + 1) all) τ)
  chained_turn s t before more put all i x σ τ inside here given is on =
      chained_at s before all i x σ inside here
      ∙ ap (λ m. and_then m (λ r. behind (λ y. before (r.0 y)) (chained one next end (next s x) (drop (i + 1) all) r.1))) given
      ∙ ap (λ f. behind f (chained one next end (next s x) (drop (i + 1) all) τ)) (sym is)
      ∙ ap (λ u. behind more (chained one next end u (drop (i + 1) all) τ)) (sym on)

  -- at a part with a fault
  pub chained_stop : (s : S) (before : X → X) (all : List A) (i : ℕ) (x : A) (σ : State) (e : Fault) → i < length all → x ≡ get_or all i x
      → one s x σ ≡ Err e → behind before (chained one next end s (drop i all) σ) ≡ Err e
  chained_stop s before all i x σ e inside here given =
      chained_at s before all i x σ inside here
      ∙ ap (λ m. and_then m (λ r. behind (λ y. before (r.0 y)) (chained one next end (next s x) (drop (i + 1) all) r.1))) given

  -- the same of what a part makes of what is there
  abbrev pub made_of : (X → X) → Checked ((X → X) × State) → Checked ((X → X) × State)
  made_of before m = and_then m (λ r. Ok ((λ y. before (r.0 y)), r.1))

  pub made_at : (s : S) (before : X → X) (all : List A) (i : ℕ) (x : A) (σ : State) → i < length all → x ≡ get_or all i x
      → behind before (chained one next end s (drop i all) σ) ≡ and_then (made_of before (one s x σ)) (λ r. behind r.0 (chained one next end (next s x) (drop (i + 1) all) r.1))
  made_at s before all i x σ inside here =
      chained_at s before all i x σ inside here
      ∙ then_two (one s x σ) (λ r. Ok ((λ y. before (r.0 y)), r.1)) (λ r. behind r.0 (chained one next end (next s x) (drop (i + 1) all) r.1))

  pub made_turn : (s t : S) (before more : X → X) (all : List A) (i : ℕ) (x : A) (σ τ : State) → i < length all → x ≡ get_or all i x
      → made_of before (one s x σ) ≡ Ok (more, τ) → t ≡ next s x
      → behind before (chained one next end s (drop i all) σ) ≡ behind more (chained one next end t (drop (i + 1) all) τ)
  made_turn s t before more all i x σ τ inside here given on =
      made_at s before all i x σ inside here
      ∙ ap (λ m. and_then m (λ r. behind r.0 (chained one next end (next s x) (drop (i + 1) all) r.1))) given
      ∙ ap (λ u. behind more (chained one next end u (drop (i + 1) all) τ)) (sym on)

  pub made_stop : (s : S) (before : X → X) (all : List A) (i : ℕ) (x : A) (σ : State) (e : Fault) → i < length all → x ≡ get_or all i x
      → made_of before (one s x σ) ≡ Err e → behind before (chained one next end s (drop i all) σ) ≡ Err e
  made_stop s before all i x σ e inside here given =
      made_at s before all i x σ inside here
      ∙ ap (λ m. and_then m (λ r. behind r.0 (chained one next end (next s x) (drop (i + 1) all) r.1))) given

  pub chained_end : (s : S) (before : X → X) (all : List A) (i : ℕ) (σ : State) → length all ≤ i
      → behind before (chained one next end s (drop i all) σ) ≡ Ok (before end, σ)
  unfolding chained
  chained_end s before all i σ outside = ap (λ xs. behind before (chained one next end s xs σ)) (drop_all i all outside)
