-- A statement decided: a proof of it or of its contrary, which is found by computing.
use Rattle.std.proofs.Common.{◌≡◌, ℕ, zero, suc, ◌+◌, ◌<◌, ◌≤◌, ◌⊎◌, inl, inr, ⊎_elim, Bool, true, false, nat_le, nat_eq, List, [], ◌∷◌, length, get_or, Option, Some, None, All, IsTrue, refl, subst, arith}
use Rattle.std.specs.List.{AllAdjacentBelow}
use Rattle.std.proofs.lemmas.Bool.{cases_lt}
use Rattle.std.proofs.lemmas.Option.{same_Some, none-some}
use borrow.Author.Tests.{leb-true, leb-false, eqb-true, eqb-false}

abbrev pub dec_by : {A B : Type 0} → (A → B) → (B → A) → Dec A → Dec B
dec_by f g (yes a) = yes (f a)
dec_by f g (no h) = no (λ b. h (g b))

abbrev pub dec_and : {A B : Type 0} → Dec A → Dec B → Dec (A × B)
dec_and (yes a) (yes b) = yes (a, b)
dec_and (yes a) (no h) = no (λ p. h p.1)
dec_and (no h) d = no (λ p. h p.0)

abbrev pub dec_or : {A B : Type 0} → Dec A → Dec B → Dec (A ⊎ B)
dec_or (yes a) d = yes (inl a)
dec_or (no h) (yes b) = yes (inr b)
dec_or (no h) (no g) = no (λ s. ⊎_elim h g s)

abbrev pub dec_if : {A B : Type 0} → Dec A → Dec B → Dec (A → B)
dec_if (no h) d = yes (λ a. absurd (h a))
dec_if (yes a) (yes b) = yes (λ _. b)
dec_if (yes a) (no g) = no (λ f. g (f a))

abbrev pub dec_not : {A : Type 0} → Dec A → Dec (A → ⊥)
dec_not (yes a) = no (λ f. f a)
dec_not (no h) = yes h

pub not_true : false ≡ true → ⊥
not_true e = cc

abbrev pub dec_true : (b : Bool) → Dec (IsTrue b)
dec_true true = yes refl
dec_true false = no not_true

pub not_le : (a b : ℕ) → nat_le a b ≡ false → a ≤ b → ⊥
not_le a b e l = let x = leb-false a b e in omega (arith, x)

abbrev le_by : (a b : ℕ) (t : Bool) → nat_le a b ≡ t → Dec (a ≤ b)
le_by a b true e = yes (leb-true a b e)
le_by a b false e = no (not_le a b e)

abbrev pub dec_le : (a b : ℕ) → Dec (a ≤ b)
dec_le a b = le_by a b (nat_le a b) refl

abbrev pub dec_lt : (a b : ℕ) → Dec (a < b)
dec_lt a b = dec_le (suc a) b

abbrev eq_by : (a b : ℕ) (t : Bool) → nat_eq a b ≡ t → Dec (a ≡ b)
eq_by a b true e = yes (eqb-true a b e)
eq_by a b false e = no (eqb-false a b e)

abbrev pub dec_eq : (a b : ℕ) → Dec (a ≡ b)
dec_eq a b = eq_by a b (nat_eq a b) refl

-- of each element of a list
pub all_none : {X : Type 0} (P : X → Type 0) → All P []
all_none P k d l = absurd (omega arith)

pub all_more : {X : Type 0} (P : X → Type 0) (x : X) (xs : List X) → P x × All P xs → All P (x ∷ xs)
all_more P x xs h zero d l = h.0
all_more P x xs h (suc k) d l = h.1 k d (omega arith)

pub all_less : {X : Type 0} (P : X → Type 0) (x : X) (xs : List X) → All P (x ∷ xs) → P x × All P xs
all_less P x xs h = (h 0 x (omega arith), λ k d l. h (suc k) d (omega arith))

abbrev pub dec_all : {X : Type 0} (P : X → Type 0) → ((x : X) → Dec (P x)) → (xs : List X) → Dec (All P xs)
dec_all P dec [] = yes (all_none P)
dec_all P dec (x ∷ xs) = dec_by (all_more P x xs) (all_less P x xs) (dec_and (dec x) (dec_all P dec xs))

-- of each element of a list and the next
pub next_none : {X : Type 0} (R : X → X → Type 0) → AllAdjacentBelow R [] 0
next_none R k d l = absurd (omega arith)

pub next_one : {X : Type 0} (R : X → X → Type 0) (x : X) → AllAdjacentBelow R (x ∷ []) 1
next_one R x k d l = absurd (omega arith)

pub next_more : {X : Type 0} (R : X → X → Type 0) (x y : X) (xs : List X) → R x y × AllAdjacentBelow R (y ∷ xs) (length (y ∷ xs))
    → AllAdjacentBelow R (x ∷ (y ∷ xs)) (length (x ∷ (y ∷ xs)))
next_more R x y xs h zero d l = h.0
next_more R x y xs h (suc k) d l =
    let e : suc (k + 1) ≡ suc k + 1 = omega arith in subst (λ n. R (get_or (y ∷ xs) k d) (get_or (x ∷ (y ∷ xs)) n d)) e (h.1 k d (omega arith))

pub next_less : {X : Type 0} (R : X → X → Type 0) (x y : X) (xs : List X) → AllAdjacentBelow R (x ∷ (y ∷ xs)) (length (x ∷ (y ∷ xs)))
    → R x y × AllAdjacentBelow R (y ∷ xs) (length (y ∷ xs))
next_less R x y xs h = (
  h 0 x (omega arith),
  λ k d l. (let e : suc k + 1 ≡ suc (k + 1) = omega arith in subst (λ n. R (get_or (y ∷ xs) k d) (get_or (x ∷ (y ∷ xs)) n d)) e (h (suc k) d (omega arith))),
)

abbrev pub dec_next : {X : Type 0} (R : X → X → Type 0) → ((x y : X) → Dec (R x y)) → (xs : List X) → Dec (AllAdjacentBelow R xs (length xs))
dec_next R dec [] = yes (next_none R)
dec_next R dec (x ∷ []) = yes (next_one R x)
dec_next R dec (x ∷ (y ∷ xs)) = dec_by (next_more R x y xs) (next_less R x y xs) (dec_and (dec x y) (dec_next R dec (y ∷ xs)))

-- of what is there, if it is
pub there_none : {X : Type 0} (P : X → Type 0) (x : X) → None ≡ Some x → P x
there_none P x e = absurd (none-some x e)

pub there_some : {X : Type 0} (P : X → Type 0) (y : X) → P y → (x : X) → Some y ≡ Some x → P x
there_some P y p x e = subst P (same_Some y x e) p

abbrev pub dec_there : {X : Type 0} (P : X → Type 0) → ((x : X) → Dec (P x)) → (o : Option X) → Dec ((x : X) → o ≡ Some x → P x)
dec_there P dec None = yes (there_none P)
dec_there P dec (Some y) = dec_by (there_some P y) (λ h. h y refl) (dec y)

-- the first of so many numbers at which the one does not hold and the other does
pub data Search (P Q : ℕ → Type 0) (n : ℕ) : Type 0 where
  all : ((k : ℕ) → k < n → P k) → Search P Q n
  first : (k : ℕ) → k < n → ((j : ℕ) → j < k → P j) → Q k → Search P Q n

pub none_yet : (P : ℕ → Type 0) (k : ℕ) → k < 0 → P k
none_yet P k l = absurd (omega arith)

pub one_more : (P : ℕ → Type 0) (n : ℕ) → ((k : ℕ) → k < n → P k) → P n → (k : ℕ) → k < suc n → P k
one_more P n f p k l = ⊎_elim (λ (m : k < n). f k m) (λ (m : n ≤ k). (let e : n ≡ k = omega arith in subst P e p)) (cases_lt k n)

pub within : (k n : ℕ) → k < n → k < suc n
within k n l = omega arith

pub itself : (n : ℕ) → n < suc n
itself n = omega arith

abbrev search_one : (P Q : ℕ → Type 0) (n : ℕ) → Search P Q n → P n ⊎ Q n → Search P Q (suc n)
search_one P Q n (first k l f q) s = first k (within k n l) f q
search_one P Q n (all f) (inl p) = all (one_more P n f p)
search_one P Q n (all f) (inr q) = first n (itself n) f q

abbrev pub searched : (P Q : ℕ → Type 0) → ((k : ℕ) → P k ⊎ Q k) → (n : ℕ) → Search P Q n
searched P Q dec zero = all (none_yet P)
searched P Q dec (suc n) = search_one P Q n (searched P Q dec n) (dec n)

abbrev pub holds_or_not : {A : Type 0} → Dec A → A ⊎ (A → ⊥)
holds_or_not (yes a) = inl a
holds_or_not (no h) = inr h

abbrev pub not_or_holds : {A : Type 0} → Dec A → (A → ⊥) ⊎ A
not_or_holds (yes a) = inr a
not_or_holds (no h) = inl h

abbrev dec_search : (P : ℕ → Type 0) (n : ℕ) → Search P (λ k. P k → ⊥) n → Dec ((k : ℕ) → k < n → P k)
dec_search P n (all f) = yes f
dec_search P n (first k l f h) = no (λ g. h (g k l))

abbrev pub dec_upto : (P : ℕ → Type 0) → ((k : ℕ) → Dec (P k)) → (n : ℕ) → Dec ((k : ℕ) → k < n → P k)
dec_upto P dec n = dec_search P n (searched P (λ k. P k → ⊥) (λ k. holds_or_not (dec k)) n)
