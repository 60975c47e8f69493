-- What is taken and what is left, and lists in which each element was put behind those before it.
use Rattle.std.proofs.Common.{◌≡◌, ℕ, suc, ◌+◌, ◌⊎◌, Bool, true, false, not, ◌&&◌, cond, List, [], ◌∷◌, ◌++◌, take, drop, Contains, find, nat_eq, Some, None, inl, inr, refl, sym, ap, ◌∙◌, subst, true≢false, zero-lt-suc, suc-le-suc, not-suc-le-zero, take-append-drop, eqb-true, eq-eqb}
use Rattle.std.proofs.lemmas.Bool.{and_parts, and_right, both_ways, true_from_ne_false}
use Rattle.std.proofs.lemmas.List.{drop_more}
use Rattle.std.proofs.lemmas.List.Elements.{Contains-append_right}
use Rattle.include_rules.specs.Naming.{is_left}

-- ---- elements of lists

pub heads : {x y : ℕ} {xs ys : List ℕ} → x ∷ xs ≡ y ∷ ys → x ≡ y
heads e = cc

pub tails : {x y : ℕ} {xs ys : List ℕ} → x ∷ xs ≡ y ∷ ys → xs ≡ ys
tails e = cc

pub nothing_splits : (before rest : List ℕ) (k : ℕ) → [] ≡ before ++ k ∷ rest → ⊥
nothing_splits [] rest k e = cc
nothing_splits (x ∷ before) rest k e = cc

pub nothing_contains : (k : ℕ) → Contains [] k → ⊥
nothing_contains k h = not-suc-le-zero h.1

pub contains_first : (t : ℕ) (L : List ℕ) (k : ℕ) → t ≡ k → Contains (t ∷ L) k
contains_first t L k e = (0, zero-lt-suc _, e)

pub contains_split : (before rest : List ℕ) (k : ℕ) → Contains (before ++ k ∷ rest) k
contains_split before rest k = Contains-append_right before (k ∷ rest) k (contains_first k rest k refl)

pub contains_more : (t : ℕ) (L : List ℕ) (k : ℕ) → Contains L k → Contains (t ∷ L) k
contains_more t L k h = (suc h.0, suc-le-suc h.1, h.2)

-- a list about one of its elements
pub record Splits (L : List ℕ) (k : ℕ) : Type 0 where
  pub before : List ℕ
  pub rest : List ℕ
  pub is : L ≡ before ++ k ∷ rest

pub splits : (L : List ℕ) (k : ℕ) → Contains L k → Splits L k
splits L k h = record {
  before = take h.0 L;
  rest = drop (h.0 + 1) L;
  is = sym (take-append-drop h.0 L) ∙ ap (λ t. take h.0 L ++ t) (drop_more L h.0 k h.1 ∙ ap (λ x. x ∷ drop (h.0 + 1) L) h.2);
}

-- a list with one more element, about one of its elements
pub splits_more : (L : List ℕ) (k : ℕ) (before rest : List ℕ) (j : ℕ) → L ++ k ∷ [] ≡ before ++ j ∷ rest
    → ((L ≡ before) × (k ≡ j)) ⊎ ((r : List ℕ) × (L ≡ before ++ j ∷ r))
splits_more [] k [] rest j e = inl (refl, heads e)
splits_more [] k (x ∷ before) rest j e = absurd (nothing_splits before rest j (tails e))
splits_more (y ∷ L) k [] rest j e = inr (L, ap (λ z. z ∷ L) (heads e))
splits_more (y ∷ L) k (x ∷ before) rest j e = by (splits_more L k before rest j (tails e))
  where
    by : ((L ≡ before) × (k ≡ j)) ⊎ ((r : List ℕ) × (L ≡ before ++ j ∷ r)) → ((y ∷ L ≡ x ∷ before) × (k ≡ j)) ⊎ ((r : List ℕ) × (y ∷ L ≡ (x ∷ before) ++ j ∷ r))
    by (inl h) = let first = heads e in let same = h.0 in inl (cc, h.1)
    by (inr h) = let first = heads e in let same = h.1 in inr (h.0, cc)

-- ---- what is taken

taken_at : (before rest : List ℕ) (k : ℕ) → is_left (before ++ k ∷ rest) k ≡ false
unfolding is_left
taken_at [] rest k = ap (λ b. not b && is_left rest k) (eq-eqb k k refl)
taken_at (t ∷ before) rest k = and_right (not (nat_eq t k)) (is_left (before ++ k ∷ rest) k) (taken_at before rest k)

pub contains_taken : (L : List ℕ) (k : ℕ) → Contains L k → is_left L k ≡ false
contains_taken L k h = let s = splits L k h in subst (λ l. is_left l k ≡ false) (sym s.is) (taken_at s.before s.rest k)

pub taken_contains : (L : List ℕ) (k : ℕ) → is_left L k ≡ false → Contains L k
unfolding is_left
taken_contains [] k h = absurd (true≢false h)
taken_contains (t ∷ L) k h = by (taken_contains L k) (nat_eq t k) refl h
  where
    by : (is_left L k ≡ false → Contains L k) → (b : Bool) → nat_eq t k ≡ b → (not b && is_left L k) ≡ false → Contains (t ∷ L) k
    by again true e g = contains_first t L k (eqb-true t k e)
    by again false e g = contains_more t L k (again g)

pub left_absent : (L : List ℕ) (k : ℕ) → is_left L k ≡ true → Contains L k → ⊥
left_absent L k h c = both_ways (is_left L k) (contains_taken L k c) h

pub left_rest : (t : ℕ) (L : List ℕ) (k : ℕ) → is_left (t ∷ L) k ≡ true → is_left L k ≡ true
unfolding is_left
left_rest t L k h = (and_parts (not (nat_eq t k)) (is_left L k) h).1

pub absent_left : (L : List ℕ) (k : ℕ) → (Contains L k → ⊥) → is_left L k ≡ true
absent_left L k h = true_from_ne_false (is_left L k) (λ e. h (taken_contains L k e))

-- ---- the first that passes

module _ (p : ℕ → Bool) where
  none_at : (before rest : List ℕ) (k : ℕ) → find p (before ++ k ∷ rest) ≡ None → p k ≡ false
  none_at [] rest k h = by (p k) h
    where
      by : (b : Bool) → cond b (Some k) (find p rest) ≡ None → b ≡ false
      by true g = cc
      by false g = refl
  none_at (x ∷ before) rest k h = none_at before rest k (by (p x) h)
    where
      by : (b : Bool) → cond b (Some x) (find p (before ++ k ∷ rest)) ≡ None → find p (before ++ k ∷ rest) ≡ None
      by true g = cc
      by false g = g

  pub find_none : (L : List ℕ) → find p L ≡ None → (k : ℕ) → Contains L k → p k ≡ false
  find_none L h k c = let s = splits L k c in none_at s.before s.rest k (subst (λ l. find p l ≡ None) s.is h)

  pub find_some : (L : List ℕ) (k : ℕ) → find p L ≡ Some k → Contains L k × (p k ≡ true)
  find_some [] k h = cc
  find_some (x ∷ L) k h = by (find_some L k) (p x) refl h
    where
      by : (find p L ≡ Some k → Contains L k × (p k ≡ true)) → (b : Bool) → p x ≡ b → cond b (Some x) (find p L) ≡ Some k → Contains (x ∷ L) k × (p k ≡ true)
      by again true e g = let same : x ≡ k = cc in (contains_first x L k same, subst (λ y. p y ≡ true) same e)
      by again false e g = let q = again g in (contains_more x L k q.0, q.1)

-- ---- lists of which each element was put behind those before it

abbrev pub EachIs : (List ℕ → ℕ → Type 0) → List ℕ → Type 0
EachIs P L = (before rest : List ℕ) (k : ℕ) → L ≡ before ++ k ∷ rest → P before k

pub each_none : (P : List ℕ → ℕ → Type 0) → EachIs P []
each_none P before rest k e = absurd (nothing_splits before rest k e)

pub each_more : (P : List ℕ → ℕ → Type 0) (L : List ℕ) (k : ℕ) → EachIs P L → P L k → EachIs P (L ++ k ∷ [])
each_more P L k each here before rest j e = by (splits_more L k before rest j e)
  where
    by : ((L ≡ before) × (k ≡ j)) ⊎ ((r : List ℕ) × (L ≡ before ++ j ∷ r)) → P before j
    by (inl h) = subst (λ y. P before y) h.1 (subst (λ l. P l k) h.0 here)
    by (inr h) = each before h.0 j h.1

-- each once
abbrev pub IsOnce : List ℕ → Type 0
IsOnce = EachIs (λ before k. is_left before k ≡ true)
