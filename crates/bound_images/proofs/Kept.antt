-- The modules of an image: those of the components that have an instance.
use Rattle.std.proofs.Common.{◌≡◌, ℕ, zero, suc, ◌+◌, ◌<◌, ◌≤◌, ◌⊎◌, inl, inr, Bool, true, false, ◌||◌, List, [], ◌∷◌, length, nat_eq, eqb-true, eq-eqb, Some, slice_get, refl, ap, ◌∙◌, arith, if◌then◌else◌}
use Rattle.std.proofs.lemmas.Option.{none-some}
use Rattle.config_rules.specs.declared.tree.TreeInstance.{TreeInstance}
use Rattle.link_tables.specs.Linked.{has_instance, kept, many_kept}
use Rattle.config_rules.proofs.Members.{Mem}

-- an instance's component has one
pub mem_has : (xs : List TreeInstance) (x : TreeInstance) → Mem x xs → has_instance xs x.component ≡ true
unfolding has_instance
mem_has [] x h = absurd h
mem_has (y ∷ ys) x (inl e) = ap (λ b. b || has_instance ys x.component) (eq-eqb y.component x.component (ap (λ (z : TreeInstance). z.component) e))
mem_has (y ∷ ys) x (inr m) = by (nat_eq y.component x.component) (mem_has ys x m)
  where
    by : (b : Bool) → has_instance ys x.component ≡ true → b || has_instance ys x.component ≡ true
    by true h = refl
    by false h = h

-- what belongs to such a component stands at its number
pub kept_there : {A : Type 0} (xs : List TreeInstance) (n : ℕ) (os : List A) (k : ℕ) (o : A) → slice_get os k ≡ Some o → has_instance xs (n + k) ≡ true
    → slice_get (kept xs n os) (many_kept xs n k) ≡ Some o
unfolding kept many_kept
kept_there xs n [] k o e h = absurd (none-some o e)
kept_there {A} xs n (y ∷ os) zero o e h = by (has_instance xs n) (ap (has_instance xs) {x = n} {y = n + 0} (omega arith) ∙ h)
  where
    by : (b : Bool) → b ≡ true → slice_get (if b then y ∷ kept xs (suc n) os else kept xs (suc n) os) 0 ≡ Some o
    by true g = e
    by false g = cc
kept_there {A} xs n (y ∷ os) (suc k) o e h =
    by (kept_there xs (suc n) os k o e (ap (has_instance xs) {x = suc n + k} {y = n + suc k} (omega arith) ∙ h)) (has_instance xs n)
  where
    by : slice_get (kept xs (suc n) os) (many_kept xs (suc n) k) ≡ Some o → (b : Bool)
        → slice_get (if b then y ∷ kept xs (suc n) os else kept xs (suc n) os) (if b then suc (many_kept xs (suc n) k) else many_kept xs (suc n) k) ≡ Some o
    by rest true = rest
    by rest false = rest

-- each that is kept is one of them
pub kept_mem : {A : Type 0} (xs : List TreeInstance) (n : ℕ) (os : List A) (o : A) → Mem o (kept xs n os) → Mem o os
unfolding kept
kept_mem xs n [] o h = h
kept_mem {A} xs n (y ∷ os) o h = by (kept_mem xs (suc n) os o) (has_instance xs n) h
  where
    by : (Mem o (kept xs (suc n) os) → Mem o os) → (b : Bool) → Mem o (if b then y ∷ kept xs (suc n) os else kept xs (suc n) os) → (y ≡ o) ⊎ Mem o os
    by again true (inl e) = inl e
    by again true (inr m) = inr (again m)
    by again false m = inr (again m)

-- with one instance more, at most one more is kept
module _ {A : Type 0} (x : TreeInstance) (xs : List TreeInstance) where
  past : (n : ℕ) (os : List A) → x.component < n → length (kept (x ∷ xs) n os) ≤ length (kept xs n os)
  unfolding kept has_instance
  past n [] l = omega arith
  past n (o ∷ os) l = by (nat_eq x.component n) refl (has_instance xs n) (past (suc n) os (omega (arith, l)))
    where
      by : (a : Bool) → nat_eq x.component n ≡ a → (b : Bool) → length (kept (x ∷ xs) (suc n) os) ≤ length (kept xs (suc n) os)
          → length (if a || b then o ∷ kept (x ∷ xs) (suc n) os else kept (x ∷ xs) (suc n) os) ≤ length (if b then o ∷ kept xs (suc n) os else kept xs (suc n) os)
      by true e b h = absurd (let s = eqb-true x.component n e in omega (arith, s, l))
      by false e true h = omega (arith, h)
      by false e false h = h

  one_more : (n : ℕ) (os : List A) → length (kept (x ∷ xs) n os) ≤ suc (length (kept xs n os))
  unfolding kept has_instance
  one_more n [] = omega arith
  one_more n (o ∷ os) = by (one_more (suc n) os) (nat_eq x.component n) refl (has_instance xs n)
    where
      by : length (kept (x ∷ xs) (suc n) os) ≤ suc (length (kept xs (suc n) os)) → (a : Bool) → nat_eq x.component n ≡ a → (b : Bool)
          → length (if a || b then o ∷ kept (x ∷ xs) (suc n) os else kept (x ∷ xs) (suc n) os) ≤ suc (length (if b then o ∷ kept xs (suc n) os else kept xs (suc n) os))
      by h true e true = let g = past (suc n) os (let s = eqb-true x.component n e in omega (arith, s)) in omega (arith, g)
      by h true e false = let g = past (suc n) os (let s = eqb-true x.component n e in omega (arith, s)) in omega (arith, g)
      by h false e true = omega (arith, h)
      by h false e false = h

none_kept : {A : Type 0} (n : ℕ) (os : List A) → length (kept [] n os) ≡ 0
unfolding kept has_instance
none_kept n [] = refl
none_kept n (o ∷ os) = none_kept (suc n) os

-- so there are at most as many modules as instances
pub few_kept : {A : Type 0} (xs : List TreeInstance) (n : ℕ) (os : List A) → length (kept xs n os) ≤ length xs
few_kept [] n os = let h = none_kept n os in omega (arith, h)
few_kept (x ∷ xs) n os = let h = few_kept xs n os in let g = one_more x xs n os in omega (arith, h, g)
