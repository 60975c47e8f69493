-- The modules that are kept are no more than the instances have, however large each component is.
use Rattle.std.specs.Prelude.{◌≡◌, ℕ, zero, suc, ◌+◌, ◌<◌, ◌≤◌, Bool, true, false, ◌||◌, List, [], ◌∷◌, length, nat_eq, Some, slice_get, if◌then◌else◌}
use Rattle.std.proofs.Common.{eqb-true, refl, ap, subst, arith}
use Rattle.config_rules.specs.declared.tree.TreeInstance.{TreeInstance}
use Rattle.link_tables.specs.Linked.{has_instance, kept}
use Rattle.file_sizes.specs.Sizes.{total}

module _ (h : ℕ → ℕ) where
  -- of so many components from number `n` on, those that have an instance
  unfoldable pub kept_sum : List TreeInstance → (n many : ℕ) → ℕ
  kept_sum xs n zero = 0
  kept_sum xs n (suc k) = (if has_instance xs n then h n else 0) + kept_sum xs (suc n) k

  none_kept : (n many : ℕ) → kept_sum [] n many ≡ 0
  unfolding kept_sum has_instance
  none_kept n zero = refl
  none_kept n (suc k) = omega (arith, none_kept (suc n) k)

  -- with one instance more, at most its component is kept besides
  module _ (x : TreeInstance) (xs : List TreeInstance) where
    past : (n many : ℕ) → x.component < n → kept_sum (x ∷ xs) n many ≤ kept_sum xs n many
    unfolding kept_sum has_instance
    past n zero l = omega arith
    past n (suc k) l = by (nat_eq x.component n) refl (has_instance xs n) (past (suc n) k (omega (arith, l)))
      where
        by : (a : Bool) → nat_eq x.component n ≡ a → (b : Bool) → kept_sum (x ∷ xs) (suc n) k ≤ kept_sum xs (suc n) k
            → (if a || b then h n else 0) + kept_sum (x ∷ xs) (suc n) k ≤ (if b then h n else 0) + kept_sum xs (suc n) k
        by true e b less = absurd (let s = eqb-true x.component n e in omega (arith, s, l))
        by false e true less = omega (arith, less)
        by false e false less = omega (arith, less)

    one_more : (n many : ℕ) → kept_sum (x ∷ xs) n many ≤ h x.component + kept_sum xs n many
    unfolding kept_sum has_instance
    one_more n zero = omega arith
    one_more n (suc k) = by (nat_eq x.component n) refl (has_instance xs n) (one_more (suc n) k)
      where
        by : (a : Bool) → nat_eq x.component n ≡ a → (b : Bool) → kept_sum (x ∷ xs) (suc n) k ≤ h x.component + kept_sum xs (suc n) k
            → (if a || b then h n else 0) + kept_sum (x ∷ xs) (suc n) k ≤ h x.component + ((if b then h n else 0) + kept_sum xs (suc n) k)
        by true e b less =
            let s = eqb-true x.component n e in
            let same : h x.component ≡ h n = ap h s in
            let behind = past (suc n) k (omega (arith, s)) in
            omega (arith, same, behind)
        by false e true less = omega (arith, less)
        by false e false less = omega (arith, less)

  all_kept : (xs : List TreeInstance) (n many : ℕ) → kept_sum xs n many ≤ total (λ (x : TreeInstance). h x.component) xs
  unfolding total
  all_kept [] n many = omega (arith, none_kept n many)
  all_kept (x ∷ xs) n many = omega (arith, one_more x xs n many, all_kept xs n many)

  kept_less : {A : Type 0} (f : A → ℕ) (xs : List TreeInstance) (n : ℕ) (os : List A) → ((k : ℕ) (o : A) → slice_get os k ≡ Some o → f o ≤ h (n + k))
      → total f (kept xs n os) ≤ kept_sum xs n (length os)
  unfolding kept kept_sum total
  kept_less f xs n [] less = omega arith
  kept_less {A} f xs n (o ∷ os) less =
      let first : n + 0 ≡ n = omega arith in
      let behind : (k : ℕ) → n + suc k ≡ suc n + k = λ k. omega arith in
      by (has_instance xs n) (subst (λ i. f o ≤ h i) first (less 0 o refl))
      (kept_less f xs (suc n) os (λ k p e. subst (λ i. f p ≤ h i) (behind k) (less (suc k) p e)))
    where
      by : (b : Bool) → f o ≤ h n → total f (kept xs (suc n) os) ≤ kept_sum xs (suc n) (length os)
          → total f (if b then o ∷ kept xs (suc n) os else kept xs (suc n) os) ≤ (if b then h n else 0) + kept_sum xs (suc n) (length os)
      by true here rest = omega (arith, here, rest)
      by false here rest = omega (arith, rest)

  pub kept_within : {A : Type 0} (f : A → ℕ) (xs : List TreeInstance) (os : List A) → ((k : ℕ) (o : A) → slice_get os k ≡ Some o → f o ≤ h k)
      → total f (kept xs 0 os) ≤ total (λ (x : TreeInstance). h x.component) xs
  kept_within f xs os less =
      let none : (k : ℕ) → k ≡ 0 + k = λ k. omega arith in
      let kept_first = kept_less f xs 0 os (λ k o e. subst (λ i. f o ≤ h i) (none k) (less k o e)) in
      omega (arith, kept_first, all_kept xs 0 (length os))
