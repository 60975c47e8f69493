-- The size of each component's text is part of the size sum.
use Rattle.std.proofs.Common.{◌≡◌, ℕ, zero, suc, ◌+◌, ◌≤◌, Bool, true, false, ◌||◌, List, [], ◌∷◌, nat_eq, Some, eqb-true, refl, sym, ap, subst, arith}
use Rattle.std.specs.Prelude.{slice_get, if◌then◌else◌}
use Rattle.std.proofs.lemmas.Option.{none-some, same_Some}
use Rattle.config_rules.specs.declared.tree.Tree.{Tree}
use Rattle.config_rules.specs.declared.tree.TreeInstance.{TreeInstance}
use Rattle.link_tables.specs.Linked.{has_instance}
use Rattle.file_sizes.specs.Sizes.{total}
use Rattle.image_sizes.specs.Trees.{at_or_none, left_out, size_sum}

false_true : false ≡ true → ⊥
false_true e = cc

-- with an instance
counted : (sizes : List ℕ) (xs : List TreeInstance) (k : ℕ) → has_instance xs k ≡ true
    → at_or_none (slice_get sizes k) ≤ total (λ (x : TreeInstance). at_or_none (slice_get sizes x.component)) xs
unfolding has_instance total
counted sizes [] k h = absurd (false_true h)
counted sizes (x ∷ xs) k h = by (nat_eq x.component k) refl h (λ i. counted sizes xs k i)
  where
    by : (b : Bool) → nat_eq x.component k ≡ b → (b || has_instance xs k) ≡ true
        → (has_instance xs k ≡ true → at_or_none (slice_get sizes k) ≤ total (λ (y : TreeInstance). at_or_none (slice_get sizes y.component)) xs)
        → at_or_none (slice_get sizes k) ≤ at_or_none (slice_get sizes x.component) + total (λ (y : TreeInstance). at_or_none (slice_get sizes y.component)) xs
    by true e i again =
        let same : at_or_none (slice_get sizes x.component) ≡ at_or_none (slice_get sizes k) = ap (λ n. at_or_none (slice_get sizes n)) (eqb-true x.component k e) in
        omega (arith, same)
    by false e i again = let less = again i in omega (arith, less)

-- without one
left : (xs : List TreeInstance) (n : ℕ) (sizes : List ℕ) (k s : ℕ) → slice_get sizes k ≡ Some s → has_instance xs (n + k) ≡ false → s ≤ left_out xs n sizes
unfolding left_out
left xs n [] k s e h = absurd (none-some s e)
left xs n (y ∷ ys) zero s e h = by (has_instance xs n) (subst (λ i. has_instance xs i ≡ false) none h)
  where
    none : n + 0 ≡ n
    none = omega arith

    by : (b : Bool) → b ≡ false → s ≤ (if b then 0 else y) + left_out xs (suc n) ys
    by true f = absurd (false_true (sym f))
    by false f = let same = same_Some y s e in omega (arith, same)
left xs n (y ∷ ys) (suc k) s e h =
    let next : n + suc k ≡ suc n + k = omega arith in
    let less = left xs (suc n) ys k s e (subst (λ i. has_instance xs i ≡ false) next h) in
    omega (arith, less)

pub part : (t : Tree) (sizes : List ℕ) (k s : ℕ) → slice_get sizes k ≡ Some s → s ≤ size_sum t sizes
unfolding size_sum
part t sizes k s e = by (has_instance t.instances k) refl
  where
    by : (b : Bool) → has_instance t.instances k ≡ b → s ≤ total (λ (x : TreeInstance). at_or_none (slice_get sizes x.component)) t.instances + left_out t.instances 0 sizes
    by true h =
        let is : at_or_none (slice_get sizes k) ≡ s = ap at_or_none e in
        let less = counted sizes t.instances k h in
        omega (arith, is, less)
    by false h =
        let first : k ≡ 0 + k = omega arith in
        let less = left t.instances 0 sizes k s e (subst (λ i. has_instance t.instances i ≡ false) first h) in
        omega (arith, less)
