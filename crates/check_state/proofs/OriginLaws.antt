-- How many numbers of an ascending list are less than one.
use Rattle.std.proofs.Common.{◌≡◌, ◌≤◌, ◌<◌, ◌+◌, ℕ, zero, suc, Bool, true, false, List, [], ◌∷◌, filter, length, get_or, cond, refl, sym, ap, subst, ◌∙◌, arith}
use Rattle.std.specs.Prelude.{nat_lt}
use Rattle.std.specs.Ordering.{nat_cmp}
use Rattle.std.specs.List.Sorted.{IsNonDecreasing, IsPermutation, IsPartitionPoint, IsSorted}
use Rattle.std.proofs.lemmas.List.Sums.{length-filter}
use Rattle.std.proofs.lemmas.List.Sorted.{IsNonDecreasingBy-from_sort, sum_by-IsPermutation}
use Rattle.check_state.specs.Ascending.{Ascends, less_than}

module _ {X : Type 0} (p : X → Bool) where
  none_pass : (xs : List X) → ((k : ℕ) (d : X) → k < length xs → p (get_or xs k d) ≡ false) → length (filter p xs) ≡ 0
  none_pass [] h = refl
  none_pass (x ∷ xs) h =
      ap (λ b. length (cond b (x ∷ filter p xs) (filter p xs))) (h 0 x (omega arith))
      ∙ none_pass xs (λ k d l. h (suc k) d (omega arith))

  -- where those that pass come first, they are so many
  pub passed_before : (xs : List X) (i : ℕ) → i ≤ length xs → IsPartitionPoint (λ x. p x ≡ true) (λ x. p x ≡ false) xs i → length (filter p xs) ≡ i
  passed_before [] i l h = omega arith
  passed_before (x ∷ xs) zero l h = none_pass (x ∷ xs) (λ k d m. h.1 k d (omega arith) m)
  passed_before (x ∷ xs) (suc i) l h =
      ap (λ b. length (cond b (x ∷ filter p xs) (filter p xs))) (h.0 0 x (omega arith) (omega arith))
      ∙ ap suc (passed_before xs i (omega arith) (
        (λ k d m n. h.0 (suc k) d (omega arith) (omega arith)),
        (λ k d m n. h.1 (suc k) d (omega arith) (omega arith)),
      ))

pub sorted_ascends : (ns sorted : List ℕ) → IsPermutation ns sorted → IsSorted nat_cmp sorted → Ascends ns sorted
sorted_ascends ns sorted h up = record {
  counts = λ m.
      length-filter (λ n. nat_lt n m) sorted
      ∙ sum_by-IsPermutation (λ n. cond (nat_lt n m) 1 0) ns sorted h
      ∙ sym (length-filter (λ n. nat_lt n m) ns);
  rises = IsNonDecreasingBy-from_sort (λ n. n) sorted up;
}

module _ (ns sorted slice : List ℕ) (m i : ℕ) (h : Ascends ns sorted) (e : slice ≡ sorted) where
  pub rises_so : IsNonDecreasing slice
  rises_so = subst IsNonDecreasing (sym e) h.rises

  pub point_counts : i ≤ length slice → IsPartitionPoint (λ n. nat_lt n m ≡ true) (λ n. nat_lt n m ≡ false) slice i → i ≡ less_than m ns
  point_counts l p = sym (passed_before (λ n. nat_lt n m) slice i l p) ∙ ap (less_than m) e ∙ h.counts m
