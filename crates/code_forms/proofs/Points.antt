-- Places found by halving.
use Rattle.std.proofs.Common.{◌≡◌, ℕ, ◌<◌, ◌≤◌, List, length, true, false, nat_lt, nat_le}
use Rattle.std.specs.List.{AllWithin}
use Rattle.std.specs.List.Sorted.{IsPartitionPoint}
use borrow.Author.Tests.{ltb-true, ltb-false, leb-true, leb-false}

pub below_point : {X : Type 0} (n : X → ℕ) (xs : List X) (t i : ℕ) → IsPartitionPoint (λ y. nat_lt (n y) t ≡ true) (λ y. nat_lt (n y) t ≡ false) xs i → AllWithin (λ e. n e < t) xs 0 i × AllWithin (λ e. t ≤ n e) xs i (length xs)
below_point n xs t i h = (λ k d l u. ltb-true _ _ (h.0 k d l u), λ k d l u. ltb-false _ _ (h.1 k d l u))

pub upto_point : {X : Type 0} (n : X → ℕ) (xs : List X) (t i : ℕ) → IsPartitionPoint (λ y. nat_le (n y) t ≡ true) (λ y. nat_le (n y) t ≡ false) xs i → AllWithin (λ e. n e ≤ t) xs 0 i × AllWithin (λ e. t < n e) xs i (length xs)
upto_point n xs t i h = (λ k d l u. leb-true _ _ (h.0 k d l u), λ k d l u. leb-false _ _ (h.1 k d l u))
