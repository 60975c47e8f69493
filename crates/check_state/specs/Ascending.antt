-- Numbers in ascending order.
use Rattle.std.specs.Prelude.{◌≡◌, ℕ, List, filter, length, nat_lt}
use Rattle.std.specs.List.Sorted.{IsNonDecreasing}

-- how many are less
abbrev pub less_than : ℕ → List ℕ → ℕ
less_than m ns = length (filter (λ n. nat_lt n m) ns)

-- as many are less than each number, and they do not fall
pub record Ascends (ns sorted : List ℕ) : Type 0 where
  pub counts : (m : ℕ) → less_than m sorted ≡ less_than m ns
  pub rises : IsNonDecreasing sorted
