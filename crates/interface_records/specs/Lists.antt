-- Lists without repetition, and numbers in order.
use Rattle.std.specs.Prelude.{◌≡◌, ℕ, suc, ◌≤◌, ◌<◌, false, List, [], ◌∷◌}
use Rattle.check_scopes.specs.Scopes.{has}

-- numbers that ascend, none below the first and all below the last
unfoldable pub Ascend : ℕ → ℕ → List ℕ → Type 0
Ascend low high [] = Unit {0}
Ascend low high (n ∷ ns) = (low ≤ n) × (n < high) × Ascend (suc n) high ns

-- no name stands twice
unfoldable pub NoneTwice : List (List ℕ) → Type 0
NoneTwice [] = Unit {0}
NoneTwice (x ∷ xs) = (has x xs ≡ false) × NoneTwice xs
