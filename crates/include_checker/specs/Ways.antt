-- The end of a way.
use Rattle.std.specs.Prelude.{◌≡◌, ℕ, List, ◌∷◌, ◌++◌}

-- what stands in a way from this text on
pub record Ends (way : List ℕ) (text : ℕ) (cycle : List ℕ) : Type 0 where
  pub before : List ℕ
  pub behind : List ℕ
  pub is : cycle ≡ text ∷ behind
  pub of_way : way ≡ before ++ cycle
