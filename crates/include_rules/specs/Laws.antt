-- The laws of orders and cycles, whatever the texts name.
use Rattle.std.specs.Prelude.{◌≡◌, ◌↔◌, ℕ, ◌<◌, List, ◌∷◌, ◌++◌, length, Contains, nat_eq}
use Rattle.std.specs.List.{IsDistinct}
use Rattle.include_rules.specs.Naming.{named_by}
use Rattle.include_rules.specs.Order.{IsOrder, IsCycle}

-- one order, or one cycle, and never both
pub record PlansComeOnce : Type 0 where
  pub one_order : (names : List (List ℕ)) (a b : List ℕ) → IsOrder names a → IsOrder names b → a ≡ b
  pub one_cycle : (names : List (List ℕ)) (a b : List ℕ) → IsCycle names a → IsCycle names b → a ≡ b
  pub not_both : (names : List (List ℕ)) (a b : List ℕ) → IsOrder names a → IsCycle names b → ⊥

-- each text stands once, behind all that it names
pub record Follows (names : List (List ℕ)) (order : List ℕ) : Type 0 where
  pub once : IsDistinct nat_eq order
  pub texts : (k : ℕ) → Contains order k ↔ k < length names
  pub behind : (before rest : List ℕ) (k j : ℕ) → order ≡ before ++ k ∷ rest → Contains (named_by names k) j → Contains before j

abbrev pub OrdersFollowNames : Type 0
OrdersFollowNames = (names : List (List ℕ)) (order : List ℕ) → IsOrder names order → Follows names order

-- each names the next, and the last the first
abbrev pub IsCircle : (names : List (List ℕ)) → (cycle : List ℕ) → Type 0
IsCircle names cycle = (a b : List ℕ) (j k : ℕ) → cycle ++ cycle ≡ a ++ j ∷ k ∷ b → Contains (named_by names j) k

pub record CyclesHaveNoOrder : Type 0 where
  pub circle : (names : List (List ℕ)) (cycle : List ℕ) → IsCycle names cycle → IsCircle names cycle
  pub no_order : (names : List (List ℕ)) (cycle order : List ℕ) → IsCycle names cycle → Follows names order → ⊥
