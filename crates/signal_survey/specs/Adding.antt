-- Items that are put to a list.
use Rattle.std.specs.Prelude.{◌⊎◌, List, Contains}

-- those of which P is true, and no others
pub record Adds {X : Type 0} (P : X → Type 0) (old new : List X) : Type 0 where
  pub kept : (x : X) → Contains old x → Contains new x
  pub added : (x : X) → Contains new x → Contains old x ⊎ P x
  pub done : (x : X) → P x → Contains new x

-- one of some items that stands for it
pub record Of {X Y : Type 0} (P : X → Y → Type 0) (xs : List X) (y : Y) : Type 0 where
  pub x : X
  pub contains : Contains xs x
  pub is : P x y
