-- What an index of names shows.
use Rattle.std.specs.Prelude.{◌≡◌, ℕ, List, is_some}
use Rattle.check_scopes.specs.Scopes.{has}
use Rattle.check_scopes.specs.Shows.{listed}
use Rattle.check_scopes.specs.declared.index.Index.{Index}

-- the index has these names, and no others
pub record Knows (index : Index (Unit {0})) (names : List (List ℕ)) : Type 0 where
  pub each : (x : List ℕ) → has x names ≡ is_some (listed index x)
