-- Marks in rows: for each import of a module, which of its items the text names (a rule of this project: an import names the
-- items that are used).
use Rattle.std.specs.Prelude.{ℕ, Bool, true, false, List, [], ◌∷◌, ◌++◌, replicate, slice_get, slice_set, unwrap_or}

abbrev pub row : ℕ → List (List Bool) → List Bool
row m rows = unwrap_or (slice_get rows m) []

-- one row more, of so many that are not marked
abbrev pub with_row : ℕ → List (List Bool) → List (List Bool)
with_row n rows = rows ++ replicate n false ∷ []

-- where there is no such row or item, nothing is marked
abbrev pub with_mark : ℕ → ℕ → List (List Bool) → List (List Bool)
with_mark m n rows = slice_set rows m (slice_set (row m rows) n true)

abbrev pub is_marked : ℕ → ℕ → List (List Bool) → Bool
is_marked m n rows = unwrap_or (slice_get (row m rows) n) false
