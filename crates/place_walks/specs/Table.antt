-- Tables of lists.
use Rattle.std.specs.Prelude.{ℕ, List, [], slice_get, slice_set, unwrap_or}

-- the list of a number; where there is none, an empty one
abbrev pub part : {X : Type 0} → List (List X) → ℕ → List X
part lists k = unwrap_or (slice_get lists k) []

-- what stands in a row at a column
abbrev pub cell : {X : Type 0} → List (List (List X)) → (row column : ℕ) → List X
cell table i k = part (part table i) k

-- with another list there; where there is no such cell the table stays
abbrev pub with_cell : {X : Type 0} → List (List (List X)) → (row column : ℕ) → List X → List (List (List X))
with_cell table i k xs = slice_set table i (slice_set (part table i) k xs)
