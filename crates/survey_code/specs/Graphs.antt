-- Which nodes of a graph are reached from its first one (rule of this project).
use Rattle.std.specs.Prelude.{◌≡◌, ℕ, ◌<◌, List, length, Bool, true, false, Some, Contains, slice_get, slice_index_or}

-- it leads nowhere else, and there is a first node
pub record IsGraph (graph : List (List ℕ)) : Type 0 where
  pub some : 0 < length graph
  pub inside : (node next : ℕ) (row : List ℕ) → slice_get graph node ≡ Some row → Contains row next → next < length graph

pub data IsReached (graph : List (List ℕ)) : ℕ → Type 0 where
  first : IsReached graph 0
  onward : (node next : ℕ) (row : List ℕ) → IsReached graph node → slice_get graph node ≡ Some row → Contains row next → IsReached graph next

abbrev pub IsMarked : List Bool → ℕ → Type 0
IsMarked marks node = slice_index_or marks node false ≡ true

-- these are marked and no others
pub record AreReached (graph : List (List ℕ)) (marks : List Bool) : Type 0 where
  pub count : length marks ≡ length graph
  pub reached : (node : ℕ) → IsMarked marks node → IsReached graph node
  pub all : (node : ℕ) → IsReached graph node → IsMarked marks node
