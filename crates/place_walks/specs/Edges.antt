-- Which places stand in the cells of a table.
use Rattle.std.specs.Prelude.{◌≡◌, ℕ, ◌<◌, List, length, Contains}
use Rattle.place_walks.specs.declared.edges.Edge.{Edge}
use Rattle.place_walks.specs.declared.place.Place.{Place}
use Rattle.place_walks.specs.Table.{part, cell}

abbrev pub IsEmpty : List (List (List Place)) → Type 0
IsEmpty table = (i k : ℕ) (x : Place) → Contains (cell table i k) x → ⊥

-- there is a cell
abbrev pub IsCell : List (List (List Place)) → (row column : ℕ) → Type 0
IsCell table i k = k < length (part table i)

pub record SameCells (old new : List (List (List Place))) : Type 0 where
  pub same : (i : ℕ) → length (part new i) ≡ length (part old i)

-- an edge leads from a cell to a place
pub record Leads (edges : List Edge) (row column : ℕ) (to : Place) : Type 0 where
  pub edge : Edge
  pub contains : Contains edges edge
  pub row_is : edge.row ≡ row
  pub column_is : edge.column ≡ column
  pub to_is : edge.to ≡ to

-- in the cells of a table stand the places to which these edges lead, and no others
pub record Holds (table : List (List (List Place))) (edges : List Edge) : Type 0 where
  pub sound : (i k : ℕ) (x : Place) → Contains (cell table i k) x → Leads edges i k x
  pub whole : (e : Edge) → Contains edges e → IsCell table e.row e.column → Contains (cell table e.row e.column) e.to
