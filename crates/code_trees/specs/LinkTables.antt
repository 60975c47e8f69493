-- The tables by which the number of each link is found at once.
use Rattle.std.specs.Prelude.{ℕ, zero, suc, ◌+◌, List, [], ◌∷◌, length}
use Rattle.mesa_types.specs.declared.faces.Import.{Import}
use Rattle.code_rules.specs.Links.{rank}
use Rattle.code_trees.specs.declared.link_table.LinkTable.{LinkTable}

-- the ranks of so many items from one on, each with so many more
unfoldable pub ranks_from : (more item count : ℕ) → (used : List ℕ) → List ℕ
ranks_from more item zero used = []
ranks_from more item (suc count) used = (more + rank item used) ∷ ranks_from more (suc item) count used

-- of each import the number of its first link, and the rank of each item of its face
unfoldable pub tables_from : (start : ℕ) → List Import → List LinkTable
tables_from start [] = []
tables_from start (m ∷ ms) =
    record { start = start; ranks = ranks_from 0 0 (length m.face.items) m.used } ∷ tables_from (start + length m.used) ms

unfoldable pub count_links : List Import → ℕ
count_links [] = 0
count_links (m ∷ ms) = length m.used + count_links ms
