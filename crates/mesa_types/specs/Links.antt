-- The items of interfaces that a module names (rule of this project). The typed tree names each by the number of its import
-- and that of the item in its face; a link of the module's code stands for each, in this order.
use Rattle.std.specs.Prelude.{ℕ, List, [], ◌∷◌, ◌++◌, Contains, Option, Some, None, slice_get}
use Rattle.mesa_types.specs.declared.faces.Item.{Item}
use Rattle.mesa_types.specs.declared.faces.Import.{Import}

unfoldable pub item_in : Option Import → ℕ → Option Item
item_in None n = None
item_in (Some m) n = slice_get m.face.items n

-- the item of this number of the import of this number
unfoldable pub imported : List Import → ℕ → ℕ → Option Item
imported imports k n = item_in (slice_get imports k) n

unfoldable pub UsedIn : Option Import → ℕ → Type 0
UsedIn None n = ⊥
UsedIn (Some m) n = Contains m.used n

-- the text names it
unfoldable pub IsUsed : List Import → ℕ → ℕ → Type 0
IsUsed imports k n = UsedIn (slice_get imports k) n

-- the used items of imports, in order
unfoldable pub items_used : List Item → List ℕ → List Item
items_used items [] = []
items_used items (n ∷ ns) = put (slice_get items n) (items_used items ns)
  where
    put : Option Item → List Item → List Item
    put None is = is
    put (Some i) is = i ∷ is

unfoldable pub links_of : List Import → List Item
links_of [] = []
links_of (m ∷ ms) = items_used m.face.items m.used ++ links_of ms
