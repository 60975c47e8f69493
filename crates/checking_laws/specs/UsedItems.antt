-- How many items of its imports a module uses.
use Rattle.std.specs.Prelude.{ℕ, ◌+◌, List, [], ◌∷◌, length}
use Rattle.mesa_types.specs.declared.faces.Import.{Import}

unfoldable pub used_items : List Import → ℕ
used_items [] = 0
used_items (i ∷ is) = length i.used + used_items is
