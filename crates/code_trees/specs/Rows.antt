-- Blocks one behind the other, before the last one is known.
use Rattle.std.specs.Prelude.{ℕ, ◌+◌, List, [], ◌∷◌}
use Rattle.code_blocks.specs.Blocks.{Block}
use Rattle.code_blocks.specs.Sizes.{size}
use Rattle.code_trees.specs.Excess.{excess}

unfoldable pub sizes_in : List Block → ℕ
sizes_in [] = 0
sizes_in (b ∷ bs) = size b + sizes_in bs

-- by how much the numbers in them are above what the types of the code hold, their bytes together left out
unfoldable pub excess_among : List Block → ℕ
excess_among [] = 0
excess_among (b ∷ bs) = excess b + excess_among bs
