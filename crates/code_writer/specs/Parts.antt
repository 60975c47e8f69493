-- How many parts a block of the code has, for the recursion over it.
use Rattle.std.specs.Prelude.{ℕ, ◌+◌, List, [], ◌∷◌, map}
use Rattle.code_trees.specs.declared.block.Block.TheOpen.{Block-F, ArmBlock-F}
use Rattle.code_trees.specs.declared.block.Block.TheFolds.{fold-Block}
use Rattle.code_trees.specs.declared.block.Block.{Block}

abbrev pub in_all : List ℕ → ℕ
in_all [] = 0
in_all (n ∷ ns) = n + in_all ns

abbrev pub parts_step : Block-F ℕ ℕ → ℕ
parts_step (Block-F.Does code) = 1
parts_step (Block-F.Calls call takes puts arms) = 1
parts_step (Block-F.Sequence front last) = 1 + (in_all front + last)
parts_step (Block-F.Ends mark bytes b) = 1 + b
parts_step (Block-F.Out leap part) = 1
parts_step (Block-F.Goes arms p) = 1
parts_step (Block-F.Rounds b) = 1 + b
parts_step (Block-F.Enables arms bytes b) = 1 + b

abbrev pub arm_step : ArmBlock-F ℕ ℕ → ℕ
arm_step a = a.body

unfoldable pub parts : Block → ℕ
parts b = fold-Block ℕ ℕ parts_step arm_step b

unfoldable pub all_parts : List Block → ℕ
all_parts bs = in_all (map parts bs)
