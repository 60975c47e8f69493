-- Arms one behind the other, before the last one is known.
use Rattle.std.specs.Prelude.{List, [], ◌∷◌}
use Rattle.code_blocks.specs.Blocks.{ArmBlocks, AndArmBlock}
use Rattle.code_trees.specs.declared.block.ArmBlock.{ArmBlock}
use Rattle.code_trees.specs.Plain.{plain}

unfoldable pub arms_before : List ArmBlock → ArmBlocks → ArmBlocks
arms_before [] rest = rest
arms_before (a ∷ arms) rest = AndArmBlock a.labels a.slot a.words (plain a.body) (arms_before arms rest)
