-- The block of the definitions that a block of the code is, and whether the sizes in it are right.
use Rattle.std.specs.Prelude.{ℕ, ◌+◌, ◌-◌, List, [], ◌∷◌, map}
use Rattle.mesa_types.specs.Typed as t
use Rattle.code_blocks.specs.Blocks as tree
use Rattle.code_blocks.specs.Sizes.{size}
use Rattle.code_trees.specs.declared.block.Block.TheOpen.{Block-F, ArmBlock-F}
use Rattle.code_trees.specs.declared.block.Block.TheFolds.{fold-Block, fold-ArmBlock}
use Rattle.code_trees.specs.declared.block.Block.{Block}
use Rattle.code_trees.specs.declared.block.ArmBlock.{ArmBlock}
use Rattle.code_trees.specs.declared.block.Mark.{Mark}
use Rattle.code_trees.specs.declared.block.Leap.{Leap}
use Rattle.code_trees.specs.declared.block.Point.{Point}

abbrev pub mark_of : Mark → tree.Mark
mark_of (Mark.Statement n) = tree.Statement n
mark_of (Mark.Labels ls) = tree.Labels ls
mark_of (Mark.Here words) = tree.Here words

abbrev pub leap_of : Leap → tree.Leap
leap_of Leap.Anyhow = tree.Anyhow
leap_of (Leap.Where sense) = tree.Where sense

abbrev pub point_of : Point → t.Point
point_of (Point.Start n) = t.Start n
point_of (Point.After n) = t.After n
point_of (Point.At l) = t.At l
point_of Point.Leave = t.Leave

-- one behind the other, the last one by itself
abbrev pub in_order : List tree.Block → tree.Block → tree.Block
in_order [] last = last
in_order (b ∷ bs) last = tree.Both b (in_order bs last)

-- a block, and by how many bytes the sizes in it are off, together
pub record Seen : Type 0 where
  pub block : tree.Block
  pub off : ℕ

-- an arm before others
pub record SeenArm : Type 0 where
  pub before : tree.ArmBlocks → tree.ArmBlocks
  pub off : ℕ

abbrev pub seen_as : tree.Block → ℕ → Seen
seen_as block off = record { block = block; off = off }

abbrev pub blocks_in : List Seen → List tree.Block
blocks_in [] = []
blocks_in (b ∷ bs) = b.block ∷ blocks_in bs

abbrev pub off_in : List Seen → ℕ
off_in [] = 0
off_in (b ∷ bs) = b.off + off_in bs

abbrev pub arms_in : List SeenArm → tree.ArmBlocks
arms_in [] = tree.NoArmBlock
arms_in (a ∷ arms) = a.before (arms_in arms)

abbrev pub arms_off : List SeenArm → ℕ
arms_off [] = 0
arms_off (a ∷ arms) = a.off + arms_off arms

-- how far two numbers lie apart
abbrev pub apart : ℕ → ℕ → ℕ
apart n k = (n - k) + (k - n)

abbrev pub block_step : Block-F Seen SeenArm → Seen
block_step (Block-F.Does code) = seen_as (tree.Does code) 0
block_step (Block-F.Calls call takes puts arms) = seen_as (tree.Calls call takes puts (arms_in arms)) (arms_off arms)
block_step (Block-F.Sequence front last) = seen_as (in_order (blocks_in front) last.block) (off_in front + last.off)
block_step (Block-F.Ends mark bytes b) = seen_as (tree.Ends (mark_of mark) b.block) (apart bytes (size b.block) + b.off)
block_step (Block-F.Out leap part) = seen_as (tree.Out (leap_of leap) part) 0
block_step (Block-F.Goes arms p) = seen_as (tree.Goes arms (point_of p)) 0
block_step (Block-F.Rounds b) = seen_as (tree.Rounds b.block) b.off
block_step (Block-F.Enables arms bytes b) =
    seen_as (tree.Enables (arms_in arms) b.block) (apart bytes (size b.block) + (arms_off arms + b.off))

abbrev pub arm_step : ArmBlock-F Seen SeenArm → SeenArm
arm_step a = record { before = tree.AndArmBlock a.labels a.slot a.words a.body.block; off = a.body.off }

abbrev pub seen : Block → Seen
seen = fold-Block Seen SeenArm block_step arm_step

abbrev pub seen_arm : ArmBlock → SeenArm
seen_arm = fold-ArmBlock Seen SeenArm block_step arm_step

-- the block that it is; those of a list, and the arms of a list
unfoldable pub plain : Block → tree.Block
plain b = (seen b).block

unfoldable pub plain_blocks : List Block → List tree.Block
plain_blocks bs = blocks_in (map seen bs)

unfoldable pub plain_arms : List ArmBlock → tree.ArmBlocks
plain_arms arms = arms_in (map seen_arm arms)

-- by how many bytes the sizes in it are off, together: 0 where each is right
unfoldable pub off : Block → ℕ
off b = (seen b).off

unfoldable pub all_off : List Block → ℕ
all_off bs = off_in (map seen bs)

unfoldable pub off_in_arms : List ArmBlock → ℕ
off_in_arms arms = arms_off (map seen_arm arms)
