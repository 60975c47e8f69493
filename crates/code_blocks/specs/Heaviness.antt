-- What a block comes to in a file, with the phrases in it and the regions of their arms (rule of this project).
use Rattle.std.specs.Prelude.{ℕ, ◌+◌}
use Rattle.code_forms.specs.Instructions.{bytes_of}
use Rattle.code_blocks.specs.Blocks.{Block, Does, Calls, Both, Ends, Out, Goes, Rounds, Enables, ArmBlocks, NoArmBlock, AndArmBlock}
use Rattle.code_blocks.specs.Own.{bytes_in}
use Rattle.code_blocks.specs.Sizes.{size}
use Rattle.code_blocks.specs.Weights.{labels_bytes}

abbrev mutual
  pub weight : Block → ℕ
  weight (Does is) = bytes_in is
  weight (Calls call takes puts arms) = bytes_of call + caught_weight arms
  weight (Both b c) = weight b + weight c
  weight (Ends mark b) = weight b
  weight (Out leap part) = size (Out leap part)
  weight (Goes arms p) = size (Goes arms p)
  weight (Rounds b) = weight b + 5
  weight (Enables arms b) = caught_weight arms + weight b

  -- a phrase with these arms
  pub caught_weight : ArmBlocks → ℕ
  caught_weight NoArmBlock = 0
  caught_weight (AndArmBlock labels slot words b arms) = 12 + (16 + labels_bytes labels + (weight b + 1) + arms_weight arms)

  pub arms_weight : ArmBlocks → ℕ
  arms_weight NoArmBlock = 0
  arms_weight (AndArmBlock labels slot words b arms) = 16 + labels_bytes labels + (weight b + 1) + arms_weight arms
