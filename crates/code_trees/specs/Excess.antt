-- By how much the numbers in a block are above what the types of the code hold, together; 0 where each of them fits. Words have 16 bits,
-- and so have slots; the words of calls and the bytes of each part have 32. The arms that a jump leaves and the numbers of links are not
-- counted: no rule of soundness limits them, so where they don't fit that is want of memory (rule of this project).
use Rattle.std.specs.Prelude.{ℕ, ◌+◌, ◌-◌, List, [], ◌∷◌}
use Rattle.code_forms.specs.declared.instruction.Instruction.{Instruction}
use Rattle.code_forms.specs.declared.instruction.Instruction.TheVariants as i
use Rattle.code_forms.specs.declared.module_code.Label.{Label}
use Rattle.code_forms.specs.declared.module_code.Label.TheVariants.{Any, Unwind, Own, Link, BoundsFault, ZeroDivisor}
use Rattle.code_blocks.specs.Own.{bytes_in}
use Rattle.code_blocks.specs.Sizes.{size}
use Rattle.code_blocks.specs.Blocks.{Block, Does, Calls, Both, Ends, Out, Goes, Rounds, Enables, ArmBlocks, NoArmBlock, AndArmBlock}

abbrev pub above_word : ℕ → ℕ
above_word n = n - 65535

abbrev pub above_number : ℕ → ℕ
above_number n = n - 4294967295

unfoldable pub excess_of : Instruction → ℕ
excess_of (i.Lit word) = above_word word
excess_of (i.Str literal) = above_word literal
excess_of (i.LoadL slot words) = above_word slot + above_word words
excess_of (i.StoreL slot words) = above_word slot + above_word words
excess_of (i.LoadG slot words) = above_word slot + above_word words
excess_of (i.StoreG slot words) = above_word slot + above_word words
excess_of (i.LoadLX slot extent words) = above_word slot + (above_word extent + above_word words)
excess_of (i.StoreLX slot extent words) = above_word slot + (above_word extent + above_word words)
excess_of (i.LoadGX slot extent words) = above_word slot + (above_word extent + above_word words)
excess_of (i.StoreGX slot extent words) = above_word slot + (above_word extent + above_word words)
excess_of (i.Index count size) = above_word count + above_word size
excess_of (i.CheckI least most) = above_word least + above_word most
excess_of (i.CheckC least most) = above_word least + above_word most
excess_of (i.Call procedure) = above_number procedure
excess_of (i.CallLink link) = 0
excess_of (i.Raise signal) = above_number signal
excess_of (i.RaiseLink link) = 0
excess_of (i.Resume words) = above_word words
excess_of (i.Pop words) = above_word words
excess_of (i.Roll words over) = above_word words + above_word over
excess_of (i.ZeroL slot words) = above_word slot + above_word words
excess_of (i.ZeroG slot words) = above_word slot + above_word words
excess_of _ = 0

unfoldable pub excess_in : List Instruction → ℕ
excess_in [] = 0
excess_in (i ∷ is) = excess_of i + excess_in is

unfoldable pub excess_of_label : Label → ℕ
excess_of_label Any = 0
excess_of_label Unwind = 0
excess_of_label (Own n) = above_number n
excess_of_label (Link k) = 0
excess_of_label BoundsFault = 0
excess_of_label ZeroDivisor = 0

unfoldable pub excess_of_labels : List Label → ℕ
excess_of_labels [] = 0
excess_of_labels (l ∷ ls) = excess_of_label l + excess_of_labels ls

unfoldable mutual
  pub excess : Block → ℕ
  excess (Does is) = above_number (bytes_in is) + excess_in is
  excess (Calls call takes puts arms) = excess_of call + above_number takes + above_number puts + excess_in_arms arms
  excess (Both b c) = above_number (size b + size c) + excess b + excess c
  excess (Ends mark b) = excess b
  excess (Out leap part) = above_number part
  excess (Goes arms p) = 0
  excess (Rounds b) = above_number (size b + 5) + excess b
  excess (Enables arms b) = excess_in_arms arms + excess b

  pub excess_in_arms : ArmBlocks → ℕ
  excess_in_arms NoArmBlock = 0
  excess_in_arms (AndArmBlock labels slot words b arms) =
      excess_of_labels labels + above_word slot + above_word words + excess b + excess_in_arms arms
