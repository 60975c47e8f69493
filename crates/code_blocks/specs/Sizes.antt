-- How many bytes a block's own code has, without that of its arms, and how many words are on the operand stack behind it. Nothing
-- of it depends on where the block stands, so each offset is known before anything is written (rule of this project).
use Rattle.std.specs.Prelude.{ℕ, zero, suc, ◌+◌, ◌-◌}
use Rattle.mesa_types.specs.Typed.{Point, Start, After, At, Leave}
use Rattle.code_forms.specs.declared.instruction.Instruction.{Instruction}
use Rattle.code_forms.specs.declared.instruction.Instruction.TheVariants as i
use Rattle.code_forms.specs.Instructions.{bytes_of}
use Rattle.code_rules.specs.OwnCode.{jump_where}
use Rattle.code_rules.specs.Reading.{Offset, Caller, jump_to}
use Rattle.code_blocks.specs.Own.{bytes_in, left_of}
use Rattle.code_blocks.specs.Blocks.{Mark, Statement, Labels, Here, Leap, Anyhow, Where, Block, Does, Calls, Both, Ends, Out, Goes, Rounds, Enables, ArmBlocks, NoArmBlock, AndArmBlock}

-- the instruction of a jump out of a part
abbrev pub leap_to : Leap → (target : ℕ) → Instruction
leap_to Anyhow target = i.Jump target
leap_to (Where sense) target = jump_where sense target

abbrev pub left_by_leap : Leap → ℕ → ℕ
left_by_leap Anyhow depth = depth
left_by_leap (Where sense) depth = depth - 1

-- the instruction of a jump of the text: RETURN leads to the caller
abbrev pub goes_to : (arms : ℕ) → Point → (target : ℕ) → Instruction
goes_to arms Leave target = jump_to arms Caller
goes_to arms (Start n) target = jump_to arms (Offset target)
goes_to arms (After n) target = jump_to arms (Offset target)
goes_to arms (At l) target = jump_to arms (Offset target)

abbrev pub size : Block → ℕ
size (Does is) = bytes_in is
size (Calls call takes puts arms) = bytes_of call
size (Both b c) = size b + size c
size (Ends mark b) = size b
size (Out leap part) = bytes_of (leap_to leap 0)
size (Goes arms p) = bytes_of (goes_to arms p 0)
size (Rounds b) = size b + bytes_of (i.JumpBack 0)
size (Enables arms b) = size b

-- the words at the end of a part are those that the jumps to it find
abbrev pub at_end : Mark → (before : ℕ) → ℕ
at_end (Statement n) before = before
at_end (Labels ls) before = before
at_end (Here zero) before = before
at_end (Here (suc words)) before = before + suc words

abbrev pub depth_behind : Block → ℕ → ℕ
depth_behind (Does is) depth = left_of is depth
depth_behind (Calls call takes puts arms) depth = depth - takes + puts
depth_behind (Both b c) depth = depth_behind c (depth_behind b depth)
depth_behind (Ends mark b) depth = at_end mark depth
depth_behind (Out leap part) depth = left_by_leap leap depth
depth_behind (Goes arms p) depth = depth
depth_behind (Rounds b) depth = depth_behind b depth
depth_behind (Enables arms b) depth = depth_behind b depth

-- the phrases of a block, with those in their arms: a phrase over no instruction is none
abbrev pub if_any : (bytes : ℕ) → ℕ → ℕ
if_any zero n = 0
if_any (suc bytes) n = n

abbrev mutual
  pub phrase_count : Block → ℕ
  phrase_count (Does is) = 0
  phrase_count (Calls call takes puts arms) = caught arms
  phrase_count (Both b c) = phrase_count b + phrase_count c
  phrase_count (Ends mark b) = phrase_count b
  phrase_count (Out leap part) = 0
  phrase_count (Goes arms p) = 0
  phrase_count (Rounds b) = phrase_count b
  phrase_count (Enables arms b) = if_any (size b) (caught arms + phrase_count b)

  -- a phrase with these arms
  pub caught : ArmBlocks → ℕ
  caught NoArmBlock = 0
  caught (AndArmBlock labels slot words b arms) = 1 + (phrase_count b + phrases_in_arms arms)

  pub phrases_in_arms : ArmBlocks → ℕ
  phrases_in_arms NoArmBlock = 0
  phrases_in_arms (AndArmBlock labels slot words b arms) = phrase_count b + phrases_in_arms arms
