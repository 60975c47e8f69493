-- The blocks of a body, which stand between its typed tree and its code (rule of this project). A block says which instructions
-- there are, in which order, and where jumps lead; it says no offset. What a typed tree becomes is in `Expressions` and
-- `Statements`, what is written of a block in `Writing`.
use Rattle.std.specs.Prelude.{ℕ, List, [], Bool}
use Rattle.mesa_types.specs.Typed.{Point}
use Rattle.code_forms.specs.declared.instruction.Instruction.{Instruction}
use Rattle.code_forms.specs.declared.module_code.Label.{Label}

-- where the jumps in a part may go: to the start of a numbered statement and to the place after it; to the statements of some
-- labels, which begin where the part ends; or to the end of the part, where the operand stack has so many words more than at its
-- beginning
pub data Mark : Type 0 where
  Statement : (number : ℕ) → Mark
  Labels : List ℕ → Mark
  Here : (words : ℕ) → Mark

-- out of a part: in any case, or where the word on top is true, or where it is not
pub data Leap : Type 0 where
  Anyhow : Leap
  Where : (sense : Bool) → Leap

mutual
  pub data Block : Type 0 where
    -- instructions that work on the operand stack and the variables, and jump nowhere
    Does : List Instruction → Block
    -- a call or a raise, which takes and puts so many words, with the arms of its phrase
    Calls : Instruction → (takes puts : ℕ) → ArmBlocks → Block
    -- one after the other
    Both : Block → Block → Block
    -- a part to which the jumps in it may go
    Ends : Mark → Block → Block
    -- a jump to the end of a part around, a `Here`, of which the innermost one is number 0
    Out : Leap → (part : ℕ) → Block
    -- a jump of the text, out of so many arms to a point
    Goes : (arms : ℕ) → Point → Block
    -- what is done again and again
    Rounds : Block → Block
    -- a part in which a phrase with these arms is enabled
    Enables : ArmBlocks → Block → Block

  -- the arms of a phrase, each with its labels, the slot and the number of its parameters' words, and its block; or no phrase
  pub data ArmBlocks : Type 0 where
    NoArmBlock : ArmBlocks
    AndArmBlock : List Label → (slot words : ℕ) → Block → ArmBlocks → ArmBlocks

infixr 4 ◌▹◌
abbrev pub ◌▹◌ : Block → Block → Block
b ▹ c = Both b c

abbrev pub nothing : Block
nothing = Does []
