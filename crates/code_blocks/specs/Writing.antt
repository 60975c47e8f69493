-- What is written of a block that begins at an offset: its entries and the phrases of its own block_code (rule of this project).
use Rattle.std.specs.Prelude.{ℕ, zero, suc, ◌+◌, List, [], ◌∷◌, ◌++◌, Option, Some, None, if◌then◌else◌}
use Rattle.code_forms.specs.declared.instruction.Instruction.{Instruction}
use Rattle.code_forms.specs.declared.instruction.Instruction.TheVariants as i
use Rattle.code_forms.specs.declared.module_code.Arm.{Arm}
use Rattle.code_forms.specs.declared.module_code.CodeEntry.{CodeEntry}
use Rattle.code_forms.specs.declared.module_code.Phrase.{Phrase}
use Rattle.code_forms.specs.Instructions.{bytes_of}
use Rattle.code_forms.specs.Depths.{depth_after}
use Rattle.code_rules.specs.Points.{Way, NoWay, OutOf, Points, in_body, in_marked, in_labelled, in_arm, is_among}
use Rattle.code_rules.specs.Reading.{Destination, Offset, Caller}
use Rattle.code_blocks.specs.Blocks.{Mark, Statement, Labels, Here, Block, Does, Calls, Both, Ends, Out, Goes, Rounds, Enables, ArmBlocks, NoArmBlock, AndArmBlock, ◌▹◌}
use Rattle.code_blocks.specs.Own.{alone}
use Rattle.code_blocks.specs.Sizes.{size, leap_to, goes_to, depth_behind}

-- what stands around a block: the points that jumps may go to, and the ends of the parts around, the innermost first
pub record Env : Type 0 where
  pub points : Points Destination
  pub ends : List ℕ

abbrev pub at_labels : List ℕ → (offset : ℕ) → ℕ → Option Destination
at_labels ls offset l = if is_among l ls then Some (Offset offset) else None

abbrev pub in_part : Mark → (start end : ℕ) → Env → Env
in_part (Statement n) start end E = record E { points = in_marked n (Offset start) (Offset end) E.points }
in_part (Labels ls) start end E = record E { points = in_labelled (at_labels ls end) E.points }
in_part (Here words) start end E = record E { ends = end ∷ E.ends }

-- the arms of a phrase begin anew: no part is around them, and each jump to a point leaves one arm more
abbrev pub in_arms : Env → Env
in_arms E = record { points = in_arm E.points; ends = [] }

abbrev pub in_procedure : Env
in_procedure = record { points = in_body Caller; ends = [] }

abbrev pub end_at : List ℕ → ℕ → ℕ
end_at [] part = 0
end_at (o ∷ os) zero = o
end_at (o ∷ os) (suc part) = end_at os part

abbrev pub offset_of : Way Destination → ℕ
offset_of (OutOf arms (Offset o)) = o
offset_of (OutOf arms Caller) = 0
offset_of NoWay = 0

abbrev pub entry : (at depth : ℕ) → Instruction → CodeEntry
entry at depth i = record { at = at; depth = depth; instruction = i }

abbrev pub entries : List Instruction → (at depth : ℕ) → List CodeEntry
entries [] at depth = []
entries (i ∷ is) at depth = entry at depth i ∷ entries is (at + bytes_of i) (depth_after alone i depth)

-- the code of a block at an offset, with so many words on the operand stack
abbrev pub block_code : Block → Env → (at depth : ℕ) → List CodeEntry
block_code (Does is) E at depth = entries is at depth
block_code (Calls call takes puts arms) E at depth = entry at depth call ∷ []
block_code (Both b c) E at depth = block_code b E at depth ++ block_code c E (at + size b) (depth_behind b depth)
block_code (Ends mark b) E at depth = block_code b (in_part mark at (at + size b) E) at depth
block_code (Out leap part) E at depth = entry at depth (leap_to leap (end_at E.ends part)) ∷ []
block_code (Goes arms p) E at depth = entry at depth (goes_to arms p (offset_of (E.points p))) ∷ []
block_code (Rounds b) E at depth = block_code b E at depth ++ entry (at + size b) (depth_behind b depth) (i.JumpBack at) ∷ []
block_code (Enables arms b) E at depth = block_code b E at depth

-- a phrase whose arms are still to be written: its range, its arms and what stands around it
pub record Pending : Type 0 where
  pub from : ℕ
  pub upto : ℕ
  pub arms : ArmBlocks
  pub env : Env

abbrev pub pending : (from upto : ℕ) → ArmBlocks → Env → Pending
pending from upto arms E = record { from = from; upto = upto; arms = arms; env = E }

-- without arms there is no phrase
abbrev pub own_phrase : ArmBlocks → Env → (from upto : ℕ) → List Pending
own_phrase NoArmBlock E from upto = []
own_phrase (AndArmBlock labels slot words b arms) E from upto = pending from upto (AndArmBlock labels slot words b arms) E ∷ []

-- a phrase over no instruction has no range
abbrev pub unless_empty : (bytes : ℕ) → List Pending → List Pending
unless_empty zero ps = []
unless_empty (suc n) ps = ps

-- the phrases of a block's own code, an outer one before those inside it
abbrev pub block_phrases : Block → Env → (at : ℕ) → List Pending
block_phrases (Does is) E at = []
block_phrases (Calls call takes puts arms) E at = own_phrase arms E at (at + bytes_of call)
block_phrases (Both b c) E at = block_phrases b E at ++ block_phrases c E (at + size b)
block_phrases (Ends mark b) E at = block_phrases b (in_part mark at (at + size b) E) at
block_phrases (Out leap part) E at = []
block_phrases (Goes arms p) E at = []
block_phrases (Rounds b) E at = block_phrases b E at
block_phrases (Enables arms b) E at = unless_empty (size b) (own_phrase arms E at (at + size b) ++ block_phrases b E at)

-- The regions of the arms of a phrase, one behind the other from an offset on, each with no words at its beginning. E stands around
-- the arms.

-- an arm's block ends in a reject
abbrev pub region : Block → Block
region b = b ▹ Does (i.ArmEnd ∷ [])

abbrev pub arms_code : ArmBlocks → Env → (at : ℕ) → List CodeEntry
arms_code NoArmBlock E at = []
arms_code (AndArmBlock labels slot words b arms) E at = block_code (region b) E at 0 ++ arms_code arms E (at + size (region b))

abbrev pub arms_phrases : ArmBlocks → Env → (at : ℕ) → List Pending
arms_phrases NoArmBlock E at = []
arms_phrases (AndArmBlock labels slot words b arms) E at = block_phrases (region b) E at ++ arms_phrases arms E (at + size (region b))

abbrev pub regions : ArmBlocks → (at : ℕ) → List Arm
regions NoArmBlock at = []
regions (AndArmBlock labels slot words b arms) at =
    record { labels = labels; slot = slot; words = words; start = at; end = at + size (region b) } ∷ regions arms (at + size (region b))

abbrev pub arms_size : ArmBlocks → ℕ
arms_size NoArmBlock = 0
arms_size (AndArmBlock labels slot words b arms) = size (region b) + arms_size arms

abbrev pub phrase_from : Pending → (at : ℕ) → Phrase
phrase_from q at = record { from = q.from; to = q.upto; arms = regions q.arms at }
