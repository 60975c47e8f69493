-- Blocks in which each number that names nothing is a word: literals, bounds, sizes, words of the operand stack and numbers of parts.
use Rattle.std.proofs.Common.{◌≡◌, refl, ℕ, ◌≤◌, List, [], ◌∷◌, ◌++◌, Bool, true, false, if◌then◌else◌, arith}
use Rattle.code_forms.specs.declared.instruction.Instruction.{Instruction}
use Rattle.code_forms.specs.declared.instruction.Instruction.TheVariants as i
use Rattle.code_blocks.specs.Blocks.{Block, Does, Calls, Both, Ends, Out, Goes, Rounds, Enables, ArmBlocks, NoArmBlock, AndArmBlock}
use Rattle.code_blocks.specs.Translation.{Forms, by_value, turned, unless, enabled}

abbrev pub IsLow : Instruction → Type 0
IsLow (i.Lit word) = word ≤ 65535
IsLow (i.Index count words) = (count ≤ 65535) × (words ≤ 65535)
IsLow (i.CheckI least most) = (least ≤ 65535) × (most ≤ 65535)
IsLow (i.CheckC least most) = (least ≤ 65535) × (most ≤ 65535)
IsLow (i.Resume words) = words ≤ 65535
IsLow (i.Pop words) = words ≤ 65535
IsLow (i.Roll words over) = (words ≤ 65535) × (over ≤ 65535)
IsLow _ = Unit {0}

abbrev pub AllLow : List Instruction → Type 0
AllLow [] = Unit {0}
AllLow (x ∷ is) = IsLow x × AllLow is

abbrev mutual
  pub Low : Block → Type 0
  Low (Does is) = AllLow is
  Low (Calls call takes puts arms) = IsLow call × (takes ≤ 65535) × (puts ≤ 65535) × ArmsLow arms
  Low (Both b c) = Low b × Low c
  Low (Ends mark b) = Low b
  Low (Out leap part) = part ≤ 65535
  Low (Goes arms p) = Unit {0}
  Low (Rounds b) = Low b
  Low (Enables arms b) = ArmsLow arms × Low b

  pub ArmsLow : ArmBlocks → Type 0
  ArmsLow NoArmBlock = Unit {0}
  ArmsLow (AndArmBlock labels slot words b arms) = Low b × ArmsLow arms

pub all_low_both : (is js : List Instruction) → AllLow is → AllLow js → AllLow (is ++ js)
all_low_both [] js g h = h
all_low_both (x ∷ is) js g h = (g.0, all_low_both is js g.1 h)

pub all_low_if : (b : Bool) (is js : List Instruction) → AllLow is → AllLow js → AllLow (if b then is else js)
all_low_if true is js g h = g
all_low_if false is js g h = h

-- What blocks are made by.

-- a jump may lead past one part more than it is asked for
pub record FormsLow (f : Forms) : Type 0 where
  pub value : Low f.value
  pub jump : (sense : Bool) (part : ℕ) → part ≤ 65534 → Low (f.jump sense part)

pub by_value_low : (b : Block) → Low b → FormsLow (by_value b)
by_value_low b h = record { value = h; jump = λ sense part le. (h, omega (arith, le)) }

pub if_low : (x : Bool) (b c : Block) → (x ≡ true → Low b) → (x ≡ false → Low c) → Low (if x then b else c)
if_low true b c g h = g refl
if_low false b c g h = h refl

pub unless_low : (x : Bool) (b : Block) → Low b → Low (unless x b)
unless_low true b h = tt
unless_low false b h = h

pub turned_low : (x : Bool) (jumps : ℕ → Block) → ((part : ℕ) → part ≤ 65534 → Low (jumps part)) → (part : ℕ) → part ≤ 65534
    → Low (turned x jumps part)
turned_low false jumps h part le = h part le
turned_low true jumps h part le = (h 0 (omega arith), omega (arith, le))

pub enabled_low : (arms : ArmBlocks) (b : Block) → ArmsLow arms → Low b → Low (enabled arms b)
enabled_low NoArmBlock b g h = h
enabled_low (AndArmBlock labels slot words arm arms) b g h = (g, h)
