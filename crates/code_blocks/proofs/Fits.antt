-- Blocks whose instructions have operands in range and stand where they may, and whose jumps of the text lead to points around them.
use Rattle.std.proofs.Common.{◌≡◌, refl, ℕ, zero, suc, ◌+◌, ◌<◌, ◌≤◌, ◌⊎◌, List, [], ◌∷◌, ◌++◌, length, All, Option, Some, None, Bool, true, false, if◌then◌else◌}
use Rattle.std.specs.Prelude.{◌≢◌}
use Rattle.mesa_types.specs.Typed.{Point, Start, After, At, Leave}
use Rattle.code_forms.specs.declared.instruction.Instruction.{Instruction}
use Rattle.code_forms.specs.declared.module_code.Label.{Label}
use Rattle.code_forms.specs.declared.region.Region.{Region}
use Rattle.code_forms.specs.declared.region.Region.TheVariants.{Body}
use Rattle.code_forms.specs.Operands.{OperandsFit, LabelTakes}
use Rattle.code_forms.specs.Ranges.{LabelInRange}
use Rattle.code_forms.specs.Routine.{Routine}
use Rattle.code_rules.specs.Agreement.{IsOutOf}
use Rattle.code_rules.specs.Points.{Points, in_marked, in_labelled, in_arm, is_among}
use Rattle.code_blocks.specs.Blocks.{Mark, Statement, Labels, Here, Block, Does, Calls, Both, Ends, Out, Goes, Rounds, Enables, ArmBlocks, NoArmBlock, AndArmBlock}
use Rattle.code_blocks.specs.Translation.{Forms, by_value, turned, unless, enabled}

-- an instruction fits in each region; where arms are around, in that of each arm
abbrev pub FitsIn : Routine → (depth : ℕ) → Instruction → Type 0
FitsIn r depth x = (region : Region) → (0 < depth → region ≢ Body) → OperandsFit r region x

abbrev pub AllFit : Routine → (depth : ℕ) → List Instruction → Type 0
AllFit r depth [] = Unit {0}
AllFit r depth (x ∷ is) = FitsIn r depth x × AllFit r depth is

-- the labels of an arm are in range, and the words of its parameters are in the frame, none or what each label takes
pub record ArmFine (r : Routine) (ls : List Label) (slot words : ℕ) : Type 0 where
  pub labelled : 0 < length ls
  pub labels : All (LabelInRange r.signals r.links) ls
  pub slots : slot + words ≤ r.frame
  pub takes : (words ≡ 0) ⊎ All (LabelTakes r words) ls

-- the points in a part and the arms on the way to each, where nothing is said of where they lie

abbrev pub Ways : Type 0
Ways = Points (Unit {0})

abbrev pub is_label : List ℕ → ℕ → Option (Unit {0})
is_label ls l = if is_among l ls then Some tt else None

abbrev pub seen_in : Mark → Ways → Ways
seen_in (Statement n) ways = in_marked n tt tt ways
seen_in (Labels ls) ways = in_labelled (is_label ls) ways
seen_in (Here words) ways = ways

-- only a jump out of arms leads to the start of a statement
abbrev pub NotBack : Point → (arms : ℕ) → Type 0
NotBack (Start n) zero = ⊥
NotBack (Start n) (suc k) = Unit {0}
NotBack (After n) arms = Unit {0}
NotBack (At l) arms = Unit {0}
NotBack Leave arms = Unit {0}

-- with so many arms around, and these points
abbrev mutual
  pub Fits : Routine → Block → (depth : ℕ) → Ways → Type 0
  Fits r (Does is) depth ways = AllFit r depth is
  Fits r (Calls call takes puts arms) depth ways = FitsIn r depth call × ArmsFit r arms (suc depth) (in_arm ways)
  Fits r (Both b c) depth ways = Fits r b depth ways × Fits r c depth ways
  Fits r (Ends mark b) depth ways = Fits r b depth (seen_in mark ways)
  Fits r (Out leap part) depth ways = Unit {0}
  Fits r (Goes arms p) depth ways = IsOutOf arms (ways p) × NotBack p arms
  Fits r (Rounds b) depth ways = Fits r b depth ways
  Fits r (Enables arms b) depth ways = ArmsFit r arms (suc depth) (in_arm ways) × Fits r b depth ways

  pub ArmsFit : Routine → ArmBlocks → (depth : ℕ) → Ways → Type 0
  ArmsFit r NoArmBlock depth ways = Unit {0}
  ArmsFit r (AndArmBlock labels slot words b arms) depth ways = ArmFine r labels slot words × Fits r b depth ways × ArmsFit r arms depth ways

pub all_fit_both : (r : Routine) (depth : ℕ) (is js : List Instruction) → AllFit r depth is → AllFit r depth js → AllFit r depth (is ++ js)
all_fit_both r depth [] js g h = h
all_fit_both r depth (x ∷ is) js g h = (g.0, all_fit_both r depth is js g.1 h)

pub all_fit_if : (r : Routine) (depth : ℕ) (b : Bool) (is js : List Instruction) → AllFit r depth is → AllFit r depth js
    → AllFit r depth (if b then is else js)
all_fit_if r depth true is js g h = g
all_fit_if r depth false is js g h = h

-- What blocks are made by.

module _ (r : Routine) (depth : ℕ) (ways : Ways) where
  pub record FormsFit (f : Forms) : Type 0 where
    pub value : Fits r f.value depth ways
    pub jump : (sense : Bool) (part : ℕ) → Fits r (f.jump sense part) depth ways

  pub by_value_fits : (b : Block) → Fits r b depth ways → FormsFit (by_value b)
  by_value_fits b h = record { value = h; jump = λ sense part. (h, tt) }

  pub if_fits : (x : Bool) (b c : Block) → (x ≡ true → Fits r b depth ways) → (x ≡ false → Fits r c depth ways) → Fits r (if x then b else c) depth ways
  if_fits true b c g h = g refl
  if_fits false b c g h = h refl

  pub unless_fits : (x : Bool) (b : Block) → Fits r b depth ways → Fits r (unless x b) depth ways
  unless_fits true b h = tt
  unless_fits false b h = h

  pub turned_fits : (x : Bool) (jumps : ℕ → Block) → ((part : ℕ) → Fits r (jumps part) depth ways) → (part : ℕ) → Fits r (turned x jumps part) depth ways
  turned_fits false jumps h part = h part
  turned_fits true jumps h part = (h 0, tt)

  pub enabled_fits : (arms : ArmBlocks) (b : Block) → ArmsFit r arms (suc depth) (in_arm ways) → Fits r b depth ways → Fits r (enabled arms b) depth ways
  enabled_fits NoArmBlock b g h = h
  enabled_fits (AndArmBlock labels slot words arm arms) b g h = (g, h)
