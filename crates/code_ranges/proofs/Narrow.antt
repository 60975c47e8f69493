-- A block that is low, fits its procedure and is not heavy has no number above what its type holds.
use Rattle.std.proofs.Common.{◌≡◌, refl, ℕ, suc, ◌≤◌, List, [], ◌∷◌, length, All, arith}
use Rattle.code_forms.specs.declared.instruction.Instruction.{Instruction}
use Rattle.code_forms.specs.declared.instruction.Instruction.TheVariants as i
use Rattle.code_forms.specs.declared.module_code.Label.{Label}
use Rattle.code_forms.specs.declared.module_code.Label.TheVariants.{Any, Unwind, Own, Link, BoundsFault, ZeroDivisor}
use Rattle.code_forms.specs.declared.region.Region.TheVariants.{ArmOf}
use Rattle.code_forms.specs.Operands.{OperandsFit}
use Rattle.code_forms.specs.Ranges.{LabelInRange}
use Rattle.code_forms.specs.Routine.{Routine}
use Rattle.code_rules.specs.Points.{in_arm}
use Rattle.code_blocks.specs.Blocks.{Block, Does, Calls, Both, Ends, Out, Goes, Rounds, Enables, ArmBlocks, NoArmBlock, AndArmBlock}
use Rattle.code_blocks.specs.Heaviness.{weight, caught_weight, arms_weight}
use Rattle.code_blocks.specs.Sizes.{size}
use Rattle.code_blocks.specs.Writing.{in_procedure}
use Rattle.code_blocks.proofs.BlockWeights.{block_weight}
use Rattle.code_blocks.proofs.Fits.{Ways, FitsIn, AllFit, Fits, ArmsFit, seen_in}
use Rattle.code_trees.specs.Excess.{excess_of, excess_in, excess_of_label, excess_of_labels, excess, excess_in_arms}
use Rattle.code_ranges.proofs.Low.{IsLow, AllLow, Low, ArmsLow}

-- what a procedure may name has numbers of few bits
pub record Few (r : Routine) : Type 0 where
  pub frame : r.frame ≤ 65535
  pub globals : r.globals ≤ 65535
  pub strings : r.strings ≤ 65535
  pub signals : length r.signals ≤ 4294967295
  pub procedures : length r.procedures ≤ 4294967295

-- a block's own code is no heavier than the block
size_few : (b : Block) → size b ≤ weight b
size_few b = omega (arith, block_weight b in_procedure 0)

caught_more : (arms : ArmBlocks) → arms_weight arms ≤ caught_weight arms
caught_more NoArmBlock = omega arith
caught_more (AndArmBlock labels slot words b arms) = omega arith

module _ (r : Routine) (few : Few r) where
  -- an instruction that fits in an arm
  in_range : (x : Instruction) → OperandsFit r (ArmOf 0 0) x → IsLow x → excess_of x ≡ 0
  unfolding excess_of
  in_range (i.Lit word) h l = omega (arith, l)
  in_range (i.Str literal) h l = omega (arith, h.1, few.strings)
  in_range (i.LoadL slot words) h l = omega (arith, h, few.frame)
  in_range (i.StoreL slot words) h l = omega (arith, h, few.frame)
  in_range (i.LoadG slot words) h l = omega (arith, h, few.globals)
  in_range (i.StoreG slot words) h l = omega (arith, h, few.globals)
  in_range (i.LoadLX slot extent words) h l = omega (arith, h.0, h.1, few.frame)
  in_range (i.StoreLX slot extent words) h l = omega (arith, h.0, h.1, few.frame)
  in_range (i.LoadGX slot extent words) h l = omega (arith, h.0, h.1, few.globals)
  in_range (i.StoreGX slot extent words) h l = omega (arith, h.0, h.1, few.globals)
  in_range (i.Index count words) h l = omega (arith, l.0, l.1)
  in_range i.Add h l = refl
  in_range i.Sub h l = refl
  in_range i.Mul h l = refl
  in_range i.Neg h l = refl
  in_range i.DivI h l = refl
  in_range i.ModI h l = refl
  in_range i.DivC h l = refl
  in_range i.ModC h l = refl
  in_range i.Eq h l = refl
  in_range i.LessI h l = refl
  in_range i.LessC h l = refl
  in_range i.Not h l = refl
  in_range (i.CheckI least most) h l = omega (arith, l.0, l.1)
  in_range (i.CheckC least most) h l = omega (arith, l.0, l.1)
  in_range (i.Jump target) h l = refl
  in_range (i.JumpIf target) h l = refl
  in_range (i.JumpIfNot target) h l = refl
  in_range (i.JumpBack target) h l = refl
  in_range i.StrLen h l = refl
  in_range i.StrAt h l = refl
  in_range (i.Call procedure) h l = omega (arith, h.1, few.procedures)
  in_range (i.CallLink link) h l = refl
  in_range i.Return h l = refl
  in_range (i.Raise signal) h l = omega (arith, h, few.signals)
  in_range (i.RaiseLink link) h l = refl
  in_range (i.RaiseHost fault) h l = refl
  in_range i.ArmEnd h l = refl
  in_range (i.Resume words) h l = omega (arith, l)
  in_range (i.Leave arms target) h l = refl
  in_range (i.LeaveReturn arms) h l = refl
  in_range (i.Pop words) h l = omega (arith, l)
  in_range (i.Roll words over) h l = omega (arith, l.0, l.1)
  in_range (i.ZeroL slot words) h l = omega (arith, h, few.frame)
  in_range (i.ZeroG slot words) h l = omega (arith, h, few.globals)
  in_range i.AddD h l = refl
  in_range i.SubD h l = refl
  in_range i.MulD h l = refl
  in_range i.NegD h l = refl
  in_range i.DivDI h l = refl
  in_range i.ModDI h l = refl
  in_range i.DivDC h l = refl
  in_range i.ModDC h l = refl
  in_range i.EqD h l = refl
  in_range i.LessDI h l = refl
  in_range i.LessDC h l = refl
  in_range i.WidenI h l = refl
  in_range i.WidenC h l = refl
  in_range i.NarrowI h l = refl
  in_range i.NarrowC h l = refl
  in_range i.CheckD h l = refl

  one_in_range : (depth : ℕ) (x : Instruction) → FitsIn r depth x → IsLow x → excess_of x ≡ 0
  one_in_range depth x h l = in_range x (h (ArmOf 0 0) (λ some e. cc)) l

  own_in_range : (depth : ℕ) (is : List Instruction) → AllFit r depth is → AllLow is → excess_in is ≡ 0
  unfolding excess_in
  own_in_range depth [] h l = refl
  own_in_range depth (x ∷ is) h l = omega (arith, one_in_range depth x h.0 l.0, own_in_range depth is h.1 l.1)

  label_in_range : (x : Label) → LabelInRange r.signals r.links x → excess_of_label x ≡ 0
  unfolding excess_of_label
  label_in_range Any h = refl
  label_in_range Unwind h = refl
  label_in_range (Own n) h = omega (arith, h, few.signals)
  label_in_range (Link k) h = refl
  label_in_range BoundsFault h = refl
  label_in_range ZeroDivisor h = refl

  labels_in_range : (ls : List Label) → All (LabelInRange r.signals r.links) ls → excess_of_labels ls ≡ 0
  unfolding excess_of_labels
  labels_in_range [] h = refl
  labels_in_range (x ∷ ls) h =
      omega (arith, label_in_range x (h 0 x (omega arith)), labels_in_range ls (λ k d lt. h (suc k) d (omega (arith, lt))))

  mutual
    unfolding excess excess_in_arms

    pub block_in_range : (b : Block) (depth : ℕ) (ways : Ways) → Fits r b depth ways → Low b → weight b ≤ 4294967295 → excess b ≡ 0
    block_in_range (Does is) depth ways h l w = omega (arith, own_in_range depth is h l, w)
    block_in_range (Calls call takes puts arms) depth ways h l w =
        omega (
          arith,
          one_in_range depth call h.0 l.0,
          l.1,
          l.2,
          arms_in_range arms (suc depth) (in_arm ways) h.1 l.3 (omega (arith, w, caught_more arms)),
        )
    block_in_range (Both b c) depth ways h l w =
        omega (
          arith,
          w,
          size_few b,
          size_few c,
          block_in_range b depth ways h.0 l.0 (omega (arith, w)),
          block_in_range c depth ways h.1 l.1 (omega (arith, w)),
        )
    block_in_range (Ends mark b) depth ways h l w = block_in_range b depth (seen_in mark ways) h l w
    block_in_range (Out leap part) depth ways h l w = omega (arith, l)
    block_in_range (Goes arms p) depth ways h l w = refl
    block_in_range (Rounds b) depth ways h l w = omega (arith, w, size_few b, block_in_range b depth ways h l (omega (arith, w)))
    block_in_range (Enables arms b) depth ways h l w =
        omega (
          arith,
          arms_in_range arms (suc depth) (in_arm ways) h.0 l.0 (omega (arith, w, caught_more arms)),
          block_in_range b depth ways h.1 l.1 (omega (arith, w)),
        )

    arms_in_range : (arms : ArmBlocks) (depth : ℕ) (ways : Ways) → ArmsFit r arms depth ways → ArmsLow arms → arms_weight arms ≤ 4294967295
        → excess_in_arms arms ≡ 0
    arms_in_range NoArmBlock depth ways h l w = refl
    arms_in_range (AndArmBlock labels slot words b arms) depth ways h l w =
        omega (
          arith,
          few.frame,
          (h.0).slots,
          labels_in_range labels (h.0).labels,
          block_in_range b depth ways h.1 l.0 (omega (arith, w)),
          arms_in_range arms depth ways h.2 l.1 (omega (arith, w)),
        )
