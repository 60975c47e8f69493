-- What each form of a block of the code is, and by how many bytes the sizes in it are off.
use Rattle.std.proofs.Common.{◌≡◌, refl, sym, ap, ◌∙◌, ℕ, ◌+◌, List, [], ◌∷◌, map}
use Rattle.code_forms.specs.declared.instruction.Instruction.{Instruction}
use Rattle.code_trees.specs.declared.block.Block.TheFolds.{fold-roll-Block, fold_out-ArmBlock}
use Rattle.code_trees.specs.declared.block.Block.{Block}
use Rattle.code_trees.specs.declared.block.Block.TheVariants as v
use Rattle.code_trees.specs.declared.block.ArmBlock.{ArmBlock}
use Rattle.code_trees.specs.declared.block.Mark.{Mark}
use Rattle.code_trees.specs.declared.block.Leap.{Leap}
use Rattle.code_trees.specs.declared.block.Point.{Point}
use Rattle.code_trees.specs.Plain.{Seen, SeenArm, seen, seen_arm, block_step, arm_step, plain, plain_blocks, plain_arms, off, all_off, off_in_arms, in_order, mark_of, leap_of, point_of, apart, arms_in, arms_off}
use Rattle.code_blocks.specs.Blocks as t
use Rattle.code_blocks.specs.Sizes.{size}

pub plain_does : (b : Block) (code : List Instruction) → b ≡ v.Does code → plain b ≡ t.Does code
unfolding plain
plain_does b code e = ap (λ x. (seen x).block) (e ∙ sym (v.rolls-Does code)) ∙ rw fold-roll-Block refl

pub plain_calls : (b : Block) (call : Instruction) (takes puts : ℕ) (arms : List ArmBlock) → b ≡ v.Calls call takes puts arms
    → plain b ≡ t.Calls call takes puts (plain_arms arms)
unfolding plain plain_arms
plain_calls b call takes puts arms e = ap (λ x. (seen x).block) (e ∙ sym (v.rolls-Calls call takes puts arms)) ∙ rw fold-roll-Block refl

pub off_calls : (b : Block) (call : Instruction) (takes puts : ℕ) (arms : List ArmBlock) → b ≡ v.Calls call takes puts arms → off b ≡ off_in_arms arms
unfolding off off_in_arms
off_calls b call takes puts arms e = ap (λ x. (seen x).off) (e ∙ sym (v.rolls-Calls call takes puts arms)) ∙ rw fold-roll-Block refl

pub plain_sequence : (b : Block) (front : List Block) (last : Block) → b ≡ v.Sequence front last → plain b ≡ in_order (plain_blocks front) (plain last)
unfolding plain plain_blocks
plain_sequence b front last e = ap (λ x. (seen x).block) (e ∙ sym (v.rolls-Sequence front last)) ∙ rw fold-roll-Block refl

pub off_sequence : (b : Block) (front : List Block) (last : Block) → b ≡ v.Sequence front last → off b ≡ all_off front + off last
unfolding off all_off
off_sequence b front last e = ap (λ x. (seen x).off) (e ∙ sym (v.rolls-Sequence front last)) ∙ rw fold-roll-Block refl

pub plain_ends : (b : Block) (mark : Mark) (bytes : ℕ) (p : Block) → b ≡ v.Ends mark bytes p → plain b ≡ t.Ends (mark_of mark) (plain p)
unfolding plain
plain_ends b mark bytes p e = ap (λ x. (seen x).block) (e ∙ sym (v.rolls-Ends mark bytes p)) ∙ rw fold-roll-Block refl

pub off_ends : (b : Block) (mark : Mark) (bytes : ℕ) (p : Block) → b ≡ v.Ends mark bytes p → off b ≡ apart bytes (size (plain p)) + off p
unfolding plain off
off_ends b mark bytes p e = ap (λ x. (seen x).off) (e ∙ sym (v.rolls-Ends mark bytes p)) ∙ rw fold-roll-Block refl

pub plain_out : (b : Block) (leap : Leap) (part : ℕ) → b ≡ v.Out leap part → plain b ≡ t.Out (leap_of leap) part
unfolding plain
plain_out b leap part e = ap (λ x. (seen x).block) (e ∙ sym (v.rolls-Out leap part)) ∙ rw fold-roll-Block refl

pub plain_goes : (b : Block) (arms : ℕ) (p : Point) → b ≡ v.Goes arms p → plain b ≡ t.Goes arms (point_of p)
unfolding plain
plain_goes b arms p e = ap (λ x. (seen x).block) (e ∙ sym (v.rolls-Goes arms p)) ∙ rw fold-roll-Block refl

pub plain_rounds : (b p : Block) → b ≡ v.Rounds p → plain b ≡ t.Rounds (plain p)
unfolding plain
plain_rounds b p e = ap (λ x. (seen x).block) (e ∙ sym (v.rolls-Rounds p)) ∙ rw fold-roll-Block refl

pub off_rounds : (b p : Block) → b ≡ v.Rounds p → off b ≡ off p
unfolding off
off_rounds b p e = ap (λ x. (seen x).off) (e ∙ sym (v.rolls-Rounds p)) ∙ rw fold-roll-Block refl

pub plain_enables : (b : Block) (arms : List ArmBlock) (bytes : ℕ) (p : Block) → b ≡ v.Enables arms bytes p
    → plain b ≡ t.Enables (plain_arms arms) (plain p)
unfolding plain plain_arms
plain_enables b arms bytes p e = ap (λ x. (seen x).block) (e ∙ sym (v.rolls-Enables arms bytes p)) ∙ rw fold-roll-Block refl

pub off_enables : (b : Block) (arms : List ArmBlock) (bytes : ℕ) (p : Block) → b ≡ v.Enables arms bytes p
    → off b ≡ apart bytes (size (plain p)) + (off_in_arms arms + off p)
unfolding plain off off_in_arms
off_enables b arms bytes p e = ap (λ x. (seen x).off) (e ∙ sym (v.rolls-Enables arms bytes p)) ∙ rw fold-roll-Block refl

-- lists of blocks and of arms

pub blocks_next : (b : Block) (bs : List Block) → plain_blocks (b ∷ bs) ≡ plain b ∷ plain_blocks bs
unfolding plain plain_blocks
blocks_next b bs = refl

pub no_blocks : plain_blocks [] ≡ []
unfolding plain_blocks
no_blocks = refl

pub all_off_next : (b : Block) (bs : List Block) → all_off (b ∷ bs) ≡ off b + all_off bs
unfolding off all_off
all_off_next b bs = refl

pub no_arms : plain_arms [] ≡ t.NoArmBlock
unfolding plain_arms
no_arms = refl

pub arms_next : (a : ArmBlock) (arms : List ArmBlock)
    → plain_arms (a ∷ arms) ≡ t.AndArmBlock a.labels a.slot a.words (plain a.body) (plain_arms arms)
unfolding plain plain_arms
arms_next a arms = ap (λ (s : SeenArm). s.before (arms_in (map seen_arm arms))) (fold_out-ArmBlock Seen SeenArm block_step arm_step a)

pub arms_off_next : (a : ArmBlock) (arms : List ArmBlock) → off_in_arms (a ∷ arms) ≡ off a.body + off_in_arms arms
unfolding off off_in_arms
arms_off_next a arms = ap (λ (s : SeenArm). s.off + arms_off (map seen_arm arms)) (fold_out-ArmBlock Seen SeenArm block_step arm_step a)
