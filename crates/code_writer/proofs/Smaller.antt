-- The parts of a block have fewer parts.
use Rattle.std.proofs.Common.{◌≡◌, refl, sym, ap, ◌∙◌, ℕ, zero, suc, ◌+◌, ◌<◌, ◌≤◌, List, [], ◌∷◌, length, get_or, arith}
use Rattle.code_trees.specs.declared.block.Block.TheFolds.{fold-roll-Block}
use Rattle.code_trees.specs.declared.block.Block.{Block}
use Rattle.code_trees.specs.declared.block.Block.TheVariants as v
use Rattle.code_trees.specs.declared.block.ArmBlock.{ArmBlock}
use Rattle.code_trees.specs.declared.block.Mark.{Mark}
use Rattle.code_writer.specs.Parts.{parts, all_parts}

parts_sequence : (b : Block) (front : List Block) (last : Block) → b ≡ v.Sequence front last → parts b ≡ 1 + (all_parts front + parts last)
unfolding parts all_parts
parts_sequence b front last e = ap parts (e ∙ sym (v.rolls-Sequence front last)) ∙ rw fold-roll-Block refl

parts_ends : (b : Block) (mark : Mark) (bytes : ℕ) (p : Block) → b ≡ v.Ends mark bytes p → parts b ≡ 1 + parts p
unfolding parts
parts_ends b mark bytes p e = ap parts (e ∙ sym (v.rolls-Ends mark bytes p)) ∙ rw fold-roll-Block refl

parts_rounds : (b p : Block) → b ≡ v.Rounds p → parts b ≡ 1 + parts p
unfolding parts
parts_rounds b p e = ap parts (e ∙ sym (v.rolls-Rounds p)) ∙ rw fold-roll-Block refl

parts_enables : (b : Block) (arms : List ArmBlock) (bytes : ℕ) (p : Block) → b ≡ v.Enables arms bytes p → parts b ≡ 1 + parts p
unfolding parts
parts_enables b arms bytes p e = ap parts (e ∙ sym (v.rolls-Enables arms bytes p)) ∙ rw fold-roll-Block refl

one_of : (bs : List Block) (i : ℕ) (d : Block) → i < length bs → parts (get_or bs i d) ≤ all_parts bs
unfolding all_parts
one_of [] i d lt = absurd (omega (arith, lt))
one_of (b ∷ bs) zero d lt = omega arith
one_of (b ∷ bs) (suc i) d lt = omega (arith, one_of bs i d (omega (arith, lt)))

pub item_smaller : (b : Block) (front : List Block) (last : Block) (i : ℕ) (x : Block) → b ≡ v.Sequence front last → i < length front
    → x ≡ get_or front i x → parts x < parts b
item_smaller b front last i x e lt is =
    omega (arith, parts_sequence b front last e, ap parts is, one_of front i x lt)

pub last_smaller : (b : Block) (front : List Block) (last : Block) → b ≡ v.Sequence front last → parts last < parts b
last_smaller b front last e = omega (arith, parts_sequence b front last e)

pub ends_smaller : (b : Block) (mark : Mark) (bytes : ℕ) (p : Block) → b ≡ v.Ends mark bytes p → parts p < parts b
ends_smaller b mark bytes p e = omega (arith, parts_ends b mark bytes p e)

pub rounds_smaller : (b p : Block) → b ≡ v.Rounds p → parts p < parts b
rounds_smaller b p e = omega (arith, parts_rounds b p e)

pub enables_smaller : (b : Block) (arms : List ArmBlock) (bytes : ℕ) (p : Block) → b ≡ v.Enables arms bytes p → parts p < parts b
enables_smaller b arms bytes p e = omega (arith, parts_enables b arms bytes p e)
