-- Blocks one behind the other: what one more at the end adds.
use Rattle.std.proofs.Common.{◌≡◌, ℕ, refl, sym, ap, ◌∙◌, ◌+◌, List, [], ◌∷◌, ◌++◌, append_assoc, map, arith}
use Rattle.std.proofs.lemmas.List.{map-append}
use Rattle.code_blocks.specs.Blocks.{Both}
use Rattle.code_blocks.specs.Blocks as tree
use Rattle.code_blocks.specs.Sizes.{size}
use Rattle.code_trees.specs.declared.block.Block.{Block}
use Rattle.code_trees.specs.declared.block.Block.TheFolds.{fold-roll-Block}
use Rattle.code_trees.specs.declared.block.Block.TheVariants as v
use Rattle.code_trees.specs.Excess.{excess}
use Rattle.code_trees.specs.Plain.{Seen, all_off, blocks_in, in_order, off, off_in, plain, plain_blocks, seen, seen_as}
use Rattle.code_trees.specs.Rows.{sizes_in}

blocks_more : (bs : List Seen) (b : Seen) → blocks_in (bs ++ b ∷ []) ≡ blocks_in bs ++ b.block ∷ []
blocks_more [] b = refl
blocks_more (x ∷ xs) b = ap (λ l. x.block ∷ l) (blocks_more xs b)

offs_more : (bs : List Seen) (b : Seen) → off_in (bs ++ b ∷ []) ≡ off_in bs + b.off
offs_more [] b = omega arith
offs_more (x ∷ xs) b = omega (arith, offs_more xs b)

pub plain_more : (bs : List Block) (b : Block) → plain_blocks (bs ++ b ∷ []) ≡ plain_blocks bs ++ plain b ∷ []
unfolding plain_blocks plain
plain_more bs b = ap blocks_in (map-append seen bs (b ∷ [])) ∙ blocks_more (map seen bs) (seen b)

pub off_more : (bs : List Block) (b : Block) → all_off (bs ++ b ∷ []) ≡ all_off bs + off b
unfolding all_off off
off_more bs b = ap off_in (map-append seen bs (b ∷ [])) ∙ offs_more (map seen bs) (seen b)

pub sizes_more : (bs : List tree.Block) (b : tree.Block) → sizes_in (bs ++ b ∷ []) ≡ sizes_in bs + size b
unfolding sizes_in
sizes_more [] b = omega arith
sizes_more (x ∷ xs) b = omega (arith, sizes_more xs b)

pub size_in_order : (bs : List tree.Block) (last : tree.Block) → size (in_order bs last) ≡ sizes_in bs + size last
unfolding sizes_in
size_in_order [] last = omega arith
size_in_order (b ∷ bs) last = omega (arith, size_in_order bs last)

pub in_order_more : (bs : List tree.Block) (b last : tree.Block) → in_order (bs ++ b ∷ []) last ≡ in_order bs (Both b last)
in_order_more [] b last = refl
in_order_more (x ∷ xs) b last = ap (λ t. Both x t) (in_order_more xs b last)

sequence_seen : (bs : List Block) (last : Block) → seen (v.Sequence bs last)
    ≡ seen_as (in_order (blocks_in (map seen bs)) (seen last).block) (off_in (map seen bs) + (seen last).off)
sequence_seen bs last = ap seen (sym (v.rolls-Sequence bs last)) ∙ rw fold-roll-Block refl

pub sequence_plain : (bs : List Block) (last : Block) → plain (v.Sequence bs last) ≡ in_order (plain_blocks bs) (plain last)
unfolding plain plain_blocks
sequence_plain bs last = ap (λ (s : Seen). s.block) (sequence_seen bs last)

pub sequence_size : (bs : List Block) (last : Block) → size (plain (v.Sequence bs last)) ≡ sizes_in (plain_blocks bs) + size (plain last)
sequence_size bs last = ap size (sequence_plain bs last) ∙ size_in_order (plain_blocks bs) (plain last)

pub sequence_off : (bs : List Block) (last : Block) → off (v.Sequence bs last) ≡ all_off bs + off last
unfolding off all_off
sequence_off bs last = ap (λ (s : Seen). s.off) (sequence_seen bs last)

-- one and two more
pub two_more : (bs : List tree.Block) (a b : tree.Block) → (bs ++ a ∷ []) ++ b ∷ [] ≡ bs ++ a ∷ b ∷ []
two_more bs a b = simp append_assoc

pub three_more : (bs : List tree.Block) (a b c : tree.Block) → ((bs ++ a ∷ []) ++ b ∷ []) ++ c ∷ [] ≡ bs ++ a ∷ b ∷ c ∷ []
three_more bs a b c = simp append_assoc

-- before the first
pub row_begun : (bs : List tree.Block) (b : tree.Block) → bs ≡ [] → in_order bs b ≡ b
row_begun bs b h = ap (λ l. in_order l b) h

pub size_begun : (bs : List tree.Block) (n : ℕ) → bs ≡ [] → sizes_in bs + n ≡ n
unfolding sizes_in
size_begun bs n h = ap (λ l. sizes_in l + n) h ∙ omega arith

-- several more
in_order_joined : (old made : List tree.Block) (last : tree.Block) → in_order (old ++ made) last ≡ in_order old (in_order made last)
in_order_joined [] made last = refl
in_order_joined (b ∷ bs) made last = ap (λ t. Both b t) (in_order_joined bs made last)

sizes_joined : (old made : List tree.Block) → sizes_in (old ++ made) ≡ sizes_in old + sizes_in made
unfolding sizes_in
sizes_joined [] made = omega arith
sizes_joined (b ∷ bs) made = omega (arith, sizes_joined bs made)

rest_fits : (made : List tree.Block) (rest : tree.Block) → excess (in_order made rest) ≡ 0 → excess rest ≡ 0
unfolding excess
rest_fits [] rest h = h
rest_fits (b ∷ bs) rest h = rest_fits bs rest (omega arith)

-- a turn of a walk over a list: what it made stands behind what was made before, and the rest is still to come
module _ (old made new : List tree.Block) (all rest : tree.Block) (is_all : all ≡ in_order made rest) (is_new : new ≡ old ++ made) where
  pub turn_block : (whole : tree.Block) → in_order old all ≡ whole → in_order new rest ≡ whole
  turn_block whole h =
      ap (λ bs. in_order bs rest) is_new
      ∙ in_order_joined old made rest
      ∙ ap (λ b. in_order old b) (sym is_all)
      ∙ h

  pub turn_fits : excess all ≡ 0 → excess rest ≡ 0
  turn_fits h = rest_fits made rest (ap excess (sym is_all) ∙ h)

  pub turn_small : sizes_in new + size rest ≡ sizes_in old + size all
  turn_small = omega (arith, ap sizes_in is_new, sizes_joined old made, ap size is_all, size_in_order made rest)
