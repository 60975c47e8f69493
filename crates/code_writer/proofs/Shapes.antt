-- What is asked and said of a block of the code, by the block of the definitions that it is.
use Rattle.std.proofs.Common.{◌≡◌, refl, sym, ap, ◌∙◌, subst, ℕ, suc, ◌+◌, ◌<◌, ◌≤◌, List, [], ◌∷◌, get_or, drop, drop-cons, length, length-drop, arith}
use Rattle.code_trees.specs.declared.block.Block.{Block}
use Rattle.code_trees.specs.Plain.{plain, plain_blocks, all_off, off, in_order, apart}
use Rattle.code_writer.specs.declared.cursor.Cursor.{Cursor}
use Rattle.code_writer.specs.declared.draft.Draft.{Draft}
use Rattle.code_writer.specs.Drafts.{Fits, Writes, Leaves}
use Rattle.code_writer.proofs.Forms.{blocks_next, no_blocks, all_off_next}
use Rattle.code_blocks.specs.Blocks as t
use Rattle.code_blocks.specs.Writing.{Env}

pub fits_as : (b : Block) (p : t.Block) (d : Draft) (around : ℕ) (from : Cursor) → plain b ≡ p → Fits (plain b) d around from → Fits p d around from
fits_as b p d around from e f = subst (λ x. Fits x d around from) e f

pub writes_as : (b : Block) (p : t.Block) (E : Env) (from : Cursor) (old : Draft) (to : Cursor) (new : Draft) → plain b ≡ p
    → Writes p E from old to new → Writes (plain b) E from old to new
writes_as b p E from old to new e h = subst (λ x. Writes x E from old to new) (sym e) h

pub both_zero : (m n : ℕ) → m + n ≡ 0 → (m ≡ 0) × (n ≡ 0)
both_zero m n e = (omega (arith, e), omega (arith, e))

pub right_size : (m n k : ℕ) → apart m n + k ≡ 0 → (m ≡ n) × (k ≡ 0)
right_size m n k e = (omega (arith, e), omega (arith, e))

-- the next one of a sequence
pub order_next : (b : Block) (bs rest : List Block) (last : t.Block) → rest ≡ b ∷ bs
    → in_order (plain_blocks rest) last ≡ t.Both (plain b) (in_order (plain_blocks bs) last)
order_next b bs rest last e = ap (λ l. in_order (plain_blocks l) last) e ∙ ap (λ l. in_order l last) (blocks_next b bs)

pub order_none : (rest : List Block) (last : t.Block) → rest ≡ [] → in_order (plain_blocks rest) last ≡ last
order_none rest last e = ap (λ l. in_order (plain_blocks l) last) e ∙ ap (λ l. in_order l last) no_blocks

pub off_next : (b : Block) (bs rest : List Block) → rest ≡ b ∷ bs → all_off rest ≡ 0 → (off b ≡ 0) × (all_off bs ≡ 0)
off_next b bs rest e z = both_zero (off b) (all_off bs) (sym (ap all_off e ∙ all_off_next b bs) ∙ z)

pub leaves_as : (w p q : t.Block) (E : Env) (from : Cursor) (old : Draft) (to : Cursor) (new : Draft) → p ≡ q
    → Leaves w p E from old to new → Leaves w q E from old to new
leaves_as w p q E from old to new e h = subst (λ x. Leaves w x E from old to new) e h

pub writes_in : (b : t.Block) (E F : Env) (from : Cursor) (old : Draft) (to : Cursor) (new : Draft) → E ≡ F → Writes b E from old to new → Writes b F from old to new
writes_in b E F from old to new e h = subst (λ G. Writes b G from old to new) e h

-- the next item of a loop, and the end of it

pub next_item : {A : Type 0} (xs : List A) (i : ℕ) (x : A) → i < length xs → x ≡ get_or xs i x → drop i xs ≡ x ∷ drop (i + 1) xs
next_item xs i x lt e =
    let n : suc i ≡ i + 1 = omega arith in
    drop-cons xs i x lt ∙ ap (λ y. y ∷ drop (suc i) xs) (sym e) ∙ ap (λ k. x ∷ drop k xs) n

none_left : {A : Type 0} (xs : List A) → length xs ≤ 0 → xs ≡ []
none_left [] le = refl
none_left (x ∷ xs) le = absurd (omega (arith, le))

pub all_gone : {A : Type 0} (xs : List A) (i : ℕ) → length xs ≤ i → drop i xs ≡ []
all_gone xs i le = none_left (drop i xs) (omega (arith, le, length-drop i xs))
