-- Blocks one behind the other that grow by the first of those that are still to come.
use Rattle.std.proofs.Common.{◌≡◌, sym, ap, ◌∙◌, subst, ℕ, ◌+◌, ◌-◌, ◌<◌, ◌≤◌, List, [], ◌∷◌, ◌++◌, append_assoc, length, get_or, drop, arith}
use Rattle.std.proofs.lemmas.List.{append-nil}
use Rattle.std.specs.Prelude.{Result, Ok, Err, IfOk, OnOk}
use Rattle.code_blocks.specs.Blocks.{Block, Both}
use Rattle.code_blocks.specs.Sizes.{size}
use Rattle.code_trees.specs.Excess.{excess}
use Rattle.code_trees.specs.Plain.{in_order, plain, plain_blocks}
use Rattle.code_trees.specs.Rows.{excess_among, sizes_in}
use Rattle.code_trees.specs.declared.part.Part.{Part}
use Rattle.code_trees.specs.declared.part.Row.{Row}
use Rattle.code_trees.proofs.Splits.{item_at}
use Rattle.code_trees.proofs.RowFits.{among_fit, among_joined, in_order_joined, last_fits, row_fits, row_size, sizes_joined}

-- what a call made, by what it promised of its result
pub part_made : {E : Type 0} (r : Result Part E) (x : Part) (b : Block) → r ≡ Ok x → IfOk r (λ y. plain y.block ≡ b) → plain x.block ≡ b
part_made r x b is h = rw is at h

pub row_made : {E : Type 0} (r : Result Row E) (x : Row) (bs : List Block) → r ≡ Ok x → IfOk r (λ y. plain_blocks y.blocks ≡ bs) → plain_blocks
    x.blocks ≡ bs
row_made r x bs is h = rw is at h

pub next_made : {T E : Type 0} (r : Result T E) (x : T) (n m : ℕ) → r ≡ Ok x → OnOk r (n ≡ m) → n ≡ m
next_made r x n m is h = rw is at h

-- what a maker promises, said of the block of the definitions
pub made_as : {E : Type 0} (r : Result Part E) (b c : Block) → IfOk r (λ y. plain y.block ≡ b) → b ≡ c → IfOk r (λ y. plain y.block ≡ c)
made_as r b c h e = subst (λ d. IfOk r (λ y. plain y.block ≡ d)) e h

pub next_held : {T E : Type 0} (r : Result T E) (n m : ℕ) → n ≡ m → OnOk r (n ≡ m)
next_held (Ok x) n m e = e
next_held (Err x) n m e = tt

-- so many are left behind the next one
pub one_fewer : {A : Type 0} (xs : List A) (i left : ℕ) (x : A) → i < length xs → x ≡ get_or xs i x → left ≡ length (drop i xs) → left - 1
    ≡ length (drop (i + 1) xs)
one_fewer xs i left x lt is is_left = let split = ap length (item_at xs i x lt is) in omega (arith, split, is_left)

-- before a last block

module _ (bs : List Block) (rest whole : Block) (is : in_order bs rest ≡ whole) (fit : excess whole ≡ 0) where
  pub all_fits : excess (in_order bs rest) ≡ 0
  all_fits = ap excess is ∙ fit

  pub rest_fits : excess rest ≡ 0
  rest_fits = last_fits bs rest all_fits

  pub rest_small : sizes_in bs + size rest ≤ 4294967295
  rest_small = row_fits bs rest all_fits

module _ (bs : List Block) (rest whole : Block) (firsts : List Block) (tail : Block) (is : in_order bs rest ≡ whole)
    (next : rest ≡ in_order firsts tail)
    (fit : excess whole ≡ 0) where
  next_fits : excess (in_order firsts tail) ≡ 0
  next_fits = ap excess (sym next) ∙ rest_fits bs rest whole is fit

  pub firsts_fit : excess_among firsts ≡ 0
  firsts_fit = among_fit firsts tail next_fits

  pub firsts_small : sizes_in bs + sizes_in firsts ≤ 4294967295
  firsts_small = omega (arith, rest_small bs rest whole is fit, ap size next, row_size firsts tail)

  pub firsts_more : (new : List Block) → new ≡ bs ++ firsts → in_order new tail ≡ whole
  firsts_more new is_new = ap (λ l. in_order l tail) is_new ∙ in_order_joined bs firsts tail ∙ ap (in_order bs) (sym next) ∙ is

module _ (bs : List Block) (rest whole first tail : Block) (is : in_order bs rest ≡ whole) (next : rest ≡ Both first tail)
    (fit : excess whole ≡ 0) where
  pub first_small : (held : List Block) (made : Block) → held ≡ bs → made ≡ first → sizes_in held + size made ≤ 4294967295
  unfolding sizes_in
  first_small held made same is_made =
      let small : sizes_in bs + sizes_in (first ∷ []) ≤ 4294967295 = firsts_small bs rest whole (first ∷ []) tail is next fit in
      omega (arith, ap sizes_in same, ap size is_made)

  pub first_more : (held new : List Block) (made : Block) → held ≡ bs → made ≡ first → new ≡ held ++ made ∷ [] → in_order new tail ≡ whole
  first_more held new made same is_made is_new =
      firsts_more bs rest whole (first ∷ []) tail is next fit new
      (is_new ∙ ap (λ l. l ++ made ∷ []) same ∙ ap (λ b. bs ++ b ∷ []) is_made)

-- all of them, where they are a block whose numbers fit
pub whole_small : (bs : List Block) (last whole : Block) → in_order bs last ≡ whole → excess whole ≡ 0 → sizes_in bs + size last ≤ 4294967295
whole_small bs last whole is fit = row_fits bs last (ap excess is ∙ fit)

-- what is still to come fits
pub tail_fits : (rows : List Block) (tail whole : Block) → in_order rows tail ≡ whole → excess whole ≡ 0 → excess tail ≡ 0
tail_fits rows tail whole is fit = rest_fits rows tail whole is fit

pub tail_among : (bs rest all : List Block) → bs ++ rest ≡ all → excess_among all ≡ 0 → excess_among rest ≡ 0
tail_among bs rest all is fit = omega (arith, among_joined bs rest, ap excess_among is)

-- of a list of blocks

module _ (bs rest all : List Block) (first : Block) (tail : List Block) (is : bs ++ rest ≡ all) (next : rest ≡ first ∷ tail) where
  whole : bs ++ first ∷ tail ≡ all
  whole = ap (λ l. bs ++ l) (sym next) ∙ is

  pub item_fits : excess_among all ≡ 0 → excess first ≡ 0
  unfolding excess_among
  item_fits fit =
      let joined : excess_among (bs ++ first ∷ tail) ≡ excess_among bs + (excess first + excess_among tail) = among_joined bs (first ∷ tail) in
      omega (arith, joined, ap excess_among whole)

  pub item_small : sizes_in all ≤ 4294967295 → (held : List Block) (made : Block) → held ≡ bs → made ≡ first → sizes_in held + size made ≤ 4294967295
  unfolding sizes_in
  item_small small held made same is_made =
      let joined : sizes_in (bs ++ first ∷ tail) ≡ sizes_in bs + (size first + sizes_in tail) = sizes_joined bs (first ∷ tail) in
      omega (arith, joined, ap sizes_in whole, ap sizes_in same, ap size is_made)

  pub item_more : (held new : List Block) (made : Block) → held ≡ bs → made ≡ first → new ≡ held ++ made ∷ [] → new ++ tail ≡ all
  item_more held new made same is_made is_new =
      ap (λ l. l ++ tail) (is_new ∙ ap (λ l. l ++ made ∷ []) same ∙ ap (λ b. bs ++ b ∷ []) is_made)
      ∙ append_assoc bs (first ∷ []) tail
      ∙ whole

-- where nothing is still to come
pub none_more : (bs rest all : List Block) → bs ++ rest ≡ all → rest ≡ [] → bs ≡ all
none_more bs rest all is none = sym (append-nil bs) ∙ ap (λ l. bs ++ l) (sym none) ∙ is
