-- The marks of used items, counted.
use Rattle.std.specs.Prelude.{ℕ, zero, suc, ◌≡◌, ◌+◌, ◌≤◌, Bool, true, false, List, [], ◌∷◌, length, replicate, slice_get, slice_set}
use Rattle.std.proofs.Common.{refl, arith}
use Rattle.interface_records.specs.PlainTypes.{PlainInterface, PlainItem}
use Rattle.check_rules.specs.Names.{or_empty}
use Rattle.check_rules.specs.Programs.{unused, marked_from, first_row, other_rows, imported}
use Rattle.checking_laws.specs.UsedItems.{used_items}

abbrev pub one_if : Bool → ℕ
one_if true = 1
one_if false = 0

unfoldable pub in_row : List Bool → ℕ
in_row [] = 0
in_row (b ∷ bs) = one_if b + in_row bs

unfoldable pub marks : List (List Bool) → ℕ
marks [] = 0
marks (r ∷ rs) = in_row r + marks rs

row_marked : (bs : List Bool) (n : ℕ) → in_row (slice_set bs n true) ≤ in_row bs + 1
unfolding in_row
row_marked [] n = omega arith
row_marked (b ∷ bs) zero = omega arith
row_marked (b ∷ bs) (suc n) = let h : in_row (slice_set bs n true) ≤ in_row bs + 1 = row_marked bs n in omega arith

pub one_more : (rows : List (List Bool)) (m n : ℕ) → marks (slice_set rows m (slice_set (or_empty [] (slice_get rows m)) n true)) ≤ marks rows + 1
unfolding marks
one_more [] m n = omega arith
one_more (r ∷ rows) zero n = omega (arith, row_marked r n)
one_more (r ∷ rows) (suc m) n =
    let h : marks (slice_set rows m (slice_set (or_empty [] (slice_get rows m)) n true)) ≤ marks rows + 1 = one_more rows m n in omega arith

none_in_row : (n : ℕ) → in_row (replicate n false) ≡ 0
unfolding in_row
none_in_row zero = refl
none_in_row (suc n) = omega (arith, none_in_row n)

-- none is marked at the start
pub none_marked : (is : List PlainInterface) → marks (unused is) ≡ 0
unfolding marks unused
none_marked [] = refl
none_marked (i ∷ is) = omega (arith, none_in_row (length i.items), none_marked is)

numbers_marked : (n : ℕ) (is : List PlainItem) (bs : List Bool) → length (marked_from n is bs) ≤ in_row bs
unfolding marked_from in_row
numbers_marked n [] bs = omega arith
numbers_marked n (i ∷ is) [] = omega arith
numbers_marked n (i ∷ is) (true ∷ bs) = let h : length (marked_from (suc n) is bs) ≤ in_row bs = numbers_marked (suc n) is bs in omega arith
numbers_marked n (i ∷ is) (false ∷ bs) = let h : length (marked_from (suc n) is bs) ≤ in_row bs = numbers_marked (suc n) is bs in omega arith

rows_split : (rows : List (List Bool)) → in_row (first_row rows) + marks (other_rows rows) ≡ marks rows
unfolding in_row marks
rows_split [] = refl
rows_split (r ∷ rows) = refl

-- a module uses no more items than are marked in the end
pub used_are_marked : (is : List PlainInterface) (rows : List (List Bool)) → used_items (imported is rows) ≤ marks rows
unfolding used_items imported
used_are_marked [] rows = omega arith
used_are_marked (i ∷ is) rows =
    let h : used_items (imported is (other_rows rows)) ≤ marks (other_rows rows) = used_are_marked is (other_rows rows) in
    omega (arith, numbers_marked 0 i.items (first_row rows), rows_split rows)
