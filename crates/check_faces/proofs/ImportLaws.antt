-- What is imported, one interface and one item after the other.
use Rattle.std.proofs.Common.{◌≡◌, ℕ, zero, suc, ◌+◌, ◌<◌, ◌≤◌, Bool, true, false, List, [], ◌∷◌, ◌++◌, map, drop, length, replicate, get_or, refl, sym, ap, ◌∙◌, arith}
use Rattle.std.proofs.lemmas.List.{append-nil, append_assoc, drop_all, length-map, nil_from_length}
use denote.Ref.{Bor}
use Rattle.interface_records.specs.declared.interface.Interface.{Interface}
use Rattle.mesa_types.specs.declared.faces.Import.{Import}
use Rattle.mesa_types.specs.declared.faces.Item.{Item}
use Rattle.check_scopes.specs.Marks.{row, with_row}
use Rattle.interface_records.specs.PlainTypes.{PlainItem, plain_interface, plain_item}
use Rattle.check_rules.specs.Programs.{first_row, imported, marked_from, other_rows, unused}
use Rattle.check_directory.specs.Interfaces.{found}
use Rattle.check_directory.proofs.PlaceLaws.{at_drop}
use Rattle.check_faces.specs.Giving.{import, number_if}

-- ---- rows of marks

module _ (rows : List (List Bool)) (those : List (Bor Interface)) (n : ℕ) where
  pub unused_at : (f : Bor Interface) → n < length those → f ≡ get_or those n f
      → rows ++ unused (found (drop n those)) ≡ with_row (length f.now.face.items) rows ++ unused (found (drop (n + 1) those))
  unfolding unused
  unused_at f inside here =
      ap (λ fs. rows ++ unused (found fs)) (at_drop those n f inside here)
      ∙ ap (λ k. rows ++ (replicate k false ∷ unused (found (drop (n + 1) those)))) (length-map f.now.face.items plain_item)
      ∙ sym (append_assoc rows (replicate (length f.now.face.items) false ∷ []) (unused (found (drop (n + 1) those))))

  pub unused_out : length those ≤ n → rows ++ unused (found (drop n those)) ≡ rows
  unfolding unused
  unused_out outside = ap (λ fs. rows ++ unused (found fs)) (drop_all n those outside) ∙ append-nil rows

-- ---- the numbers of marked items

up : (n : ℕ) → suc n ≡ n + 1
up n = omega arith

marked_short : (n : ℕ) (is : List PlainItem) → marked_from n is [] ≡ []
unfolding marked_from
marked_short n [] = refl
marked_short n (i ∷ is) = refl

marked_none : (n : ℕ) (ms : List Bool) → marked_from n [] ms ≡ []
unfolding marked_from
marked_none n [] = refl
marked_none n (m ∷ ms) = refl

module _ (before : List ℕ) (n : ℕ) (items : List Item) (k : ℕ) where
  marked_yes : (i : Item) (ms : List Bool) → k < length items → i ≡ get_or items k i
      → before ++ marked_from n (map plain_item (drop k items)) (true ∷ ms) ≡ (before ++ n ∷ []) ++ marked_from (n + 1) (map plain_item (drop (k + 1) items)) ms
  unfolding marked_from
  marked_yes i ms inside here =
      ap (λ is. before ++ marked_from n (map plain_item is) (true ∷ ms)) (at_drop items k i inside here)
      ∙ ap (λ j. before ++ (n ∷ marked_from j (map plain_item (drop (k + 1) items)) ms)) (up n)
      ∙ sym (append_assoc before (n ∷ []) (marked_from (n + 1) (map plain_item (drop (k + 1) items)) ms))

  marked_no : (i : Item) (ms : List Bool) → k < length items → i ≡ get_or items k i
      → before ++ marked_from n (map plain_item (drop k items)) (false ∷ ms) ≡ before ++ marked_from (n + 1) (map plain_item (drop (k + 1) items)) ms
  unfolding marked_from
  marked_no i ms inside here =
      ap (λ is. before ++ marked_from n (map plain_item is) (false ∷ ms)) (at_drop items k i inside here)
      ∙ ap (λ j. before ++ marked_from j (map plain_item (drop (k + 1) items)) ms) (up n)

  pub marked_next : (i : Item) (rest ms : List Bool) (m : Bool) → k < length items → i ≡ get_or items k i → rest ≡ m ∷ ms
      → before ++ marked_from n (map plain_item (drop k items)) rest ≡ (before ++ number_if m n) ++ marked_from (n + 1) (map plain_item (drop (k + 1) items)) ms
  marked_next i rest ms true inside here h =
      ap (λ r. before ++ marked_from n (map plain_item (drop k items)) r) h ∙ marked_yes i ms inside here
  marked_next i rest ms false inside here h =
      ap (λ r. before ++ marked_from n (map plain_item (drop k items)) r) h ∙ marked_no i ms inside here
      ∙ ap (λ b. b ++ marked_from (n + 1) (map plain_item (drop (k + 1) items)) ms) (sym (append-nil before))

  pub marks_end : (rest : List Bool) → length rest ≡ 0 → before ++ marked_from n (map plain_item (drop k items)) rest ≡ before
  marks_end rest h =
      ap (λ r. before ++ marked_from n (map plain_item (drop k items)) r) (nil_from_length rest h)
      ∙ ap (λ ns. before ++ ns) (marked_short n (map plain_item (drop k items))) ∙ append-nil before

  pub items_end : (ms : List Bool) → length items ≤ k → before ++ marked_from n (map plain_item (drop k items)) ms ≡ before
  items_end ms outside =
      ap (λ is. before ++ marked_from n (map plain_item is) ms) (drop_all k items outside) ∙ ap (λ ns. before ++ ns) (marked_none n ms) ∙ append-nil before

-- ---- imports

first_of : (n : ℕ) (rows : List (List Bool)) → first_row (drop n rows) ≡ row n rows
first_of zero [] = refl
first_of zero (r ∷ rows) = refl
first_of (suc n) [] = refl
first_of (suc n) (r ∷ rows) = first_of n rows

others_of : (n : ℕ) (rows : List (List Bool)) → other_rows (drop n rows) ≡ drop (suc n) rows
others_of zero [] = refl
others_of zero (r ∷ rows) = refl
others_of (suc n) [] = refl
others_of (suc n) (r ∷ rows) = others_of n rows

module _ (before : List Import) (those : List (Bor Interface)) (rows : List (List Bool)) (n : ℕ) where
  pub import_at : (f : Bor Interface) → n < length those → f ≡ get_or those n f
      → before ++ imported (found (drop n those)) (drop n rows)
      ≡ (before ++ import (plain_interface f.now) (row n rows) ∷ []) ++ imported (found (drop (n + 1) those)) (drop (n + 1) rows)
  unfolding imported
  import_at f inside here =
      ap (λ fs. before ++ imported (found fs) (drop n rows)) (at_drop those n f inside here)
      ∙ ap (λ r. before ++ (import (plain_interface f.now) r ∷ imported (found (drop (n + 1) those)) (other_rows (drop n rows)))) (first_of n rows)
      ∙ ap (λ rs. before ++ (import (plain_interface f.now) (row n rows) ∷ imported (found (drop (n + 1) those)) rs)) (others_of n rows ∙ ap (λ k. drop k rows) (up n))
      ∙ sym (append_assoc before (import (plain_interface f.now) (row n rows) ∷ []) (imported (found (drop (n + 1) those)) (drop (n + 1) rows)))

  pub import_out : length those ≤ n → before ++ imported (found (drop n those)) (drop n rows) ≡ before
  unfolding imported
  import_out outside = ap (λ fs. before ++ imported (found fs) (drop n rows)) (drop_all n those outside) ∙ append-nil before
