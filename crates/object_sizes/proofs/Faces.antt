-- What is imported and exported of the interfaces that are given, by their files.
use Rattle.std.specs.Prelude.{◌≡◌, ℕ, ◌+◌, ◌*◌, ◌≤◌, Bool, true, false, List, [], ◌∷◌, length, if◌then◌else◌}
use Rattle.std.proofs.Common.{refl, ap, arith}
use Rattle.mesa_types.specs.declared.faces.Face.{Face}
use Rattle.mesa_types.specs.declared.faces.Item.{Item}
use Rattle.syntax_trees.specs.declared.syntax.DirectoryItem.{DirectoryItem}
use Rattle.interface_records.specs.Faces.{iodefs}
use Rattle.interface_records.specs.declared.interface.Interface.{Interface}
use Rattle.checking_laws.specs.Sizes.{interfaces_count}
use Rattle.file_sizes.specs.Sizes.{total, item_size, face_size, interface_size}
use Rattle.file_sizes.proofs.Interfaces.{interfaces_are_sized}
use Rattle.object_sizes.specs.TextSizes.{is_built_in, size_given, AreGiven, files_size}
use Rattle.object_sizes.proofs.Once.{built_ins, one_if}

items_some : (all : List Item) → 6 * length all ≤ total item_size all
unfolding total
items_some [] = omega arith
items_some (i ∷ all) = omega (arith, interfaces_are_sized.items i, items_some all)

-- a face that is imported and exported
abbrev pub both_sizes : Face → ℕ
both_sizes f = (face_size f + 4) + (face_size f + 4 + 8 * length f.items)

both_short : (i : Interface) → both_sizes i.face ≤ 4 * interface_size i
both_short i = omega (arith, interfaces_are_sized.faces i.face, items_some i.face.items, interfaces_are_sized.files i)

built_in_short : both_sizes iodefs.face ≤ 456
built_in_short = omega (arith, interfaces_are_sized.built_in)

-- ---- of one item

both_given_one : (i : Interface) (b : Bool) → (b ≡ true → i ≡ iodefs) → both_sizes i.face ≤ 4 * (if b then 0 else interface_size i) + 456 * one_if b
both_given_one i true h =
    let same : both_sizes i.face ≡ both_sizes iodefs.face = ap (λ (j : Interface). both_sizes j.face) (h refl) in
    omega (arith, same, built_in_short)
both_given_one i false h = omega (arith, both_short i)

face_given_one : (i : Interface) (b : Bool) → (b ≡ true → i ≡ iodefs) → face_size i.face ≤ (if b then 0 else interface_size i) + 200 * one_if b
face_given_one i true h =
    let same : face_size i.face ≡ face_size iodefs.face = ap (λ (j : Interface). face_size j.face) (h refl) in
    omega (arith, same, interfaces_are_sized.built_in)
face_given_one i false h = omega (arith, interfaces_are_sized.files i)

-- ---- of all

pub both_given : (ds : List DirectoryItem) (is : List Interface) → AreGiven ds is → interfaces_count both_sizes is ≤ 4 * files_size ds is + 456 * built_ins ds
unfolding AreGiven interfaces_count files_size built_ins
both_given [] [] h = omega arith
both_given [] (i ∷ is) h = absurd h
both_given (d ∷ ds) [] h = absurd h
both_given (d ∷ ds) (i ∷ is) h =
    let here : both_sizes i.face ≤ 4 * size_given d i + 456 * one_if (is_built_in d) = both_given_one i (is_built_in d) h.0 in
    omega (arith, here, both_given ds is h.1)

pub faces_given : (ds : List DirectoryItem) (is : List Interface) → AreGiven ds is → interfaces_count face_size is ≤ files_size ds is + 200 * built_ins ds
unfolding AreGiven interfaces_count files_size built_ins
faces_given [] [] h = omega arith
faces_given [] (i ∷ is) h = absurd h
faces_given (d ∷ ds) [] h = absurd h
faces_given (d ∷ ds) (i ∷ is) h =
    let here : face_size i.face ≤ size_given d i + 200 * one_if (is_built_in d) = face_given_one i (is_built_in d) h.0 in
    omega (arith, here, faces_given ds is h.1)

-- two counts of interfaces are one of their sum
pub counts_joined : (f g : Face → ℕ) (is : List Interface) → interfaces_count (λ x. f x + g x) is ≡ interfaces_count f is + interfaces_count g is
unfolding interfaces_count
counts_joined f g [] = refl
counts_joined f g (i ∷ is) = omega (arith, counts_joined f g is)
