-- The file of an interface has as many bytes in either version.
use Rattle.std.proofs.Common.{◌≡◌, ℕ, zero, suc, ◌+◌, ◌==◌, Bool, true, false, List, [], ◌∷◌, ◌++◌, length, take, drop, Option, Some, None, refl, ◌∙◌, ap, arith, length-append, take-append-drop}
use Rattle.std.specs.Int.{bytes_high_first}
use Rattle.mesa_types.specs.declared.faces.ItemKind.{ItemKind}
use Rattle.mesa_types.specs.declared.faces.ItemKind.TheVariants.{Procedure, Signal, Error}
use Rattle.mesa_types.specs.declared.types.TypeTree.{TypeTree, out-TypeTree}
use Rattle.interface_records.specs.declared.interface.Interface.{Interface}
use Rattle.file_forms.specs.Files.{versioned}
use Rattle.file_forms.specs.Forms.{Form, number, always, pair, list, choose, spell_each, spell_some, at_least}
use Rattle.file_forms.specs.Names.{name, fresh_name}
use Rattle.file_forms.proofs.Numbers.{length-number}
use Rattle.face_rules.specs.FaceForms.{item_kind, gives, item_parts, item_named, item_names, items, face_parts, face}
use Rattle.face_rules.specs.InterfaceForms.{constant_parts, constant, constant_names, constants, value_of, named_parts, named_type, type_names, named_types, interface_parts, interface, IsInterfaceFile}
use Rattle.face_rules.specs.Layers.{tag_of, of_subrange, of_array, of_record}
use Rattle.face_rules.specs.TypeForms.{any, basic, is_base, is_index, is_of_constants, origin, label, field_parts, field_form, fields_form, enumeration, bounds, subrange, array, record_of, tagged, tag, typed, type_form, types, fields}
use Rattle.file_sizes.specs.Sizes.{interface_size}

-- two forms spell alike
abbrev Alike : {A : Type 0} → Form A → Form A → Type 0
Alike {A} f g = (a : A) → f.spell a ≡ g.spell a

pair_alike : {A B : Type 0} (f g : Form A) (p q : A → Form B) → Alike f g → ((a : A) → Alike (p a) (q a)) → Alike (pair f p) (pair g q)
pair_alike f g p q one two x = ap (λ t. t ++ (p x.0).spell x.1) (one x.0) ∙ ap (λ t. g.spell x.0 ++ t) (two x.0 x.1)

choose_alike : {A : Type 0} (b : Bool) (f g p q : Form A) (a : A) → f.spell a ≡ g.spell a → p.spell a ≡ q.spell a → (choose b f p).spell a ≡ (choose b g q).spell a
choose_alike true f g p q a one two = one
choose_alike false f g p q a one two = two

some_alike : {A : Type 0} (f g : Form A) → Alike f g → (o : Option A) → spell_some f o ≡ spell_some g o
some_alike f g same None = refl
some_alike f g same (Some a) = same a

module _ {A : Type 0} (f g : List A → Form A) (same : (before : List A) → Alike (f before) (g before)) where
  each_alike : (before all : List A) → spell_each f before all ≡ spell_each g before all
  unfolding spell_each
  each_alike before [] = refl
  each_alike before (a ∷ all) =
      ap (λ t. t ++ spell_each f (before ++ a ∷ []) all) (same before a) ∙ ap (λ t. (g before).spell a ++ t) (each_alike (before ++ a ∷ []) all)

  list_alike : (test : ℕ → Bool) → Alike (list test f) (list test g)
  list_alike test all = ap (λ t. bytes_high_first 4 (length all) ++ t) (each_alike [] all)

-- ---- types

fields_alike : (f g : Form TypeTree) → Alike f g → (least : ℕ) → Alike (fields_form f least) (fields_form g least)
unfolding fields_form field_form
fields_alike f g same least all =
    list_alike (field_form f) (field_form g)
    (λ before a. pair_alike (label before) (label before) (λ _. f) (λ _. g) (λ x. refl) (λ x t. same t) (field_parts a)) (at_least least) all

module _ (f g : (ℕ → Bool) → Form TypeTree) (same : (a b : ℕ → Bool) → Alike (f a) (g b)) where
  subranges_alike : Alike (subrange f) (subrange g)
  unfolding subrange
  subranges_alike t =
      some_alike (pair (f is_base) bounds) (pair (g is_base) bounds)
      (pair_alike (f is_base) (g is_base) bounds bounds (same is_base is_base) (λ a b. refl)) (of_subrange (out-TypeTree t))

  arrays_alike : Alike (array f) (array g)
  unfolding array
  arrays_alike t =
      some_alike (pair (f is_index) (λ _. f any)) (pair (g is_index) (λ _. g any))
      (pair_alike (f is_index) (g is_index) (λ _. f any) (λ _. g any) (same is_index is_index) (λ a. same any any)) (of_array (out-TypeTree t))

  records_alike : Alike (record_of f) (record_of g)
  unfolding record_of
  records_alike t =
      some_alike (pair origin (λ _. fields_form (f any) 1)) (pair origin (λ _. fields_form (g any) 1))
      (pair_alike origin origin (λ _. fields_form (f any) 1) (λ _. fields_form (g any) 1) (λ a. refl) (λ a. fields_alike (f any) (g any) (same any any) 1))
      (of_record (out-TypeTree t))

  tagged_alike : (n : ℕ) → Alike (tagged f n) (tagged g n)
  unfolding tagged
  tagged_alike n t =
      let last = choose_alike (n == 9) (record_of f) (record_of g) (always (basic n)) (always (basic n)) t (records_alike t) refl in
      let third = choose_alike (n == 8) (array f) (array g) (choose (n == 9) (record_of f) (always (basic n))) (choose (n == 9) (record_of g) (always (basic n))) t
      (arrays_alike t) last in
      let second = choose_alike (n == 7) (subrange f) (subrange g)
      (choose (n == 8) (array f) (choose (n == 9) (record_of f) (always (basic n))))
      (choose (n == 8) (array g) (choose (n == 9) (record_of g) (always (basic n)))) t (subranges_alike t) third in
      choose_alike (n == 6) enumeration enumeration
      (choose (n == 7) (subrange f) (choose (n == 8) (array f) (choose (n == 9) (record_of f) (always (basic n)))))
      (choose (n == 7) (subrange g) (choose (n == 8) (array g) (choose (n == 9) (record_of g) (always (basic n))))) t refl second

module _ (v w : ℕ) where
  types_alike : (levels : ℕ) (a b : ℕ → Bool) → Alike (type_form v levels a) (type_form w levels b)
  unfolding type_form typed tag
  types_alike zero a b t = refl
  types_alike (suc levels) a b t =
      ap (λ rest. bytes_high_first 1 (tag_of t) ++ rest) (tagged_alike (type_form v levels) (type_form w levels) (types_alike levels) (tag_of t) t)

  -- ---- interfaces

  gives_alike : (kind : ItemKind) → Alike (gives v kind) (gives w kind)
  unfolding gives
  gives_alike Procedure fs = fields_alike (types v any) (types w any) (types_alike 64 any any) 0 fs
  gives_alike Signal fs = fields_alike (types v any) (types w any) (types_alike 64 any any) 0 fs
  gives_alike Error fs = refl

  items_alike : (called : Form (List ℕ)) → Alike (item_named called v) (item_named called w)
  unfolding item_named
  items_alike called i =
      pair_alike item_kind item_kind
      (λ kind. pair called (λ _. pair (fields v) (λ _. gives v kind))) (λ kind. pair called (λ _. pair (fields w) (λ _. gives w kind)))
      (λ a. refl)
      (λ kind. pair_alike called called (λ _. pair (fields v) (λ _. gives v kind)) (λ _. pair (fields w) (λ _. gives w kind)) (λ a. refl)
      (λ a. pair_alike (fields v) (fields w) (λ _. gives v kind) (λ _. gives w kind) (fields_alike (types v any) (types w any) (types_alike 64 any any) 0)
      (λ b. gives_alike kind))) (item_parts i)

  faces_alike : Alike (face v) (face w)
  unfolding face items
  faces_alike f =
      pair_alike name name (λ _. pair (number 6) (λ _. items v)) (λ _. pair (number 6) (λ _. items w)) (λ a. refl)
      (λ a. pair_alike (number 6) (number 6) (λ _. items v) (λ _. items w) (λ n. refl)
      (λ n. list_alike (λ before. item_named (fresh_name (item_names before)) v) (λ before. item_named (fresh_name (item_names before)) w)
      (λ before. items_alike (fresh_name (item_names before))) (at_least 0))) (face_parts f)

  constant_alike : (seen : List (List ℕ)) → Alike (constant v seen) (constant w seen)
  unfolding constant
  constant_alike seen c =
      pair_alike (fresh_name seen) (fresh_name seen) (λ _. pair (types v is_of_constants) value_of) (λ _. pair (types w is_of_constants) value_of) (λ a. refl)
      (λ a. pair_alike (types v is_of_constants) (types w is_of_constants) value_of value_of (types_alike 64 is_of_constants is_of_constants) (λ t n. refl)) (constant_parts c)

  constants_alike : (seen : List (List ℕ)) → Alike (constants v seen) (constants w seen)
  unfolding constants
  constants_alike seen all =
      list_alike (λ before. constant v (seen ++ constant_names before)) (λ before. constant w (seen ++ constant_names before))
      (λ before. constant_alike (seen ++ constant_names before)) (at_least 0) all

  named_alike : (seen : List (List ℕ)) → Alike (named_type v seen) (named_type w seen)
  unfolding named_type
  named_alike seen n =
      pair_alike (fresh_name seen) (fresh_name seen) (λ _. types v any) (λ _. types w any) (λ a. refl) (λ a. types_alike 64 any any) (named_parts n)

  named_types_alike : (seen : List (List ℕ)) → Alike (named_types v seen) (named_types w seen)
  unfolding named_types
  named_types_alike seen all =
      list_alike (λ before. named_type v (seen ++ type_names before)) (λ before. named_type w (seen ++ type_names before))
      (λ before. named_alike (seen ++ type_names before)) (at_least 0) all

  interfaces_alike : Alike (interface v) (interface w)
  unfolding interface
  interfaces_alike i =
      pair_alike (face v) (face w)
      (λ f. pair (constants v (item_names f.items)) (λ cs. named_types v (item_names f.items ++ constant_names cs)))
      (λ f. pair (constants w (item_names f.items)) (λ cs. named_types w (item_names f.items ++ constant_names cs)))
      faces_alike
      (λ f. pair_alike (constants v (item_names f.items)) (constants w (item_names f.items))
      (λ cs. named_types v (item_names f.items ++ constant_names cs)) (λ cs. named_types w (item_names f.items ++ constant_names cs))
      (constants_alike (item_names f.items)) (λ cs. named_types_alike (item_names f.items ++ constant_names cs))) (interface_parts i)

-- ---- files

-- the version is one byte
led : (version : ℕ) (i : Interface) → length ((versioned interface).spell (version, i)) ≡ 1 + length ((interface 2).spell i)
led version i =
    let same = ap length (interfaces_alike version 2 i) in
    omega (arith, length-append ((number 1).spell version) ((interface version).spell i), length-number 1 version, same)

pub as_long : (version : ℕ) (i : Interface) (bytes : List ℕ) → IsInterfaceFile version i bytes → length bytes ≡ interface_size i
unfolding interface_size
as_long version i bytes h =
    let whole = ap length (take-append-drop 3 bytes) in
    let front : length (take 3 bytes) ≡ 3 = ap length h.begins in
    let behind = ap length h.spells.text in
    omega (arith, whole, length-append (take 3 bytes) (drop 3 bytes), front, behind, length-append ((versioned interface).spell (version, i)) [], led version i, led 2 i)
