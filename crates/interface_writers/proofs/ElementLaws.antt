-- What the elements of a list fit and spell, whatever stands before them.
use Rattle.std.proofs.Common.{◌≡◌, ℕ, ◌+◌, ◌<◌, ◌^◌, List, [], ◌∷◌, ◌++◌, length, take, get_or, refl, sym, ap, subst, ◌∙◌}
use Rattle.mesa_types.specs.declared.types.TypeTree.{TypeTree}
use Rattle.mesa_types.specs.declared.types.FieldType.{FieldType, out-FieldType}
use Rattle.mesa_types.specs.declared.faces.Item.{Item}
use Rattle.interface_records.specs.declared.interface.Constant.{Constant}
use Rattle.interface_records.specs.declared.interface.NamedType.{NamedType}
use Rattle.file_forms.specs.Forms.{Form, number, FitEach, spell_each}
use Rattle.file_forms.specs.Names.{name, fresh_name}
use Rattle.file_forms.specs.Written.{Written, appended}
use Rattle.file_forms.proofs.WrittenLaws.{appended_both}
use Rattle.face_rules.specs.TypeForms.{label, field_form}
use Rattle.face_rules.specs.FaceForms.{item_named, item}
use Rattle.face_rules.specs.Layers.{value_bytes}
use Rattle.face_rules.specs.InterfaceForms.{constant, constants, named_type, named_types, value_of}
use Rattle.face_rules.proofs.WriteLaws.{fits-at}
use Rattle.interface_writers.specs.Elements.{each_item, each_constant, each_named_type}
use Rattle.interface_writers.proofs.Loops.{one_more}

-- what holds of each element at its place
fits_at_item : {A : Type 0} (each : List A → Form A) (all : List A) (i : ℕ) (x : A) → FitEach each [] all → i < length all → x ≡ get_or all i x → (each (take i all)).fits x
fits_at_item each all i x fits less is = subst (λ y. (each (take i all)).fits y) (sym is) (fits-at each [] all i x fits less)

-- one element more, which is spelled alike whatever stands before it
module _ {A : Type 0} (each : List A → Form A) (one : Form A) (alike : (before : List A) (x : A) → one.spell x ≡ (each before).spell x) where
  pub element_written : (start out new : Written) (all : List A) (i : ℕ) (x : A) → i < length all → x ≡ get_or all i x
      → out ≡ appended start (spell_each each [] (take i all)) → new ≡ appended out (one.spell x) → new ≡ appended start (spell_each each [] (take (i + 1) all))
  element_written start out new all i x less is so more =
      one_more each start out new all i x less so
      (subst (λ y. new ≡ appended out ((each (take i all)).spell y)) is (more ∙ ap (λ (t : List ℕ). appended out t) (alike (take i all) x)))

-- ---- names

pub name_fits : (all : List (List ℕ)) (i : ℕ) (x : List ℕ) → FitEach fresh_name [] all → i < length all → x ≡ get_or all i x → name.fits x
unfolding fresh_name
name_fits all i x fits less is = (fits_at_item fresh_name all i x fits less is).0

pub name_alike : (before : List (List ℕ)) (x : List ℕ) → name.spell x ≡ (fresh_name before).spell x
unfolding fresh_name
name_alike before x = refl

-- ---- fields

pub field_fits : (inner : Form TypeTree) (all : List FieldType) (i : ℕ) (f : FieldType) → FitEach (field_form inner) [] all → i < length all → f ≡ get_or all i f
    → (label (take i all)).fits (out-FieldType f).name × inner.fits (out-FieldType f).kind
unfolding field_form
field_fits inner all i f fits less is = fits_at_item (field_form inner) all i f fits less is

pub field_written : (inner : Form TypeTree) (start out mid new : Written) (all : List FieldType) (i : ℕ) (f : FieldType) → i < length all → f ≡ get_or all i f
    → out ≡ appended start (spell_each (field_form inner) [] (take i all)) → mid ≡ appended out ((label []).spell (out-FieldType f).name)
    → new ≡ appended mid (inner.spell (out-FieldType f).kind) → new ≡ appended start (spell_each (field_form inner) [] (take (i + 1) all))
unfolding field_form label
field_written inner start out mid new all i f less is so first second =
    element_written (field_form inner) (field_form inner []) (λ before x. refl) start out new all i f less is so
    (appended_both out mid new ((label []).spell (out-FieldType f).name) (inner.spell (out-FieldType f).kind) first second)

-- ---- items

pub item_fits : (all : List Item) (i : ℕ) (x : Item) → FitEach each_item [] all → i < length all → x ≡ get_or all i x → (item 2).fits x
unfolding item_named fresh_name
item_fits all i x fits less is = let h = fits_at_item each_item all i x fits less is in (h.0, (h.1.0.0, h.1.1))

pub item_alike : (before : List Item) (x : Item) → (item 2).spell x ≡ (each_item before).spell x
unfolding item_named fresh_name
item_alike before x = refl

-- ---- constants

-- a value of two bytes is a word
pub word_fits : (t : TypeTree) (n : ℕ) → value_bytes t ≡ 2 → (value_of t).fits n → n < 65536
word_fits t n is fits = let word : n < 256 ^ 2 = subst (λ k. n < 256 ^ k) is fits.0 in word

pub constant_fits : (seen : List (List ℕ)) (all : List Constant) (i : ℕ) (x : Constant) → FitEach (each_constant seen) [] all → i < length all → x ≡ get_or all i x
    → (names : List (List ℕ)) × (constant 2 names).fits x
constant_fits seen all i x fits less is = (_, fits_at_item (each_constant seen) all i x fits less is)

pub constant_alike : (names before : List (List ℕ)) (x : Constant) → (constant 2 names).spell x ≡ (constant 2 before).spell x
unfolding constant fresh_name
constant_alike names before x = refl

-- ---- named types

pub named_type_fits : (seen : List (List ℕ)) (all : List NamedType) (i : ℕ) (x : NamedType) → FitEach (each_named_type seen) [] all → i < length all → x ≡ get_or all i x
    → (names : List (List ℕ)) × (named_type 2 names).fits x
named_type_fits seen all i x fits less is = (_, fits_at_item (each_named_type seen) all i x fits less is)

pub named_type_alike : (names before : List (List ℕ)) (x : NamedType) → (named_type 2 names).spell x ≡ (named_type 2 before).spell x
unfolding named_type fresh_name
named_type_alike names before x = refl

-- ---- whole lists, whatever names stand before them

spelled_alike : {A : Type 0} (each other : List A → Form A) → ((before : List A) (x : A) → (each before).spell x ≡ (other before).spell x)
    → (before all : List A) → spell_each each before all ≡ spell_each other before all
unfolding spell_each
spelled_alike each other alike before [] = refl
spelled_alike each other alike before (x ∷ all) =
    ap (λ (t : List ℕ). t ++ spell_each each (before ++ x ∷ []) all) (alike before x)
    ∙ ap (λ (t : List ℕ). (other before).spell x ++ t) (spelled_alike each other alike (before ++ x ∷ []) all)

pub constants_alike : (seen : List (List ℕ)) (all : List Constant) → (constants 2 []).spell all ≡ (constants 2 seen).spell all
unfolding constants
constants_alike seen all =
    ap (λ (t : List ℕ). (number 4).spell (length all) ++ t) (spelled_alike (each_constant []) (each_constant seen) (λ before x. constant_alike _ _ x) [] all)

pub named_types_alike : (seen : List (List ℕ)) (all : List NamedType) → (named_types 2 []).spell all ≡ (named_types 2 seen).spell all
unfolding named_types
named_types_alike seen all =
    ap (λ (t : List ℕ). (number 4).spell (length all) ++ t) (spelled_alike (each_named_type []) (each_named_type seen) (λ before x. named_type_alike _ _ x) [] all)
