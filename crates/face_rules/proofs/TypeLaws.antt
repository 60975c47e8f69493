-- The laws of types in files.
use Rattle.std.proofs.Common.{◌≡◌, ℕ, zero, suc, ◌-◌, ◌<◌, ◌≤◌, Bool, true, false, List, [], ◌∷◌, ◌++◌, Option, Some, None, refl, sym, ap, subst, ◌∙◌, arith}
use Rattle.std.specs.Prelude.{◌≢◌, ◌&&◌, ◌==◌, if◌then◌else◌, nat_le}
use Rattle.std.proofs.lemmas.List.{append-nil}
use Rattle.std.proofs.lemmas.List.Concat.{flat_map-append}
use Rattle.std.proofs.lemmas.Bool.Decides.{nat_tests}
use Rattle.mesa_base.specs.declared.limits.TheConstants.{ENUMERATION_ELEMENTS}
use Rattle.mesa_types.specs.declared.types.Origin.{Origin}
use Rattle.mesa_types.specs.declared.types.TypeTree.{TypeTree, out-TypeTree}
use Rattle.mesa_types.specs.declared.types.TypeTree.TheVariants as v
use Rattle.mesa_types.specs.declared.types.FieldType.{FieldType, out-FieldType, roll-out-FieldType, out-roll-FieldType}
use Rattle.mesa_base.specs.declared.file_fault.Field.TheVariants as field
use Rattle.file_forms.specs.Forms.{Form, number, always, pair, led, ruled, list, choose, at_least, between}
use Rattle.file_forms.specs.Names.{short_text, name, fresh_name}
use Rattle.file_forms.specs.Seen.{Shows}
use Rattle.file_forms.specs.declared.seen.Seen.{Seen}
use Rattle.file_forms.specs.Lawful.{Lawful}
use Rattle.file_forms.proofs.Fields.{number_law, always_law}
use Rattle.file_forms.proofs.Pairs.{pair_law, led_law}
use Rattle.file_forms.proofs.Made.{ruled_law, built_law, variant_law, choose_law}
use Rattle.file_forms.proofs.Lists.{list_law}
use Rattle.file_forms.proofs.NameLaws.{short_text_law, name_law, fresh_name_law}
use Rattle.face_rules.specs.Layers.{tag_of, of_enumeration, of_subrange, of_array, of_record, holds, in_order}
use Rattle.face_rules.specs.TypeForms.{any, last_tag, is_known, is_base, is_index, basic, origin_of, origin_at, origin_parts, origin, label_of, label_text, label_list, labels, is_alike, is_label, is_new, label, field_of, field_parts, field_form, fields_form, enumeration, bounds, subrange, array, record_of, tagged, is_small, tag, typed, too_deep, type_form, types, fields}
use Rattle.face_rules.proofs.LayerLaws.{basic_tag, enumeration_tag, subrange_tag, array_tag, record_tag, enumeration_forth, subrange_forth, array_forth, record_forth, enumeration_back, subrange_back, array_back, record_back}

-- ---- origins

origin_forth_at : (o : Origin) (s : Option ℕ) → o.stamp ≡ s → (p : List ℕ × (ℕ × ℕ)) → origin_at o.«module» o.number s ≡ Some p → o ≡ origin_of p
origin_forth_at o None is p e = absurd cc
origin_forth_at o (Some stamp) is p e =
    let same : (o.«module», (stamp, o.number)) ≡ p = cc in
    ap (λ s. record o { stamp = s }) is ∙ ap origin_of same

origin_forth : (o : Origin) (p : List ℕ × (ℕ × ℕ)) → origin_parts o ≡ Some p → o ≡ origin_of p
origin_forth o p e = origin_forth_at o o.stamp refl p e

pub origin_law : Lawful origin
unfolding origin
origin_law =
    variant_law origin_of (pair name (λ _. pair (number 6) (λ _. number 4)))
    (pair_law name (λ _. pair (number 6) (λ _. number 4)) name_law (λ _ _. pair_law (number 6) (λ _. number 4) (number_law 6) (λ _ _. number_law 4)))
    origin_parts (λ p fits. refl) origin_forth

-- ---- fields

label_back : (x : List ℕ) → label_text (label_of x) ≡ Some x
label_back [] = refl
label_back (b ∷ bytes) = refl

label_forth : (o : Option (List ℕ)) (x : List ℕ) → label_text o ≡ Some x → o ≡ label_of x
label_forth None x e = let same : [] ≡ x = cc in ap label_of same
label_forth (Some []) x e = absurd cc
label_forth (Some (b ∷ bytes)) x e = let same : b ∷ bytes ≡ x = cc in ap label_of same

pub label_law : (before : List FieldType) → Lawful (label before)
unfolding label
label_law before =
    variant_law label_of
    (ruled (ruled (ruled short_text (is_alike before) field.Length) is_label field.Name) (is_new before) field.Twice)
    (ruled_law (ruled (ruled short_text (is_alike before) field.Length) is_label field.Name) (is_new before) field.Twice
    (ruled_law (ruled short_text (is_alike before) field.Length) is_label field.Name
    (ruled_law short_text (is_alike before) field.Length short_text_law)))
    label_text (λ x fits. label_back x) label_forth

field_back : (p : Option (List ℕ) × TypeTree) → field_parts (field_of p) ≡ p
field_back p = ap (λ f. (f.name, f.kind)) (out-roll-FieldType (record { name = p.0; kind = p.1 }))

pub field_law : (inner : Form TypeTree) → Lawful inner → (before : List FieldType) → Lawful (field_form inner before)
unfolding field_form
field_law inner law before =
    built_law field_of (pair (label before) (λ _. inner)) (pair_law (label before) (λ _. inner) (label_law before) (λ _ _. law))
    field_parts (λ p fits. field_back p) (λ f. roll-out-FieldType f)

pub fields_form_law : (inner : Form TypeTree) → Lawful inner → (least : ℕ) → Lawful (fields_form inner least)
unfolding fields_form
fields_form_law inner law least = list_law (field_form inner) (field_law inner law) (at_least least)

-- ---- types

enumeration_law : Lawful enumeration
unfolding enumeration
enumeration_law =
    variant_law (λ p. v.Enumeration p.0 p.1) (pair origin (λ _. list (between 1 ENUMERATION_ELEMENTS) fresh_name))
    (pair_law origin (λ _. list (between 1 ENUMERATION_ELEMENTS) fresh_name) origin_law (λ _ _. list_law fresh_name fresh_name_law (between 1 ENUMERATION_ELEMENTS)))
    (λ t. of_enumeration (out-TypeTree t)) (λ p fits. enumeration_back p) enumeration_forth

bounds_law : (base : TypeTree) → Lawful (bounds base)
unfolding bounds
bounds_law base =
    pair_law (ruled (number 2) (holds base) field.Number) (λ first. ruled (number 2) (λ last. holds base last && in_order base first last) field.Number)
    (ruled_law (number 2) (holds base) field.Number (number_law 2))
    (λ first fits. ruled_law (number 2) (λ last. holds base last && in_order base first last) field.Number (number_law 2))

module _ (inner : (ℕ → Bool) → Form TypeTree) (laws : (allowed : ℕ → Bool) → Lawful (inner allowed)) where
  subrange_law : Lawful (subrange inner)
  unfolding subrange
  subrange_law =
      variant_law (λ p. v.Subrange p.0 p.1.0 p.1.1) (pair (inner is_base) bounds) (pair_law (inner is_base) bounds (laws is_base) (λ base fits. bounds_law base))
      (λ t. of_subrange (out-TypeTree t)) (λ p fits. subrange_back p) subrange_forth

  array_law : Lawful (array inner)
  unfolding array
  array_law =
      variant_law (λ p. v.Array p.0 p.1) (pair (inner is_index) (λ _. inner any)) (pair_law (inner is_index) (λ _. inner any) (laws is_index) (λ _ _. laws any))
      (λ t. of_array (out-TypeTree t)) (λ p fits. array_back p) array_forth

  record_law : Lawful (record_of inner)
  unfolding record_of
  record_law =
      variant_law (λ p. v.Record p.0 p.1) (pair origin (λ _. fields_form (inner any) 1)) (pair_law origin (λ _. fields_form (inner any) 1) origin_law (λ _ _. fields_form_law (inner any) (laws any) 1))
      (λ t. of_record (out-TypeTree t)) (λ p fits. record_back p) record_forth

  tagged_law : (tag : ℕ) → Lawful (tagged inner tag)
  unfolding tagged
  tagged_law tag =
      choose_law (tag == 6) enumeration _ (λ _. enumeration_law) (λ _.
      choose_law (tag == 7) (subrange inner) _ (λ _. subrange_law) (λ _.
      choose_law (tag == 8) (array inner) _ (λ _. array_law) (λ _.
      choose_law (tag == 9) (record_of inner) (always (basic tag)) (λ _. record_law) (λ _. always_law (basic tag)))))

  -- ---- a value has the tag of its form

  by_test : {P : Type 0} (b : Bool) (f g : Form TypeTree) (t : TypeTree) → (choose b f g).fits t → (b ≡ true → f.fits t → P) → (b ≡ false → g.fits t → P) → P
  by_test true f g t fits first second = first refl fits
  by_test false f g t fits first second = second refl fits

  same_number : (m n : ℕ) → (m == n) ≡ true → n ≡ m
  same_number m n e = grind (arith, nat_tests)

  other_number : (m n : ℕ) → (m == n) ≡ false → m ≢ n
  other_number m n e = grind (arith, nat_tests)

  tag_told : (tag : ℕ) (t : TypeTree) → 1 ≤ tag → tag ≤ 11 → (tagged inner tag).fits t → tag_of t ≡ tag
  unfolding tagged tag_of enumeration subrange array record_of
  tag_told tag t many few fits =
      by_test (tag == 6) enumeration _ t fits (λ e h. enumeration_tag _ (out-TypeTree t) h ∙ same_number tag 6 e) (λ six h.
      by_test (tag == 7) (subrange inner) _ t h (λ e h. subrange_tag _ (out-TypeTree t) h ∙ same_number tag 7 e) (λ seven h.
      by_test (tag == 8) (array inner) _ t h (λ e h. array_tag _ (out-TypeTree t) h ∙ same_number tag 8 e) (λ eight h.
      by_test (tag == 9) (record_of inner) (always (basic tag)) t h (λ e h. record_tag _ (out-TypeTree t) h ∙ same_number tag 9 e) (λ nine h.
      ap tag_of h
      ∙ basic_tag tag many few (other_number tag 6 six) (other_number tag 7 seven) (other_number tag 8 eight) (other_number tag 9 nine)))))

and_first : (a b : Bool) → a && b ≡ true → a ≡ true
and_first true b e = refl
and_first false b e = e

at_least_one : (last tag : ℕ) → nat_le 1 tag && nat_le tag last ≡ true → 1 ≤ tag
at_least_one last tag e = grind (arith, nat_tests)

known_low : (version tag : ℕ) → is_known version tag ≡ true → 1 ≤ tag
known_low version tag e = at_least_one (last_tag version) tag e

last_few : (version : ℕ) → last_tag version ≤ 11
last_few version = by (version == 1)
  where
    by : (b : Bool) → (if b then 9 else 11) ≤ 11
    by true = omega arith
    by false = omega arith

at_most_last : (last tag : ℕ) → nat_le 1 tag && nat_le tag last ≡ true → last ≤ 11 → tag ≤ 11
at_most_last last tag e few = grind (arith, nat_tests)

known_high : (version tag : ℕ) → is_known version tag ≡ true → tag ≤ 11
known_high version tag e = at_most_last (last_tag version) tag e (last_few version)

tag_law : (version : ℕ) (allowed : ℕ → Bool) → Lawful (tag version allowed)
unfolding tag
tag_law version allowed = ruled_law (number 1) (λ n. is_known version n && allowed n) field.TypeTag (number_law 1)

too_deep_law : Lawful too_deep
unfolding too_deep
too_deep_law = led_law tag_of (ruled (number 1) (λ n. false) field.TypeTag) (λ n. always (basic n)) (ruled_law (number 1) (λ n. false) field.TypeTag (number_law 1)) (λ n fits. always_law (basic n)) (λ n t fits is. absurd cc)

typed_law : (version : ℕ) (inner : (ℕ → Bool) → Form TypeTree) → ((allowed : ℕ → Bool) → Lawful (inner allowed)) → (allowed : ℕ → Bool) → Lawful (typed version inner allowed)
unfolding typed tag
typed_law version inner laws allowed =
    ruled_law (led tag_of (tag version allowed) (tagged inner)) is_small field.TypeTag
    (led_law tag_of (tag version allowed) (tagged inner) (tag_law version allowed)
    (λ n fits. tagged_law inner laws n)
    (λ n t fits there.
    let known = and_first (is_known version n) (allowed n) fits.1 in
    tag_told inner laws n t (known_low version n known) (known_high version n known) there))

pub type_law : (version levels : ℕ) (allowed : ℕ → Bool) → Lawful (type_form version levels allowed)
unfolding type_form
type_law version zero allowed = too_deep_law
type_law version (suc levels) allowed = typed_law version (type_form version levels) (type_law version levels) allowed

-- where another type may stand inside
pub inside : (version levels : ℕ) (allowed : ℕ → Bool) → 0 < levels → type_form version levels allowed ≡ typed version (type_form version (levels - 1)) allowed
unfolding type_form
inside version zero allowed some = absurd (omega (arith, some))
inside version (suc levels) allowed some = ap (λ n. typed version (type_form version n) allowed) (let same : levels ≡ suc levels - 1 = omega arith in same)

pub outside : (version levels : ℕ) (allowed : ℕ → Bool) → levels ≡ 0 → type_form version levels allowed ≡ too_deep
unfolding type_form
outside version levels allowed none = rw none refl

pub fields_law : (version : ℕ) → Lawful (fields version)
fields_law version = fields_form_law (types version any) (type_law version _ any) 0

-- ---- the names of fields, one field more

labels-append : (before : List FieldType) (f : FieldType) → labels (before ++ f ∷ []) ≡ labels before ++ label_list (out-FieldType f).name
labels-append before f = flat_map-append (λ f. label_list (out-FieldType f).name) before (f ∷ []) ∙ ap (λ (xs : List (List ℕ)). labels before ++ xs) (append-nil (label_list (out-FieldType f).name))

pub labels-named : (before : List FieldType) (f : FieldType) (x : List ℕ) → (out-FieldType f).name ≡ Some x → labels (before ++ f ∷ []) ≡ labels before ++ x ∷ []
labels-named before f x e = labels-append before f ∙ ap (λ o. labels before ++ label_list o) e

pub labels-unnamed : (before : List FieldType) (f : FieldType) → (out-FieldType f).name ≡ None → labels (before ++ f ∷ []) ≡ labels before
labels-unnamed before f e = labels-append before f ∙ ap (λ o. labels before ++ label_list o) e ∙ append-nil (labels before)

pub shows_named : (seen : Seen) (before : List FieldType) (f : FieldType) (x : List ℕ) → (out-FieldType f).name ≡ Some x → Shows seen (labels before ++ x ∷ []) → Shows seen (labels (before ++ f ∷ []))
shows_named seen before f x e shown = subst (Shows seen) (sym (labels-named before f x e)) shown

pub shows_unnamed : (seen : Seen) (before : List FieldType) (f : FieldType) → (out-FieldType f).name ≡ None → Shows seen (labels before) → Shows seen (labels (before ++ f ∷ []))
shows_unnamed seen before f e shown = subst (Shows seen) (sym (labels-unnamed before f e)) shown
