-- What a writer needs: the parts of what fits do, and the spelling is that of the parts.
use Rattle.std.proofs.Common.{◌≡◌, ℕ, zero, suc, ◌+◌, ◌<◌, Bool, List, [], ◌∷◌, ◌++◌, length, take, get_or, add-one, Option, Some, refl, sym, ap, subst, ◌∙◌, append_assoc, arith}
use Rattle.std.specs.Prelude.{IsSomeAnd}
use Rattle.std.proofs.lemmas.List.{append-nil}
use Rattle.std.proofs.Math.Seq.{take-suc}
use Rattle.mesa_types.specs.declared.types.Origin.{Origin}
use Rattle.mesa_types.specs.declared.types.TypeTree.{TypeTree, out-TypeTree}
use Rattle.mesa_types.specs.declared.types.TypeTree.TheVariants as v
use Rattle.mesa_types.specs.declared.types.TypeTree.TheOpen.{TypeTree-F}
use Rattle.mesa_types.specs.declared.types.FieldType.{FieldType, out-FieldType}
use Rattle.file_forms.specs.Forms.{Form, pair, list, spell_some, FitEach, spell_each, between}
use Rattle.file_forms.specs.Names.{fresh_name}
use Rattle.mesa_base.specs.declared.limits.TheConstants.{ENUMERATION_ELEMENTS}
use Rattle.face_rules.specs.Layers.{tag_of, of_enumeration, of_subrange, of_array, of_record}
use Rattle.face_rules.specs.TypeForms.{any, is_base, is_index, origin, label, field_form, fields_form, enumeration, bounds, subrange, array, record_of, tagged, too_deep, type_form}
use Rattle.face_rules.proofs.LayerLaws.{tag_at, enumeration_back, subrange_back, array_back, record_back}

-- ---- lists

module _ {A : Type 0} (each : List A → Form A) where
  pub spell-append : (before xs ys : List A) → spell_each each before (xs ++ ys) ≡ spell_each each before xs ++ spell_each each (before ++ xs) ys
  unfolding spell_each
  spell-append before [] ys = ap (λ (b : List A). spell_each each b ys) (sym (append-nil before))
  spell-append before (x ∷ xs) ys =
      ap (λ (t : List ℕ). (each before).spell x ++ t) (spell-append (before ++ x ∷ []) xs ys ∙ ap (λ (b : List A). spell_each each (before ++ x ∷ []) xs ++ spell_each each b ys) (append_assoc before (x ∷ []) xs))
      ∙ sym (append_assoc ((each before).spell x) (spell_each each (before ++ x ∷ []) xs) (spell_each each (before ++ x ∷ xs) ys))

  spell-one : (before : List A) (x : A) → spell_each each before (x ∷ []) ≡ (each before).spell x
  unfolding spell_each
  spell-one before x = append-nil ((each before).spell x)

  pub spell-push : (xs : List A) (x : A) → spell_each each [] (xs ++ x ∷ []) ≡ spell_each each [] xs ++ (each xs).spell x
  spell-push xs x = spell-append [] xs (x ∷ []) ∙ ap (λ (t : List ℕ). spell_each each [] xs ++ t) (spell-one xs x)

  pub fits-at : (before all : List A) (i : ℕ) (d : A) → FitEach each before all → i < length all → (each (before ++ take i all)).fits (get_or all i d)
  unfolding FitEach
  fits-at before [] i d fits less = absurd (omega (arith, less))
  fits-at before (x ∷ all) zero d fits less = subst (λ (b : List A). (each b).fits x) (sym (append-nil before)) fits.0
  fits-at before (x ∷ all) (suc i) d fits less =
      subst (λ (b : List A). (each b).fits (get_or all i d)) (append_assoc before (x ∷ []) (take i all)) (fits-at (before ++ x ∷ []) all i d fits.1 (omega (arith, less)))

  take-more : (all : List A) (i : ℕ) (d : A) → i < length all → take (i + 1) all ≡ take i all ++ get_or all i d ∷ []
  take-more all i d less = rw add-one (take-suc all i d less)

  pub spell-none : (start : List ℕ) (all : List A) → start ≡ start ++ spell_each each [] (take 0 all)
  unfolding spell_each
  spell-none start all = sym (append-nil start)

  pub spell-more : (start out new : List ℕ) (all : List A) (i : ℕ) (d : A) → i < length all → out ≡ start ++ spell_each each [] (take i all)
      → new ≡ out ++ (each (take i all)).spell (get_or all i d) → new ≡ start ++ spell_each each [] (take (i + 1) all)
  spell-more start out new all i d less so more =
      more ∙ ap (λ (o : List ℕ). o ++ (each (take i all)).spell (get_or all i d)) so ∙ append_assoc start (spell_each each [] (take i all)) ((each (take i all)).spell (get_or all i d))
      ∙ ap (λ (t : List ℕ). start ++ t) (sym (spell-push (take i all) (get_or all i d)) ∙ ap (λ xs. spell_each each [] xs) (sym (take-more all i d less)))

-- ---- variants

module _ (inner : (ℕ → Bool) → Form TypeTree) where
  six : (n : ℕ) → n ≡ 6 → tagged inner n ≡ enumeration
  unfolding tagged
  six n e = rw e refl

  seven : (n : ℕ) → n ≡ 7 → tagged inner n ≡ subrange inner
  unfolding tagged
  seven n e = rw e refl

  eight : (n : ℕ) → n ≡ 8 → tagged inner n ≡ array inner
  unfolding tagged
  eight n e = rw e refl

  nine : (n : ℕ) → n ≡ 9 → tagged inner n ≡ record_of inner
  unfolding tagged
  nine n e = rw e refl

  some_fits : {A : Type 0} (P : A → Type 0) (o : Option A) (a : A) → o ≡ Some a → IsSomeAnd o P → P a
  some_fits P o a is h = let at : IsSomeAnd (Some a) P = subst (λ o. IsSomeAnd o P) is h in at

  pub array_fits : (i e : TypeTree) → (tagged inner (tag_of (v.Array i e))).fits (v.Array i e) → (inner is_index).fits i × (inner any).fits e
  unfolding array
  array_fits i e h =
      let t = v.Array i e in
      let h2 : (array inner).fits t = subst (λ (f : Form TypeTree). f.fits t) (eight (tag_of t) (tag_at (TypeTree-F.Array i e) t (v.rolls-Array i e))) h in
      some_fits (pair (inner is_index) (λ _. inner any)).fits (of_array (out-TypeTree t)) (i, e) (array_back (i, e)) h2

  pub array_spells : (i e : TypeTree) → (tagged inner (tag_of (v.Array i e))).spell (v.Array i e) ≡ (inner is_index).spell i ++ (inner any).spell e
  unfolding array
  array_spells i e =
      let t = v.Array i e in
      ap (λ (f : Form TypeTree). f.spell t) (eight (tag_of t) (tag_at (TypeTree-F.Array i e) t (v.rolls-Array i e)))
      ∙ ap (spell_some (pair (inner is_index) (λ _. inner any))) (array_back (i, e))

  pub subrange_fits : (b : TypeTree) (m n : ℕ) → (tagged inner (tag_of (v.Subrange b m n))).fits (v.Subrange b m n) → (inner is_base).fits b × (bounds b).fits (m, n)
  unfolding subrange
  subrange_fits b m n h =
      let t = v.Subrange b m n in
      let h2 : (subrange inner).fits t = subst (λ (f : Form TypeTree). f.fits t) (seven (tag_of t) (tag_at (TypeTree-F.Subrange b m n) t (v.rolls-Subrange b m n))) h in
      some_fits (pair (inner is_base) bounds).fits (of_subrange (out-TypeTree t)) (b, (m, n)) (subrange_back (b, (m, n))) h2

  pub subrange_spells : (b : TypeTree) (m n : ℕ) → (tagged inner (tag_of (v.Subrange b m n))).spell (v.Subrange b m n) ≡ (inner is_base).spell b ++ (bounds b).spell (m, n)
  unfolding subrange
  subrange_spells b m n =
      let t = v.Subrange b m n in
      ap (λ (f : Form TypeTree). f.spell t) (seven (tag_of t) (tag_at (TypeTree-F.Subrange b m n) t (v.rolls-Subrange b m n)))
      ∙ ap (spell_some (pair (inner is_base) bounds)) (subrange_back (b, (m, n)))

  pub record_fits : (o : Origin) (fs : List FieldType) → (tagged inner (tag_of (v.Record o fs))).fits (v.Record o fs) → origin.fits o × (fields_form (inner any) 1).fits fs
  unfolding record_of
  record_fits o fs h =
      let t = v.Record o fs in
      let h2 : (record_of inner).fits t = subst (λ (f : Form TypeTree). f.fits t) (nine (tag_of t) (tag_at (TypeTree-F.Record o fs) t (v.rolls-Record o fs))) h in
      some_fits (pair origin (λ _. fields_form (inner any) 1)).fits (of_record (out-TypeTree t)) (o, fs) (record_back (o, fs)) h2

  pub record_spells : (o : Origin) (fs : List FieldType) → (tagged inner (tag_of (v.Record o fs))).spell (v.Record o fs) ≡ origin.spell o ++ (fields_form (inner any) 1).spell fs
  unfolding record_of
  record_spells o fs =
      let t = v.Record o fs in
      ap (λ (f : Form TypeTree). f.spell t) (nine (tag_of t) (tag_at (TypeTree-F.Record o fs) t (v.rolls-Record o fs)))
      ∙ ap (spell_some (pair origin (λ _. fields_form (inner any) 1))) (record_back (o, fs))

  pub enumeration_fits : (o : Origin) (xs : List (List ℕ)) → (tagged inner (tag_of (v.Enumeration o xs))).fits (v.Enumeration o xs) → origin.fits o × (list (between 1 ENUMERATION_ELEMENTS) fresh_name).fits xs
  unfolding enumeration
  enumeration_fits o xs h =
      let t = v.Enumeration o xs in
      let h2 : enumeration.fits t = subst (λ (f : Form TypeTree). f.fits t) (six (tag_of t) (tag_at (TypeTree-F.Enumeration o xs) t (v.rolls-Enumeration o xs))) h in
      some_fits (pair origin (λ _. list (between 1 ENUMERATION_ELEMENTS) fresh_name)).fits (of_enumeration (out-TypeTree t)) (o, xs) (enumeration_back (o, xs)) h2

  pub enumeration_spells : (o : Origin) (xs : List (List ℕ)) → (tagged inner (tag_of (v.Enumeration o xs))).spell (v.Enumeration o xs) ≡ origin.spell o ++ (list (between 1 ENUMERATION_ELEMENTS) fresh_name).spell xs
  unfolding enumeration
  enumeration_spells o xs =
      let t = v.Enumeration o xs in
      ap (λ (f : Form TypeTree). f.spell t) (six (tag_of t) (tag_at (TypeTree-F.Enumeration o xs) t (v.rolls-Enumeration o xs)))
      ∙ ap (spell_some (pair origin (λ _. list (between 1 ENUMERATION_ELEMENTS) fresh_name))) (enumeration_back (o, xs))

  low_spells : (n : ℕ) (t : TypeTree) → n < 6 → (tagged inner n).spell t ≡ []
  unfolding tagged
  low_spells zero t few = refl
  low_spells (suc zero) t few = refl
  low_spells (suc (suc zero)) t few = refl
  low_spells (suc (suc (suc zero))) t few = refl
  low_spells (suc (suc (suc (suc zero)))) t few = refl
  low_spells (suc (suc (suc (suc (suc zero))))) t few = refl
  low_spells (suc (suc (suc (suc (suc (suc n)))))) t few = absurd (omega (arith, few))

  basic_spells : (n : ℕ) (t : TypeTree) → tag_of t ≡ n → n < 6 → (tagged inner (tag_of t)).spell t ≡ []
  basic_spells n t is few = ap (λ (k : ℕ). (tagged inner k).spell t) is ∙ low_spells n t few

  pub integer_spells : (tagged inner (tag_of v.Integer)).spell v.Integer ≡ []
  integer_spells = basic_spells 1 v.Integer (tag_at TypeTree-F.Integer v.Integer v.rolls-Integer) (omega arith)

  pub cardinal_spells : (tagged inner (tag_of v.Cardinal)).spell v.Cardinal ≡ []
  cardinal_spells = basic_spells 2 v.Cardinal (tag_at TypeTree-F.Cardinal v.Cardinal v.rolls-Cardinal) (omega arith)

  pub boolean_spells : (tagged inner (tag_of v.Boolean)).spell v.Boolean ≡ []
  boolean_spells = basic_spells 3 v.Boolean (tag_at TypeTree-F.Boolean v.Boolean v.rolls-Boolean) (omega arith)

  pub character_spells : (tagged inner (tag_of v.Character)).spell v.Character ≡ []
  character_spells = basic_spells 4 v.Character (tag_at TypeTree-F.Character v.Character v.rolls-Character) (omega arith)

  pub string_spells : (tagged inner (tag_of v.String)).spell v.String ≡ []
  string_spells = basic_spells 5 v.String (tag_at TypeTree-F.String v.String v.rolls-String) (omega arith)

  long_integer_spells : (tagged inner 10).spell v.LongInteger ≡ []
  unfolding tagged
  long_integer_spells = refl

  long_cardinal_spells : (tagged inner 11).spell v.LongCardinal ≡ []
  unfolding tagged
  long_cardinal_spells = refl

  pub long_integer_spelled : (tagged inner (tag_of v.LongInteger)).spell v.LongInteger ≡ []
  long_integer_spelled = ap (λ (k : ℕ). (tagged inner k).spell v.LongInteger) (tag_at TypeTree-F.LongInteger v.LongInteger v.rolls-LongInteger) ∙ long_integer_spells

  pub long_cardinal_spelled : (tagged inner (tag_of v.LongCardinal)).spell v.LongCardinal ≡ []
  long_cardinal_spelled = ap (λ (k : ℕ). (tagged inner k).spell v.LongCardinal) (tag_at TypeTree-F.LongCardinal v.LongCardinal v.rolls-LongCardinal) ∙ long_cardinal_spells

-- ---- the whole type

pub deep_fits : (version levels : ℕ) (allowed : ℕ → Bool) (t : TypeTree) → levels ≡ 0 → (type_form version levels allowed).fits t → ⊥
unfolding type_form too_deep
deep_fits version zero allowed t none h = let e = h.0.1 in absurd cc
deep_fits version (suc levels) allowed t none h = absurd (omega (arith, none))

pub tag_fits : (tag : ℕ) (t : TypeTree) → tag_of t ≡ tag → tag_of t < 256 → tag < 256
tag_fits tag t e h = omega (arith, e, h)

pub none_spells : (out text : List ℕ) → text ≡ [] → out ≡ out ++ text
none_spells out text e = sym (ap (λ (t : List ℕ). out ++ t) e ∙ append-nil out)

-- ---- fields

pub field_at : (inner : Form TypeTree) (all : List FieldType) (i : ℕ) (f : FieldType) → FitEach (field_form inner) [] all → i < length all → f ≡ get_or all i f
    → (label (take i all)).fits (out-FieldType f).name × inner.fits (out-FieldType f).kind
unfolding field_form
field_at inner all i f fits less is =
    let h : (field_form inner (take i all)).fits f = subst (λ g. (field_form inner (take i all)).fits g) (sym is) (fits-at (field_form inner) [] all i f fits less) in h

pub field_more : (inner : Form TypeTree) (start out mid new : List ℕ) (all : List FieldType) (i : ℕ) (f : FieldType) → i < length all → f ≡ get_or all i f
    → out ≡ start ++ spell_each (field_form inner) [] (take i all) → mid ≡ out ++ (label []).spell (out-FieldType f).name → new ≡ mid ++ inner.spell (out-FieldType f).kind
    → new ≡ start ++ spell_each (field_form inner) [] (take (i + 1) all)
unfolding field_form label
field_more inner start out mid new all i f less is so mid-is more =
    spell-more (field_form inner) start out new all i f less so
    (subst (λ g. new ≡ out ++ (field_form inner (take i all)).spell g) is
    (more ∙ ap (λ (o : List ℕ). o ++ inner.spell (out-FieldType f).kind) mid-is ∙ append_assoc out ((label []).spell (out-FieldType f).name) (inner.spell (out-FieldType f).kind)))
