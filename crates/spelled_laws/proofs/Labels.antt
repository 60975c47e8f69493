-- Fields, parameters and results: what their names ask, in words of plain fields and in their form.
use Rattle.std.proofs.Common.{◌≡◌, ℕ, ◌<◌, ◌≤◌, ◌⊎◌, inl, inr, Bool, true, false, List, [], ◌∷◌, ◌++◌, length, refl, sym, ap, subst, ◌∙◌, append_assoc, arith}
use Rattle.std.specs.Prelude.{not, map, Option, Some, None, is_some, if◌then◌else◌}
use Rattle.std.specs.List.{All}
use Rattle.std.proofs.lemmas.Bool.{le-leb, leb-true, not-true}
use Rattle.std.proofs.lemmas.List.{append-nil, length-map}
use Rattle.std.proofs.lemmas.List.Elements.{All-nil, All-cons, All-head, All-tail}
use Rattle.std.proofs.lemmas.List.Concat.{flat_map-append}
use Rattle.mesa_base.specs.Name.{IsName}
use Rattle.mesa_types.specs.declared.types.TypeTree.{TypeTree}
use Rattle.mesa_types.specs.declared.types.FieldType.{FieldType, out-FieldType}
use Rattle.interface_records.specs.Lists.{NoneTwice}
use Rattle.interface_records.specs.PlainTypes.{PlainField, plain_field}
use Rattle.interface_records.specs.Spelled.{EachHasName, NoneHasName, NamesCanBeSpelled, names_among, with_name}
use Rattle.file_forms.specs.Forms.{Form, FitEach}
use Rattle.file_forms.specs.Names.{short_text, is_among}
use Rattle.face_rules.specs.TypeForms.{label_list, labels, is_alike, label, field_form, fields_form}
use Rattle.spelled_laws.proofs.Names.{text_fits}
use Rattle.spelled_laws.proofs.Once.{Each, Fresh, fresh, together}
use Rattle.spelled_laws.proofs.Twins.{field_is}

abbrev name_in : FieldType → Option (List ℕ)
name_in f = (out-FieldType f).name

-- whether each field has a name, or none has
abbrev NamedSo : Bool → FieldType → Type 0
NamedSo b f = is_some (name_in f) ≡ b

-- so it is with the first, where there is one
BeginsSo : Bool → List FieldType → Type 0
BeginsSo b [] = Unit {0}
BeginsSo b (f ∷ fs) = NamedSo b f

begins_more : (b : Bool) (before : List FieldType) (f : FieldType) → BeginsSo b before → NamedSo b f → BeginsSo b (before ++ f ∷ [])
unfolding BeginsSo
begins_more b [] f h n = n
begins_more b (g ∷ before) f h n = h

labels_more : (before : List FieldType) (f : FieldType) → labels (before ++ f ∷ []) ≡ labels before ++ label_list (name_in f)
labels_more before f = flat_map-append (λ (g : FieldType). label_list (name_in g)) before (f ∷ []) ∙ ap (λ xs. labels before ++ xs) (append-nil (label_list (name_in f)))

-- ---- one name

some_label : (before : List FieldType) (x : List ℕ) → BeginsSo true before → IsName x → is_among (labels before) x ≡ false → (label before).fits (Some x)
unfolding label BeginsSo
some_label before [] b n e = absurd cc
some_label before (c ∷ x) b n e = (((text_fits (c ∷ x) n, alike before b), n), rw e refl)
  where
    alike : (before : List FieldType) → BeginsSo true before → is_alike before (c ∷ x) ≡ true
    alike [] b = refl
    alike (f ∷ before) b = rw b refl

no_label : (before : List FieldType) → BeginsSo false before → (label before).fits None
unfolding label short_text BeginsSo
no_label before b = ((((omega arith, (refl, λ i. omega arith)), alike before b), refl), refl)
  where
    alike : (before : List FieldType) → BeginsSo false before → is_alike before [] ≡ true
    alike [] b = refl
    alike (f ∷ before) b = rw b refl

one_label : (b : Bool) (before : List FieldType) (o : Option (List ℕ)) → BeginsSo b before → is_some o ≡ b → Each IsName (label_list o) → Fresh (labels before) (label_list o)
    → (label before).fits o
unfolding Each Fresh
one_label true before None begins so names new = absurd cc
one_label true before (Some x) begins so names new = some_label before x begins names.0 new.0
one_label false before None begins so names new = no_label before begins
one_label false before (Some x) begins so names new = absurd cc

alike_text : (c b t : Bool) → c ≡ b → (if c then t else not t) ≡ true → t ≡ b
alike_text true b t e h = h ∙ e
alike_text false b t e h = not-true t h ∙ e

record LabelOf (before : List FieldType) (o : Option (List ℕ)) : Type 0 where
  names : Each IsName (label_list o)
  new : Fresh (labels before) (label_list o)

label_is : (before : List FieldType) (o : Option (List ℕ)) → (label before).fits o → LabelOf before o
unfolding label Each Fresh
label_is before None h = record { names = tt; new = tt }
label_is before (Some []) h = absurd h
label_is before (Some (c ∷ x)) h = record { names = (h.0.1, tt); new = (not-true (is_among (labels before) (c ∷ x)) h.1, tt) }

label_so : (b : Bool) (f : FieldType) (before : List FieldType) (o : Option (List ℕ)) → NamedSo b f → (label (f ∷ before)).fits o → is_some o ≡ b
unfolding label
label_so b f before None so h = alike_text (is_some (name_in f)) b false so h.0.0.1
label_so b f before (Some []) so h = absurd h
label_so b f before (Some (c ∷ x)) so h = alike_text (is_some (name_in f)) b true so h.0.0.1

-- ---- lists

each_append : {A : Type 0} (P : A → Type 0) (xs ys : List A) → Each P (xs ++ ys) → Each P xs × Each P ys
unfolding Each
each_append P [] ys h = (tt, h)
each_append P (x ∷ xs) ys h = let m = each_append P xs ys h.1 in ((h.0, m.0), m.1)

append_each : {A : Type 0} (P : A → Type 0) (xs ys : List A) → Each P xs → Each P ys → Each P (xs ++ ys)
unfolding Each
append_each P [] ys h k = k
append_each P (x ∷ xs) ys h k = (h.0, append_each P xs ys h.1 k)

pub fresh_append : (seen xs ys : List (List ℕ)) → Fresh seen (xs ++ ys) → Fresh seen xs × Fresh (seen ++ xs) ys
unfolding Fresh
fresh_append seen [] ys h = (tt, subst (λ known. Fresh known ys) (sym (append-nil seen)) h)
fresh_append seen (x ∷ xs) ys h =
    let m = fresh_append (seen ++ x ∷ []) xs ys h.1 in
    ((h.0, m.0), subst (λ known. Fresh known ys) (append_assoc seen (x ∷ []) xs) m.1)

pub append_fresh : (seen xs ys : List (List ℕ)) → Fresh seen xs → Fresh (seen ++ xs) ys → Fresh seen (xs ++ ys)
unfolding Fresh
append_fresh seen [] ys h k = subst (λ known. Fresh known ys) (append-nil seen) k
append_fresh seen (x ∷ xs) ys h k = (h.0, append_fresh (seen ++ x ∷ []) xs ys h.1 (subst (λ known. Fresh known ys) (sym (append_assoc seen (x ∷ []) xs)) k))

module _ (inner : Form TypeTree) where
  abbrev pub KindFits : FieldType → Type 0
  KindFits f = inner.fits (out-FieldType f).kind

  labels_fit : (b : Bool) (before fs : List FieldType) → BeginsSo b before → Each (NamedSo b) fs → Each IsName (labels fs) → Fresh (labels before) (labels fs) → Each KindFits fs
      → FitEach (field_form inner) before fs
  unfolding FitEach Each field_form
  labels_fit b before [] begins so names new kinds = tt
  labels_fit b before (f ∷ fs) begins so names new kinds =
      let ns = each_append IsName (label_list (name_in f)) (labels fs) names in
      let fr = fresh_append (labels before) (label_list (name_in f)) (labels fs) new in (
        (one_label b before (name_in f) begins so.0 ns.0 fr.0, kinds.0),
        labels_fit b (before ++ f ∷ []) fs (begins_more b before f begins so.0) so.1 ns.1 (subst (λ known. Fresh known (labels fs)) (sym (labels_more before f)) fr.1) kinds.1,
      )

  record Found (b : Bool) (before fs : List FieldType) : Type 0 where
    so : Each (NamedSo b) fs
    names : Each IsName (labels fs)
    new : Fresh (labels before) (labels fs)
    kinds : Each KindFits fs

  found_one : (b : Bool) (before : List FieldType) (f : FieldType) (fs : List FieldType) → NamedSo b f → (field_form inner before).fits f → Found b (before ++ f ∷ []) fs → Found b before (f ∷ fs)
  unfolding Each field_form
  found_one b before f fs so h more =
      let one = label_is before (name_in f) h.0 in
      record {
        so = (so, more.so);
        names = append_each IsName (label_list (name_in f)) (labels fs) one.names more.names;
        new = append_fresh (labels before) (label_list (name_in f)) (labels fs) one.new (subst (λ known. Fresh known (labels fs)) (labels_more before f) more.new);
        kinds = (h.1, more.kinds);
      }

  found_behind : (b : Bool) (g : FieldType) (before fs : List FieldType) → NamedSo b g → FitEach (field_form inner) (g ∷ before) fs → Found b (g ∷ before) fs
  unfolding FitEach Each Fresh field_form
  found_behind b g before [] so h = record { so = tt; names = tt; new = tt; kinds = tt }
  found_behind b g before (f ∷ fs) so h = found_one b (g ∷ before) f fs (label_so b g before (name_in f) so h.0.0) h.0 (found_behind b g (before ++ f ∷ []) fs so h.1)

  found : (fs : List FieldType) → FitEach (field_form inner) [] fs → (b : Bool) × Found b [] fs
  unfolding FitEach Each Fresh
  found [] h = (true, record { so = tt; names = tt; new = tt; kinds = tt })
  found (f ∷ fs) h = (is_some (name_in f), found_one (is_some (name_in f)) [] f fs refl h.0 (found_behind (is_some (name_in f)) f [] fs refl h.1))

-- ---- in words of plain fields

name_same : (f : FieldType) → (plain_field f).name ≡ name_in f
name_same f = ap (λ (g : PlainField). g.name) (field_is f)

with_is : (o : Option (List ℕ)) (xs : List (List ℕ)) → with_name o xs ≡ label_list o ++ xs
with_is None xs = refl
with_is (Some x) xs = refl

among_is : (fs : List FieldType) → names_among (map plain_field fs) ≡ labels fs
among_is [] = refl
among_is (f ∷ fs) = ap (λ o. with_name o (names_among (map plain_field fs))) (name_same f) ∙ with_is (name_in f) (names_among (map plain_field fs))
    ∙ ap (λ xs. label_list (name_in f) ++ xs) (among_is fs)

all_named : (fs : List FieldType) → EachHasName (map plain_field fs) → Each (NamedSo true) fs
unfolding EachHasName Each
all_named [] h = tt
all_named (f ∷ fs) h = (sym (ap is_some (name_same f)) ∙ h.0, all_named fs h.1)

none_named : (fs : List FieldType) → NoneHasName (map plain_field fs) → Each (NamedSo false) fs
unfolding NoneHasName Each
none_named [] h = tt
none_named (f ∷ fs) h = (sym (ap is_some (name_same f)) ∙ h.0, none_named fs h.1)

named_all : (fs : List FieldType) → Each (NamedSo true) fs → EachHasName (map plain_field fs)
unfolding EachHasName Each
named_all [] h = tt
named_all (f ∷ fs) h = (ap is_some (name_same f) ∙ h.0, named_all fs h.1)

named_none : (fs : List FieldType) → Each (NamedSo false) fs → NoneHasName (map plain_field fs)
unfolding NoneHasName Each
named_none [] h = tt
named_none (f ∷ fs) h = (ap is_some (name_same f) ∙ h.0, named_none fs h.1)

alike : (b : Bool) (fs : List FieldType) → Each (NamedSo b) fs → EachHasName (map plain_field fs) ⊎ NoneHasName (map plain_field fs)
alike true fs h = inl (named_all fs h)
alike false fs h = inr (named_none fs h)

pub each_all : {A : Type 0} (P : A → Type 0) (xs : List A) → Each P xs → All P xs
unfolding Each
each_all P [] h = All-nil P
each_all P (x ∷ xs) h = All-cons P x xs h.0 (each_all P xs h.1)

pub all_each : {A : Type 0} (P : A → Type 0) (xs : List A) → All P xs → Each P xs
unfolding Each
all_each P [] h = tt
all_each P (x ∷ xs) h = (All-head P x xs h, all_each P xs (All-tail P x xs h))

pub nothing_twice : NoneTwice []
unfolding NoneTwice
nothing_twice = tt

module _ (inner : Form TypeTree) where
  either : (fs : List FieldType) → NamesCanBeSpelled (map plain_field fs) → Each (KindFits inner) fs → FitEach (field_form inner) [] fs
  unfolding BeginsSo
  either fs h kinds =
      let names = all_each IsName (labels fs) (subst (All IsName) (among_is fs) h.names) in
      let new = fresh [] (labels fs) (subst NoneTwice (among_is fs) h.distinct) in
      elim h.all [
        | inl a ↦ labels_fit inner true [] fs tt (all_named fs a) names new kinds
        | inr a ↦ labels_fit inner false [] fs tt (none_named fs a) names new kinds
      ]

  pub fields_form_fits : (least : ℕ) (fs : List FieldType) → Each (KindFits inner) fs → NamesCanBeSpelled (map plain_field fs) → least ≤ length fs → (fields_form inner least).fits fs
  unfolding fields_form
  fields_form_fits least fs kinds names many =
      let few : length (map plain_field fs) < 4294967296 = names.count in
      let less : length fs < 4294967296 = omega (arith, few, length-map fs plain_field) in
      ((less, le-leb least (length fs) many), (refl, either fs names kinds))

  pub fields_form_can : (least : ℕ) (fs : List FieldType) → (fields_form inner least).fits fs → Each (KindFits inner) fs × NamesCanBeSpelled (map plain_field fs) × (least ≤ length fs)
  unfolding fields_form
  fields_form_can least fs h =
      let p = found inner fs h.1.1 in
      let less : length fs < 4294967296 = h.0.0 in (
        p.1.kinds,
        record {
          count = omega (arith, less, length-map fs plain_field);
          all = alike p.0 fs p.1.so;
          names = subst (All IsName) (sym (among_is fs)) (each_all IsName (labels fs) p.1.names);
          distinct = subst NoneTwice (sym (among_is fs)) (together [] (labels fs) nothing_twice p.1.new);
        },
        leb-true least (length fs) h.0.1,
      )
