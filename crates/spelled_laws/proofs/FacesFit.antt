-- Fields, items and faces that can be spelled are those that their forms fit.
use Rattle.std.proofs.Common.{◌≡◌, ℕ, ◌<◌, false, List, [], ◌∷◌, ◌++◌, length, inl, refl, sym, ap, subst, arith}
use Rattle.std.specs.Prelude.{map}
use Rattle.std.proofs.lemmas.Bool.{le-leb}
use Rattle.std.proofs.lemmas.List.{length-map, map-append}
use Rattle.std.proofs.lemmas.List.Elements.{All-nil}
use Rattle.mesa_base.specs.Name.{IsName}
use Rattle.mesa_types.specs.declared.types.FieldType.{FieldType, out-FieldType}
use Rattle.mesa_types.specs.declared.faces.ItemKind.{ItemKind}
use Rattle.mesa_types.specs.declared.faces.ItemKind.TheVariants.{Procedure, Signal, Error}
use Rattle.mesa_types.specs.declared.faces.Item.{Item}
use Rattle.mesa_types.specs.declared.faces.Face.{Face}
use Rattle.interface_records.specs.Lists.{NoneTwice}
use Rattle.interface_records.specs.PlainTypes.{PlainField, PlainItem, plain, plain_field, plain_item}
use Rattle.interface_records.specs.Spelled.{TypeCanBeSpelled, FieldsCanBeSpelled, EachHasName, NamesCanBeSpelled, ItemCanBeSpelled, ItemsCanBeSpelled, FaceCanBeSpelled, names_of_items}
use Rattle.file_forms.specs.Forms.{Form}
use Rattle.file_forms.specs.Names.{is_among, name, fresh_name}
use Rattle.face_rules.specs.TypeForms.{any, is_of_constants, types, fields}
use Rattle.face_rules.specs.FaceForms.{item_kind, gives, item_named, item_names, items, face}
use Rattle.spelled_laws.specs.Laws.{TypesFit, ConstantTypesFit, FieldsFit, ItemsFit, FacesFit}
use Rattle.spelled_laws.proofs.Names.{name_fits, name_is, fresh_fits, fresh_is}
use Rattle.spelled_laws.proofs.Once.{Each, fresh, together, each_fits, each_fine, map-map}
use Rattle.spelled_laws.proofs.Twins.{field_is}
use Rattle.spelled_laws.proofs.Labels.{KindFits, fields_form_fits, fields_form_can, nothing_twice}
use Rattle.spelled_laws.proofs.Measures.{constant_tag, tag_constant}
use Rattle.spelled_laws.proofs.TypesFit.{plain_type_fits, plain_type_can}

pub types_fit : TypesFit
types_fit t = (λ h. plain_type_fits any t h refl, λ h. (plain_type_can any t h).0)

pub constant_types_fit : ConstantTypesFit
constant_types_fit t = (
  λ h. plain_type_fits is_of_constants t h.0 (constant_tag (plain t) h.1),
  λ h. let c = plain_type_can is_of_constants t h in (c.0, tag_constant (plain t) c.0 c.1),
)

-- ---- fields

kind_same : (f : FieldType) → (plain_field f).kind ≡ plain (out-FieldType f).kind
kind_same f = ap (λ (g : PlainField). g.kind) (field_is f)

kinds_fit : (fs : List FieldType) → FieldsCanBeSpelled (map plain_field fs) → Each (KindFits (types 2 any)) fs
unfolding FieldsCanBeSpelled Each
kinds_fit [] h = tt
kinds_fit (f ∷ fs) h = ((types_fit (out-FieldType f).kind).0 (subst TypeCanBeSpelled (kind_same f) h.0), kinds_fit fs h.1)

kinds_can : (fs : List FieldType) → Each (KindFits (types 2 any)) fs → FieldsCanBeSpelled (map plain_field fs)
unfolding FieldsCanBeSpelled Each
kinds_can [] h = tt
kinds_can (f ∷ fs) h = (subst TypeCanBeSpelled (sym (kind_same f)) ((types_fit (out-FieldType f).kind).1 h.0), kinds_can fs h.1)

pub fields_fit : FieldsFit
fields_fit fs = (
  λ h. fields_form_fits (types 2 any) 0 fs (kinds_fit fs h.0) h.1 (omega arith),
  λ h. let c = fields_form_can (types 2 any) 0 fs h in (kinds_can fs c.0, c.1),
)

-- ---- items

record Gives (kind : ItemKind) (gs : List FieldType) : Type 0 where
  spelled : FieldsCanBeSpelled (map plain_field gs)
  names : NamesCanBeSpelled (map plain_field gs)
  error : kind ≡ Error → map plain_field gs ≡ []

none_mapped : (fs : List FieldType) → map plain_field fs ≡ [] → fs ≡ []
none_mapped [] e = refl
none_mapped (f ∷ fs) e = absurd cc

gives_fit : (kind : ItemKind) (gs : List FieldType) → Gives kind gs → (gives 2 kind).fits gs
unfolding gives
gives_fit Procedure gs h = (fields_fit gs).0 (h.spelled, h.names)
gives_fit Signal gs h = (fields_fit gs).0 (h.spelled, h.names)
gives_fit Error gs h = none_mapped gs (h.error refl)

no_fields : (fields 2).fits []
unfolding Each NoneTwice EachHasName
no_fields =
    fields_form_fits (types 2 any) 0 [] tt (record { count = omega arith; all = inl tt; names = All-nil IsName; distinct = tt }) (omega arith)

gives_can : (kind : ItemKind) (gs : List FieldType) → (gives 2 kind).fits gs → Gives kind gs
unfolding gives
gives_can Procedure gs h = let c = (fields_fit gs).1 h in record { spelled = c.0; names = c.1; error = λ e. absurd cc }
gives_can Signal gs h = let c = (fields_fit gs).1 h in record { spelled = c.0; names = c.1; error = λ e. absurd cc }
gives_can Error gs h =
    let c = (fields_fit gs).1 (subst (fields 2).fits (sym h) (no_fields)) in
    record { spelled = c.0; names = c.1; error = λ e. ap (λ fs. map plain_field fs) h }

kind_fits : (kind : ItemKind) → item_kind.fits kind
unfolding item_kind
kind_fits Procedure = (omega arith, refl)
kind_fits Signal = (omega arith, refl)
kind_fits Error = (omega arith, refl)

put_item : (called : Form (List ℕ)) (i : Item) → called.fits i.name → ItemCanBeSpelled (plain_item i) → (item_named called 2).fits i
unfolding item_named
put_item called i n h = (
  kind_fits i.kind,
  (n, ((fields_fit i.takes).0 (h.takes, h.takes_names), gives_fit i.kind i.gives (record { spelled = h.gives; names = h.gives_names; error = h.error }))),
)

got_item : (called : Form (List ℕ)) (i : Item) → (item_named called 2).fits i → (called.fits i.name → IsName i.name) → ItemCanBeSpelled (plain_item i)
unfolding item_named
got_item called i h n =
    let t = (fields_fit i.takes).1 h.1.1.0 in
    let g = gives_can i.kind i.gives h.1.1.1 in
    record { name = n h.1.0; takes = t.0; takes_names = t.1; gives = g.spelled; gives_names = g.names; error = g.error }

item_name : (called : Form (List ℕ)) (i : Item) → (item_named called 2).fits i → called.fits i.name
unfolding item_named
item_name called i h = h.1.0

pub items_fit : ItemsFit
items_fit i = (λ h. put_item name i (name_fits i.name h.name) h, λ h. got_item name i h (name_is i.name))

-- ---- faces

abbrev Fine : Item → Type 0
Fine i = ItemCanBeSpelled (plain_item i)

each_item : (is : List Item) → ItemsCanBeSpelled (map plain_item is) → Each Fine is
unfolding ItemsCanBeSpelled Each
each_item [] h = tt
each_item (i ∷ is) h = (h.0, each_item is h.1)

item_each : (is : List Item) → Each Fine is → ItemsCanBeSpelled (map plain_item is)
unfolding ItemsCanBeSpelled Each
item_each [] h = tt
item_each (i ∷ is) h = (h.0, item_each is h.1)

pub names_same : (is : List Item) → names_of_items (map plain_item is) ≡ item_names is
names_same is = map-map plain_item (λ (i : PlainItem). i.name) is

abbrev name_of : Item → List ℕ
name_of i = i.name

names_grow : (before : List Item) (i : Item) → item_names (before ++ i ∷ []) ≡ item_names before ++ i.name ∷ []
names_grow before i = map-append name_of before (i ∷ [])

abbrev at : List (List ℕ) → Form Item
at known = item_named (fresh_name known) 2

put : (known : List (List ℕ)) (i : Item) → Fine i → is_among known i.name ≡ false → (at known).fits i
put known i h e = put_item (fresh_name known) i (fresh_fits known i.name h.name e) h

got : (known : List (List ℕ)) (i : Item) → (at known).fits i → Fine i × (is_among known i.name ≡ false)
got known i h =
    let n = fresh_is known i.name (item_name (fresh_name known) i h) in
    (got_item (fresh_name known) i h (λ _. n.0), n.1)

pub list_fits : (is : List Item) → length is < 4294967296 → ItemsCanBeSpelled (map plain_item is) → NoneTwice (names_of_items (map plain_item is)) → (items 2).fits is
unfolding items
list_fits is few each once = (
  (few, le-leb 0 (length is) (omega arith)),
  (refl, each_fits at name_of Fine item_names names_grow [] put [] is (each_item is each) (fresh [] (item_names is) (subst NoneTwice (names_same is) once))),
)

pub list_can : (is : List Item) → (items 2).fits is → (length is < 4294967296) × ItemsCanBeSpelled (map plain_item is) × NoneTwice (names_of_items (map plain_item is))
unfolding items
list_can is h =
    let e = each_fine at name_of Fine item_names names_grow [] got [] is h.1.1 in
    (h.0.0, item_each is e.0, subst NoneTwice (sym (names_same is)) (together [] (item_names is) nothing_twice e.1))

put_face : (f : Face) → FaceCanBeSpelled f.name f.stamp (map plain_item f.items) → (face 2).fits f
unfolding face
put_face f h =
    let few : length (map plain_item f.items) < 4294967296 = h.count in
    (name_fits f.name h.its_name, (h.its_stamp, list_fits f.items (omega (arith, few, length-map f.items plain_item)) h.each h.distinct))

got_face : (f : Face) → (face 2).fits f → FaceCanBeSpelled f.name f.stamp (map plain_item f.items)
unfolding face
got_face f h =
    let c = list_can f.items h.1.1 in
    let few : length f.items < 4294967296 = c.0 in
    record { its_name = name_is f.name h.0; its_stamp = h.1.0; count = omega (arith, few, length-map f.items plain_item); each = c.1; distinct = c.2 }

pub faces_fit : FacesFit
faces_fit f = (put_face f, got_face f)
