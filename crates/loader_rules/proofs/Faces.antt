-- The test of faces tells those that are equal.
use Rattle.std.proofs.Common.{◌≡◌, ℕ, true, ◌&&◌, List, [], ◌∷◌, Option, Some, None, refl, sym, ap, subst, ◌∙◌, nat_eq, bytes_eq, eqb-true, eq-eqb}
use Rattle.std.proofs.lemmas.Bool.{and_from, and_parts}
use Rattle.mesa_types.specs.declared.faces.Face.{Face}
use Rattle.mesa_types.specs.declared.faces.Item.{Item}
use Rattle.mesa_types.specs.declared.faces.ItemKind.{ItemKind}
use Rattle.mesa_types.specs.declared.faces.ItemKind.TheVariants as item
use Rattle.mesa_types.specs.declared.types.FieldType.{FieldType, roll-FieldType, roll-out-FieldType}
use Rattle.interface_records.specs.PlainTypes.{same, same_name, plain}
use Rattle.object_rules.specs.ImageForms.{same_kind, same_types}
use Rattle.object_rules.proofs.SameTypes.{bytes_same, bytes_self, type_same, signature_alike}
use Rattle.loader_rules.specs.SameFaces.{same_fields, same_item, same_items, same_face, SameFacesAreEqual}

-- ---- names, kinds and types

name_same : (x y : Option (List ℕ)) → same_name x y ≡ true → x ≡ y
name_same (Some x) (Some y) e = ap Some (bytes_same x y e)
name_same None None e = refl
name_same (Some x) None e = absurd cc
name_same None (Some y) e = absurd cc

name_self : (x : Option (List ℕ)) → same_name x x ≡ true
name_self None = refl
name_self (Some x) = bytes_self x

kind_same : (a b : ItemKind) → same_kind a b ≡ true → a ≡ b
kind_same item.Procedure item.Procedure e = refl
kind_same item.Signal item.Signal e = refl
kind_same item.Error item.Error e = refl
kind_same a b e = absurd cc

kind_self : (a : ItemKind) → same_kind a a ≡ true
kind_self item.Procedure = refl
kind_self item.Signal = refl
kind_self item.Error = refl

-- an item that takes a value of the type has its own signature
type_self : (f : FieldType) → same (plain f.kind) (plain f.kind) ≡ true
unfolding same_types
type_self f =
    let i : Item = record { kind = item.Procedure; name = []; takes = f ∷ []; gives = [] } in
    (and_parts (same (plain f.kind) (plain f.kind)) true (and_parts (same (plain f.kind) (plain f.kind) && true) true (signature_alike i i (refl, refl, refl))).0).0

-- ---- fields

field_same : (f g : FieldType) → f.name ≡ g.name → f.kind ≡ g.kind → f ≡ g
field_same f g p q = sym (roll-out-FieldType f) ∙ ((λ j. roll-FieldType (record { name = p j; kind = q j })) ∙ roll-out-FieldType g)

fields_same : (fs gs : List FieldType) → same_fields fs gs ≡ true → fs ≡ gs
unfolding same_fields
fields_same [] [] e = refl
fields_same [] (g ∷ gs) e = absurd cc
fields_same (f ∷ fs) [] e = absurd cc
fields_same (f ∷ fs) (g ∷ gs) e =
    let p = and_parts (same_name f.name g.name) (same (plain f.kind) (plain g.kind) && same_fields fs gs) e in
    let q = and_parts (same (plain f.kind) (plain g.kind)) (same_fields fs gs) p.1 in
    let first : f ≡ g = field_same f g (name_same f.name g.name p.0) (type_same f.kind g.kind q.0) in
    let rest : fs ≡ gs = fields_same fs gs q.1 in
    cc

fields_self : (fs : List FieldType) → same_fields fs fs ≡ true
unfolding same_fields
fields_self [] = refl
fields_self (f ∷ fs) =
    and_from (same_name f.name f.name) _ (name_self f.name) (and_from (same (plain f.kind) (plain f.kind)) (same_fields fs fs) (type_self f) (fields_self fs))

-- ---- items

item_same : (a b : Item) → same_item a b ≡ true → a ≡ b
item_same a b e =
    let p = and_parts (same_kind a.kind b.kind) (bytes_eq a.name b.name && (same_fields a.takes b.takes && same_fields a.gives b.gives)) e in
    let q = and_parts (bytes_eq a.name b.name) (same_fields a.takes b.takes && same_fields a.gives b.gives) p.1 in
    let r = and_parts (same_fields a.takes b.takes) (same_fields a.gives b.gives) q.1 in
    λ j. record {
      kind = kind_same a.kind b.kind p.0 j;
      name = bytes_same a.name b.name q.0 j;
      takes = fields_same a.takes b.takes r.0 j;
      gives = fields_same a.gives b.gives r.1 j;
    }

item_self : (a : Item) → same_item a a ≡ true
item_self a =
    and_from (same_kind a.kind a.kind) _ (kind_self a.kind)
    (and_from (bytes_eq a.name a.name) _ (bytes_self a.name) (and_from (same_fields a.takes a.takes) (same_fields a.gives a.gives) (fields_self a.takes) (fields_self a.gives)))

items_same : (is js : List Item) → same_items is js ≡ true → is ≡ js
unfolding same_items
items_same [] [] e = refl
items_same [] (j ∷ js) e = absurd cc
items_same (i ∷ is) [] e = absurd cc
items_same (i ∷ is) (j ∷ js) e =
    let p = and_parts (same_item i j) (same_items is js) e in
    let first : i ≡ j = item_same i j p.0 in
    let rest : is ≡ js = items_same is js p.1 in
    cc

items_self : (is : List Item) → same_items is is ≡ true
unfolding same_items
items_self [] = refl
items_self (i ∷ is) = and_from (same_item i i) (same_items is is) (item_self i) (items_self is)

-- ---- faces

pub face_same : (a b : Face) → same_face a b ≡ true → a ≡ b
unfolding same_face
face_same a b e =
    let p = and_parts (bytes_eq a.name b.name) (nat_eq a.stamp b.stamp && same_items a.items b.items) e in
    let q = and_parts (nat_eq a.stamp b.stamp) (same_items a.items b.items) p.1 in
    λ j. record { name = bytes_same a.name b.name p.0 j; stamp = eqb-true a.stamp b.stamp q.0 j; items = items_same a.items b.items q.1 j }

pub face_self : (a : Face) → same_face a a ≡ true
unfolding same_face
face_self a = and_from (bytes_eq a.name a.name) _ (bytes_self a.name) (and_from (nat_eq a.stamp a.stamp) (same_items a.items a.items) (eq-eqb a.stamp a.stamp refl) (items_self a.items))

pub same_faces_are_equal : SameFacesAreEqual
same_faces_are_equal a b = (face_same a b, λ e. subst (λ (f : Face). same_face a f ≡ true) e (face_self a))
