-- The shape of an object that its form fits can be spelled, and is in order.
use Rattle.std.proofs.Common.{◌≡◌, ℕ, zero, suc, ◌<◌, true, false, List, [], ◌∷◌, ◌++◌, length, map, map-id, Some, slice_get, refl, sym, ap, subst, ◌∙◌, arith}
use Rattle.std.specs.Prelude.{option_map, bytes_eq}
use Rattle.std.specs.Cmp.Lexicographic.{nat_list_eq_equiv}
use Rattle.std.proofs.lemmas.Bool.{le-leb, or_left, or_right}
use Rattle.std.proofs.lemmas.List.{length-map}
use Rattle.std.proofs.lemmas.List.Elements.{All-contains}
use Rattle.std.proofs.lemmas.Option.{none-some, same_Some}
use Rattle.mesa_types.specs.declared.faces.Export.{Export}
use Rattle.mesa_types.specs.declared.faces.Face.{Face}
use Rattle.mesa_types.specs.declared.faces.Import.{Import}
use Rattle.mesa_types.specs.declared.faces.Item.{Item}
use Rattle.mesa_types.specs.declared.faces.Pair.{Pair}
use Rattle.check_scopes.specs.Scopes.{has}
use Rattle.interface_records.specs.Lists.{Ascend, NoneTwice}
use Rattle.interface_records.specs.PlainTypes.{plain_item}
use Rattle.interface_records.specs.Spelled.{InFourBytes, ImportCanBeSpelled, ExportCanBeSpelled, FaceCanBeSpelled, ShapeCanBeSpelled, item_numbers}
use Rattle.config_rules.specs.InOrder.{NamesDiffer, NumbersIn}
use Rattle.code_forms.specs.declared.module_code.CodeSignal.{CodeSignal}
use Rattle.spelled_laws.specs.face_rules.specs.FaceForms.{item_names}
use Rattle.spelled_laws.proofs.FacesFit.{faces_fit, names_same}
use Rattle.spelled_laws.proofs.Names.{name_is}
use Rattle.object_rules.specs.ModuleForms.{import_form, last_item, given, export_form, module_form}
use Rattle.object_rules.specs.Numbers.{number_where, last_of}
use Rattle.object_rules.specs.ModuleForms.{is_next}
use Rattle.object_rules.specs.Parts.{ProcedurePart, parts_of}
use Rattle.object_rules.proofs.AllFit.{all_fit}
use Rattle.object_rules.proofs.Versions.{module_grows}
use Rattle.object_files.specs.declared.object.Object.{Object}
use Rattle.read_files.specs.Laws.{ImportsFit, SpelledShapesAreInOrder, ShapesOfObjectsCanBeSpelled, ShapesOfObjectsAreInOrder}
use Rattle.read_files.proofs.Ascending.{each_ascends, ascend_each, last_grows, ascending, all_below}

-- ---- imports

word_before : (i : Import) (n : ℕ) → ImportCanBeSpelled i → n < length i.face.items → n < 4294967296
word_before i n h less =
    let few : length (map plain_item i.face.items) < 4294967296 = h.face.count in omega (arith, less, few, length-map i.face.items plain_item)

import_fits : (i : Import) → ImportCanBeSpelled i → (import_form 2).fits i
unfolding import_form
import_fits i h =
    let few : length i.used < 4294967296 = h.count in (
      (faces_fit i.face).0 h.face,
      (
        (few, le-leb 0 (length i.used) (omega arith)),
        (
          refl,
          ascend_each (λ before. number_where 4 (is_next (length i.face.items) (last_of before))) (λ n. n) last_of last_grows (length i.face.items)
              (λ n. n < length i.face.items) (λ before n less e. (word_before i n h less, e)) [] i.used
              (all_below 0 (length i.face.items) i.used h.used) (subst (Ascend 0 (length i.face.items)) (sym (map-id i.used)) h.used),
        ),
      ),
    )

import_can : (i : Import) → (import_form 2).fits i → ImportCanBeSpelled i
unfolding import_form
import_can i h = record {
  face = (faces_fit i.face).1 h.0;
  count = h.1.0.0;
  used = subst (Ascend 0 (length i.face.items)) (map-id i.used)
      (each_ascends (λ before. number_where 4 (is_next (length i.face.items) (last_of before))) (λ n. n) last_of last_grows (length i.face.items) (λ before n f. f.1) [] i.used h.1.1.1);
}

pub imports_fit : ImportsFit
imports_fit i = (import_fits i, import_can i)

-- ---- exports

pub item_grows : (before : List Pair) (p : Pair) → last_item (before ++ p ∷ []) ≡ Some p.item
item_grows before p = ap (option_map (λ (q : Pair). q.item)) (last_grows before p)

export_can : (signals : List CodeSignal) (procedures : List ProcedurePart) (e : Export) → (export_form 2 signals procedures).fits e → ExportCanBeSpelled e
unfolding export_form given
export_can signals procedures e h = record {
  face = (faces_fit e.face).1 h.0;
  count = h.1.0.0;
  items = each_ascends (given signals procedures e.face.items) (λ (p : Pair). p.item) last_item item_grows (length e.face.items) (λ before p f. f.0.1) [] e.given h.1.1.1;
  numbers = all_fit (λ (p : Pair). InFourBytes p.number) (given signals procedures e.face.items) (λ before p f. f.1.0) [] e.given h.1.1.1;
}

-- ---- shapes

shape_can : (o : Object) → (module_form 2).fits (parts_of o) → ShapeCanBeSpelled o.shape
unfolding module_form
shape_can o h = record {
  name = name_is o.shape.name h.0;
  import_count = h.1.0.0.0;
  imports = all_fit ImportCanBeSpelled (λ _. import_form 2) (λ _ i. import_can i) [] o.shape.imports h.1.0.1.1;
  export_count = h.1.1.1.1.1.1.0.0;
  exports = all_fit ExportCanBeSpelled (λ _. export_form 2 (parts_of o).signals (parts_of o).procedures)
      (λ _ e. export_can (parts_of o).signals (parts_of o).procedures e) [] o.shape.exports h.1.1.1.1.1.1.1.1;
}

-- what fits in some version fits in version 2
pub shapes_can_be_spelled : ShapesOfObjectsCanBeSpelled
shapes_can_be_spelled version o h = shape_can o ((module_grows version).fits (parts_of o) h)

-- names of which none stands twice differ
among : (is : List Item) (b : ℕ) (j : Item) → slice_get is b ≡ Some j → (x : List ℕ) → x ≡ j.name → has x (item_names is) ≡ true
unfolding has
among [] b j e x is = absurd (none-some j e)
among (i ∷ is) zero j e x same =
    let here : i ≡ j = same_Some i j e in
    or_left (bytes_eq x i.name) (has x (item_names is)) (subst (λ y. bytes_eq x y ≡ true) (same ∙ sym (ap (λ (k : Item). k.name) here)) (nat_list_eq_equiv.refl x))
among (i ∷ is) (suc b) j e x same = or_right (bytes_eq x i.name) (has x (item_names is)) (among is b j e x same)

differ : (is : List Item) → NoneTwice (item_names is) → (a b : ℕ) (i j : Item) → slice_get is a ≡ Some i → slice_get is b ≡ Some j → i.name ≡ j.name → a ≡ b
unfolding NoneTwice
differ [] h a b i j e f same = absurd (none-some i e)
differ (x ∷ is) h zero zero i j e f same = refl
differ (x ∷ is) h zero (suc b) i j e f same =
    let here : x ≡ i = same_Some x i e in
    let twice : has x.name (item_names is) ≡ true = among is b j f x.name (ap (λ (k : Item). k.name) here ∙ same) in
    absurd (let clash : false ≡ true = sym h.0 ∙ twice in cc)
differ (x ∷ is) h (suc a) zero i j e f same =
    let here : x ≡ j = same_Some x j f in
    let twice : has x.name (item_names is) ≡ true = among is a i e x.name (ap (λ (k : Item). k.name) here ∙ sym same) in
    absurd (let clash : false ≡ true = sym h.0 ∙ twice in cc)
differ (x ∷ is) h (suc a) (suc b) i j e f same = ap suc (differ is h.1 a b i j e f same)

names_differ : (f : Face) → FaceCanBeSpelled f.name f.stamp (map plain_item f.items) → NamesDiffer f
names_differ f h = differ f.items (subst NoneTwice (names_same f.items) h.distinct)

numbers_in : (f : Face) (ns : List ℕ) → Ascend 0 (length f.items) ns → NumbersIn f ns
numbers_in f ns h = (ascending 0 (length f.items) ns h, all_below 0 (length f.items) ns h)

pub spelled_shapes_are_in_order : SpelledShapesAreInOrder
spelled_shapes_are_in_order s h = record {
  imports = λ m there. let i = All-contains ImportCanBeSpelled s.imports m h.imports there in (names_differ m.face i.face, numbers_in m.face m.used i.used);
  exports = λ x there. let e = All-contains ExportCanBeSpelled s.exports x h.exports there in (names_differ x.face e.face, numbers_in x.face (item_numbers x.given) e.items);
}

pub shapes_are_in_order : ShapesOfObjectsAreInOrder
shapes_are_in_order version o h = spelled_shapes_are_in_order o.shape (shapes_can_be_spelled version o h)
