-- The shapes of modules that can be linked are in order: names that stand once differ, and numbers that ascend are those of items.
use Rattle.std.proofs.Common.{◌≡◌, ℕ, zero, suc, ◌<◌, Bool, true, false, ◌||◌, List, [], ◌∷◌, map, All, Contains, Some, slice_get, refl, sym, ap, ◌∙◌, bytes_eq, arith}
use Rattle.std.proofs.lemmas.Bool.{false≢true}
use Rattle.std.proofs.lemmas.List.Elements.{All-nil, All-cons, All-head, All-tail, All-append, All-contains}
use Rattle.std.proofs.lemmas.Option.{none-some, same_Some}
use Rattle.std.proofs.lemmas.Slice.Eq.{bytes_eq-Decides}
use Rattle.mesa_types.specs.Sound.{IsAscending}
use Rattle.mesa_types.specs.Typed.{Module}
use Rattle.mesa_types.specs.declared.faces.Export.{Export}
use Rattle.mesa_types.specs.declared.faces.Face.{Face}
use Rattle.mesa_types.specs.declared.faces.Import.{Import}
use Rattle.mesa_types.specs.declared.faces.Item.{Item}
use Rattle.check_scopes.specs.Scopes.{has}
use Rattle.interface_records.specs.Lists.{Ascend, NoneTwice}
use Rattle.interface_records.specs.PlainTypes.{PlainItem, plain_item}
use Rattle.interface_records.specs.Spelled.{ExportCanBeSpelled, ImportCanBeSpelled, item_numbers, names_of_items}
use Rattle.config_rules.specs.InOrder.{NamesDiffer}
use Rattle.config_rules.specs.Tree.{faces_of}
use Rattle.config_rules.proofs.Members.{map_get}
use Rattle.built_runs.specs.bound_images.specs.Programs.{shape_of}
use Rattle.linked_programs.specs.Laws.{LinkableShapesAreInOrder}
use Rattle.linked_programs.specs.Modules.{CanBeLinked}

-- ---- names

has_there : (names : List (List ℕ)) (k : ℕ) (x : List ℕ) → slice_get names k ≡ Some x → has x names ≡ true
unfolding has
has_there [] k x e = absurd (none-some x e)
has_there (y ∷ ys) zero x e = ap (λ b. b || has x ys) ((bytes_eq-Decides x y).1 (sym (same_Some y x e)))
has_there (y ∷ ys) (suc k) x e = either (bytes_eq x y) (has_there ys k x e)
  where
    either : (b : Bool) → has x ys ≡ true → b || has x ys ≡ true
    either true h = refl
    either false h = h

-- of names of which none stands twice, one stands at one place
one_place : (names : List (List ℕ)) → NoneTwice names → (a b : ℕ) (x : List ℕ) → slice_get names a ≡ Some x → slice_get names b ≡ Some x → a ≡ b
unfolding NoneTwice
one_place [] h a b x e f = absurd (none-some x e)
one_place (y ∷ ys) h zero zero x e f = refl
one_place (y ∷ ys) h zero (suc b) x e f = absurd (false≢true (sym h.0 ∙ has_there ys b y (f ∙ ap Some (sym (same_Some y x e)))))
one_place (y ∷ ys) h (suc a) zero x e f = absurd (false≢true (sym h.0 ∙ has_there ys a y (e ∙ ap Some (sym (same_Some y x f)))))
one_place (y ∷ ys) h (suc a) (suc b) x e f = ap suc (one_place ys h.1 a b x e f)

name_at : (items : List Item) (k : ℕ) (i : Item) → slice_get items k ≡ Some i → slice_get (names_of_items (map plain_item items)) k ≡ Some i.name
name_at items k i e = map_get (λ (p : PlainItem). p.name) (map plain_item items) k (plain_item i) (map_get plain_item items k i e)

names_differ : (f : Face) → NoneTwice (names_of_items (map plain_item f.items)) → NamesDiffer f
names_differ f h a b i j at_a at_b same =
    one_place (names_of_items (map plain_item f.items)) h a b i.name (name_at f.items a i at_a) (name_at f.items b j at_b ∙ ap Some (sym same))

-- ---- numbers

ascending : (low high : ℕ) (ns : List ℕ) → Ascend low high ns → IsAscending ns
unfolding Ascend IsAscending
ascending low high [] h = tt
ascending low high (n ∷ []) h = tt
ascending low high (n ∷ k ∷ ns) h = (omega (arith, h.2.0), ascending (suc n) high (k ∷ ns) h.2)

all_below : (low high : ℕ) (ns : List ℕ) → Ascend low high ns → All (λ n. n < high) ns
unfolding Ascend
all_below low high [] h = All-nil (λ n. n < high)
all_below low high (n ∷ ns) h = All-cons (λ n. n < high) n ns h.1 (all_below (suc n) high ns h.2)

-- ---- shapes

pub in_order : LinkableShapesAreInOrder
in_order m h = record {
  imports = λ i at.
      let s = All-contains ImportCanBeSpelled m.imports i h.spelled.imports at in
      (names_differ i.face s.face.distinct, (ascending 0 _ i.used s.used, all_below 0 _ i.used s.used));
  exports = λ x at.
      let s = All-contains ExportCanBeSpelled m.exports x h.spelled.exports at in
      (names_differ x.face s.face.distinct, (ascending 0 _ (item_numbers x.given) s.items, all_below 0 _ (item_numbers x.given) s.items));
}

imported : (xs : List Import) → All ImportCanBeSpelled xs → All NamesDiffer (map (λ (m : Import). m.face) xs)
imported [] h = All-nil NamesDiffer
imported (x ∷ xs) h =
    All-cons NamesDiffer x.face (map (λ (m : Import). m.face) xs) (names_differ x.face (All-head ImportCanBeSpelled x xs h).face.distinct)
    (imported xs (All-tail ImportCanBeSpelled x xs h))

exported : (xs : List Export) → All ExportCanBeSpelled xs → All NamesDiffer (map (λ (x : Export). x.face) xs)
exported [] h = All-nil NamesDiffer
exported (x ∷ xs) h =
    All-cons NamesDiffer x.face (map (λ (y : Export). y.face) xs) (names_differ x.face (All-head ExportCanBeSpelled x xs h).face.distinct)
    (exported xs (All-tail ExportCanBeSpelled x xs h))

-- of each interface that the module imports or exports
pub faces_differ : (m : Module) → CanBeLinked m → (f : Face) → Contains (faces_of (shape_of m)) f → NamesDiffer f
faces_differ m h f at =
    All-contains NamesDiffer (faces_of (shape_of m)) f
    (All-append NamesDiffer (map (λ (i : Import). i.face) m.imports) (map (λ (x : Export). x.face) m.exports) (imported m.imports h.spelled.imports)
    (exported m.exports h.spelled.exports))
    at
