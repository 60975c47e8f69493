-- What is so of the exports of a tree in order: each has its items by ascending number, under names that differ.
use Rattle.std.proofs.Common.{◌≡◌, ℕ, zero, suc, ◌<◌, Bool, true, false, ◌||◌, List, [], ◌∷◌, map, Contains, Option, Some, None, slice_get, refl, sym, ap, ◌∙◌, arith}
use Rattle.std.proofs.lemmas.Option.{none-some, same_Some, slice_get_within, get_or_from_slice_get}
use Rattle.mesa_types.specs.Sound.{IsAscending}
use Rattle.mesa_types.specs.declared.faces.Export.{Export}
use Rattle.mesa_types.specs.declared.faces.Face.{Face}
use Rattle.mesa_types.specs.declared.faces.Item.{Item}
use Rattle.mesa_types.specs.declared.faces.Pair.{Pair}
use Rattle.mesa_types.specs.declared.faces.Shape.{Shape}
use Rattle.config_rules.specs.declared.tree.Exporter.{Exporter}
use Rattle.config_rules.specs.declared.tree.Tree.{Tree}
use Rattle.config_rules.specs.declared.tree.TreeInstance.{TreeInstance}
use Rattle.config_rules.specs.Exporters.{is_named, is_given}
use Rattle.config_rules.specs.InOrder.{NamesDiffer, ShapeInOrder}
use Rattle.config_rules.specs.Outgoing.{export_in, export_of}
use Rattle.import_binder.specs.InOrder.{IsInOrder, ExportInOrder, GivenOnce, GivesOnce, EachGivesOnce}
use Rattle.import_binder.specs.Laws.{TreesGiveOnce}
use Rattle.std.proofs.lemmas.Slice.Eq.{bytes_eq-Decides}

abbrev pub item_number : Pair → ℕ
item_number p = p.item

get_contains : {A : Type 0} (xs : List A) (k : ℕ) (x : A) → slice_get xs k ≡ Some x → Contains xs x
get_contains xs k x e = (k, slice_get_within xs k x e, get_or_from_slice_get xs k x x e)

-- ---- the exports of a tree in order

module _ (shapes : List Shape) (each : (s : Shape) → Contains shapes s → ShapeInOrder s) where
  of_shape : (s : Shape) (k : ℕ) → slice_get shapes k ≡ Some s → (n : ℕ) (x : Export) → slice_get s.exports n ≡ Some x → ExportInOrder x
  of_shape s k at n x e = let q = (each s (get_contains shapes k s at)).exports x (get_contains s.exports n x e) in record { names = q.0; numbers = q.1 }

pub export_in_order : (t : Tree) → IsInOrder t → (e : Exporter) (x : Export) → export_of t e ≡ Some x → ExportInOrder x
export_in_order t o e x h = by (slice_get t.instances e.instance) refl h
  where
    by : (i : Option TreeInstance) → slice_get t.instances e.instance ≡ i → export_in i e.export ≡ Some x → ExportInOrder x
    by None g h = absurd (none-some x h)
    by (Some y) g h = of_shape o.shapes o.each y.shape y.component (o.tree.instances e.instance y g).its e.export x h

-- ---- ascending numbers

pub ascending_rest : (n : ℕ) (ms : List ℕ) → IsAscending (n ∷ ms) → IsAscending ms
unfolding IsAscending
ascending_rest n [] h = tt
ascending_rest n (m ∷ ms) h = h.1

pub ascending_first : (n : ℕ) (ms : List ℕ) → IsAscending (n ∷ ms) → (k m : ℕ) → slice_get ms k ≡ Some m → n < m
unfolding IsAscending
ascending_first n [] h k m e = absurd (none-some m e)
ascending_first n (l ∷ ms) h zero m e = let q = same_Some l m e in let p = h.0 in omega (arith, p, q)
ascending_first n (l ∷ ms) h (suc k) m e = let q = ascending_first l ms h.1 k m e in let p = h.0 in omega (arith, p, q)

-- ---- names of items

pub record Named (name : List ℕ) (o : Option Item) : Type 0 where
  pub item : Item
  pub there : o ≡ Some item
  pub named : item.name ≡ name

pub named_there : (name : List ℕ) (o : Option Item) → is_named name o ≡ true → Named name o
unfolding is_named
named_there name None h = cc
named_there name (Some i) h = record { item = i; there = refl; named = (bytes_eq-Decides i.name name).0 h }

-- a pair that is given for a name
pub record GivenAt (name : List ℕ) (face : Face) (ps : List Pair) : Type 0 where
  pub at : ℕ
  pub pair : Pair
  pub is : slice_get ps at ≡ Some pair
  pub named : is_named name (slice_get face.items pair.item) ≡ true

pub given_there : (name : List ℕ) (face : Face) (ps : List Pair) → is_given name face ps ≡ true → GivenAt name face ps
unfolding is_given
given_there name face [] h = cc
given_there name face (p ∷ ps) h = by (given_there name face ps) (is_named name (slice_get face.items p.item)) refl h
  where
    by : (is_given name face ps ≡ true → GivenAt name face ps) → (b : Bool) → is_named name (slice_get face.items p.item) ≡ b → b || is_given name face ps ≡ true → GivenAt name face (p ∷ ps)
    by again true e g = record { at = 0; pair = p; is = refl; named = e }
    by again false e g = let q = again g in record { at = suc q.at; pair = q.pair; is = q.is; named = q.named }

-- two pairs of one name have one item
pub one_item : (face : Face) → NamesDiffer face → (name : List ℕ) (p q : ℕ) → is_named name (slice_get face.items p) ≡ true → is_named name (slice_get face.items q) ≡ true → p ≡ q
one_item face differ name p q e f =
    let i = named_there name (slice_get face.items p) e in
    let j = named_there name (slice_get face.items q) f in
    differ p q i.item j.item i.there j.there (i.named ∙ sym j.named)

map_at : (ps : List Pair) (k : ℕ) (p : Pair) → slice_get ps k ≡ Some p → slice_get (map item_number ps) k ≡ Some p.item
map_at [] k p e = absurd (none-some p e)
map_at (q ∷ ps) zero p e = ap (λ (z : Pair). Some z.item) (same_Some q p e)
map_at (q ∷ ps) (suc k) p e = map_at ps k p e

-- the first of ascending pairs has a lesser item than those after it
pub lesser : (p : Pair) (ps : List Pair) → IsAscending (map item_number (p ∷ ps)) → (k : ℕ) (q : Pair) → slice_get ps k ≡ Some q → p.item < q.item
lesser p ps h k q e = ascending_first p.item (map item_number ps) h k q.item (map_at ps k q e)

given_once : (face : Face) → NamesDiffer face → (ps : List Pair) → IsAscending (map item_number ps) → GivenOnce face ps
given_once face differ [] h = tt
given_once face differ (p ∷ ps) h = (λ name e. once name e (is_given name face ps) refl, given_once face differ ps (ascending_rest p.item (map item_number ps) h))
  where
    once : (name : List ℕ) → is_named name (slice_get face.items p.item) ≡ true → (b : Bool) → is_given name face ps ≡ b → b ≡ false
    once name e false g = refl
    once name e true g =
        let q = given_there name face ps g in
        let same : p.item ≡ q.pair.item = one_item face differ name p.item q.pair.item e q.named in
        let less : p.item < q.pair.item = lesser p ps h q.at q.pair q.is in
        absurd (omega (arith, same, less))

pub each_gives_once : (t : Tree) → IsInOrder t → EachGivesOnce t
each_gives_once t o e = by (export_of t e) refl
  where
    by : (x : Option Export) → export_of t e ≡ x → GivesOnce x
    by None h = tt
    by (Some x) h = let q = export_in_order t o e x h in given_once x.face q.names x.given q.numbers.0

pub trees_give_once : TreesGiveOnce
trees_give_once shapes t each tree = each_gives_once t (record { shapes = shapes; each = each; tree = tree })
