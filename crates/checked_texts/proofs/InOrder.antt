-- A shape that files can spell is in order, as the tree of a configuration asks.
use Rattle.std.proofs.Common.{◌≡◌, ℕ, zero, suc, ◌<◌, Bool, true, false, ◌||◌, List, [], ◌∷◌, map, length, Option, Some, None, slice_get, refl, sym, ap, ◌∙◌, bytes_eq, arith}
use Rattle.std.proofs.lemmas.Slice.Eq.{bytes_eq-Decides}
use Rattle.std.proofs.lemmas.List.Elements.{All-contains, All-cons, All-nil}
use Rattle.std.specs.List.{All}
use Rattle.mesa_types.specs.Sound.{IsAscending}
use Rattle.mesa_types.specs.declared.faces.Face.{Face}
use Rattle.mesa_types.specs.declared.faces.Item.{Item}
use Rattle.mesa_types.specs.declared.faces.Shape.{Shape}
use Rattle.check_scopes.specs.Scopes.{has}
use Rattle.interface_records.specs.Lists.{Ascend, NoneTwice}
use Rattle.interface_records.specs.PlainTypes.{plain_item}
use Rattle.interface_records.specs.Spelled.{ExportCanBeSpelled, ImportCanBeSpelled, ShapeCanBeSpelled, names_of_items}
use Rattle.config_rules.specs.InOrder.{NamesDiffer, NumbersIn, ShapeInOrder}

-- numbers that ascend below a bound

ascending : (low high : ℕ) (ns : List ℕ) → Ascend low high ns → IsAscending ns
unfolding Ascend IsAscending
ascending low high [] h = tt
ascending low high (n ∷ []) h = tt
ascending low high (n ∷ m ∷ ms) h = (omega (arith, h.2.0), ascending (suc n) high (m ∷ ms) h.2)

below : (low high : ℕ) (ns : List ℕ) → Ascend low high ns → All (λ n. n < high) ns
unfolding Ascend
below low high [] h = All-nil (λ n. n < high)
below low high (n ∷ ns) h = All-cons (λ n. n < high) n ns h.1 (below (suc n) high ns h.2)

-- names of which none stands twice

abbrev names : List Item → List (List ℕ)
names is = names_of_items (map plain_item is)

none_some : (i : Item) → ◌≡◌ {A = Option Item} None (Some i) → ⊥
none_some i e = cc

same_item : (i j : Item) → ◌≡◌ {A = Option Item} (Some i) (Some j) → i ≡ j
same_item i j e = cc

true_false : true ≡ false → ⊥
true_false e = cc

true_or : (a b : Bool) → a ≡ true → (a || b) ≡ true
true_or true b e = refl
true_or false b e = absurd (true_false (sym e))

or_true : (a b : Bool) → b ≡ true → (a || b) ≡ true
or_true true b e = refl
or_true false b e = e

stands : (is : List Item) (k : ℕ) (j : Item) (x : List ℕ) → slice_get is k ≡ Some j → x ≡ j.name → has x (names is) ≡ true
unfolding has
stands [] k j x at same = absurd (none_some j at)
stands (i ∷ is) zero j x at same =
    true_or (bytes_eq x i.name) (has x (names is)) ((bytes_eq-Decides x i.name).1 (same ∙ ap (λ (y : Item). y.name) (sym (same_item i j at))))
stands (i ∷ is) (suc k) j x at same = or_true (bytes_eq x i.name) (has x (names is)) (stands is k j x at same)

differ : (is : List Item) → NoneTwice (names is) → (a b : ℕ) (i j : Item) → slice_get is a ≡ Some i → slice_get is b ≡ Some j → i.name ≡ j.name → a ≡ b
unfolding NoneTwice
differ [] h a b i j at there same = absurd (none_some i at)
differ (x ∷ is) h zero zero i j at there same = refl
differ (x ∷ is) h zero (suc b) i j at there same =
    let first : x.name ≡ j.name = ap (λ (y : Item). y.name) (same_item x i at) ∙ same in
    absurd (true_false (sym (stands is b j x.name there first) ∙ h.0))
differ (x ∷ is) h (suc a) zero i j at there same =
    let first : x.name ≡ i.name = ap (λ (y : Item). y.name) (same_item x j there) ∙ sym same in
    absurd (true_false (sym (stands is a i x.name at first) ∙ h.0))
differ (x ∷ is) h (suc a) (suc b) i j at there same = ap (λ n. suc n) (differ is h.1 a b i j at there same)

-- what files can spell

abbrev NumbersOf : Face → List ℕ → Type 0
NumbersOf f ns = NamesDiffer f × NumbersIn f ns

numbered : (f : Face) (ns : List ℕ) → NoneTwice (names f.items) → Ascend 0 (length f.items) ns → NumbersOf f ns
numbered f ns h up = (differ f.items h, (ascending 0 (length f.items) ns up, below 0 (length f.items) ns up))

pub shape_in_order : (s : Shape) → ShapeCanBeSpelled s → ShapeInOrder s
shape_in_order s h = record {
  imports = λ m inside.
      let spelled = All-contains ImportCanBeSpelled s.imports m h.imports inside in
      numbered m.face m.used spelled.face.distinct spelled.used;
  exports = λ x inside.
      let spelled = All-contains ExportCanBeSpelled s.exports x h.exports inside in
      numbered x.face _ spelled.face.distinct spelled.items;
}
