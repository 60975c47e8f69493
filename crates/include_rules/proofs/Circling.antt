-- Each text of a cycle names the next, and the last the first; so in no order does each stand behind all that it names.
use Rattle.std.proofs.Common.{◌≡◌, ℕ, zero, suc, ◌<◌, ◌⊎◌, inl, inr, List, [], ◌∷◌, ◌++◌, length, Contains, Some, refl, sym, ap, ◌∙◌, subst, append-nil, append_assoc, zero-lt-suc, suc-le-suc}
use Rattle.std.proofs.lemmas.List.Elements.{Contains-push_cases}
use Rattle.include_rules.specs.Laws.{CyclesHaveNoOrder, Follows, IsCircle}
use Rattle.include_rules.specs.Naming.{is_left, named_by, first_left}
use Rattle.include_rules.specs.Order.{Walks, begins, goes, IsCycle}
use Rattle.include_rules.proofs.Taking.{contains_first, contains_split, find_some, nothing_contains, splits}

-- ---- lists each element of which stands in a relation to the next

Chained : (ℕ → ℕ → Type 0) → List ℕ → Type 0
Chained R [] = Unit {0}
Chained R (x ∷ []) = Unit {0}
Chained R (x ∷ y ∷ L) = R x y × Chained R (y ∷ L)

module _ (R : ℕ → ℕ → Type 0) where
  chained_rest : (x : ℕ) (L : List ℕ) → Chained R (x ∷ L) → Chained R L
  unfolding Chained
  chained_rest x [] c = tt
  chained_rest x (y ∷ L) c = c.1

  chained_behind : (a b : List ℕ) → Chained R (a ++ b) → Chained R b
  chained_behind [] b c = c
  chained_behind (x ∷ a) b c = chained_behind a b (chained_rest x (a ++ b) c)

  chained_joins : (a : List ℕ) (y : ℕ) (b : List ℕ) → Chained R (a ++ y ∷ []) → Chained R (y ∷ b) → Chained R (a ++ y ∷ b)
  unfolding Chained
  chained_joins [] y b c d = d
  chained_joins (x ∷ []) y b c d = (c.0, d)
  chained_joins (x ∷ z ∷ a) y b c d = (c.0, chained_joins (z ∷ a) y b c.1 d)

  chained_more : (a : List ℕ) (x y : ℕ) → Chained R (a ++ x ∷ []) → R x y → Chained R ((a ++ x ∷ []) ++ y ∷ [])
  unfolding Chained
  chained_more a x y c r = subst (Chained R) (sym (append_assoc a (x ∷ []) (y ∷ []))) (chained_joins a x (y ∷ []) c (r, tt))

  chained_at : (a : List ℕ) (j k : ℕ) (b : List ℕ) → Chained R (a ++ j ∷ k ∷ b) → R j k
  unfolding Chained
  chained_at a j k b c = (chained_behind a (j ∷ k ∷ b) c).0

module _ (names : List (List ℕ)) where
  Leads : (taken : List ℕ) → ℕ → ℕ → Type 0
  Leads taken j k = first_left names taken j ≡ Some k

  walks_chained : (taken way : List ℕ) (last : ℕ) → Walks names taken way last → Chained (Leads taken) (way ++ last ∷ [])
  unfolding Chained Leads
  walks_chained taken way last (begins k f) = tt
  walks_chained taken way last (goes b k j w e h) = chained_more (Leads taken) b k j (walks_chained taken b k w) e

  cycle_chained : (cycle : List ℕ) (c : IsCycle names cycle) → Chained (Leads c.taken) (cycle ++ cycle)
  unfolding Leads
  cycle_chained cycle c =
      let R = Leads c.taken in
      let walked : Chained R (c.way ++ c.last ∷ []) = walks_chained c.taken c.way c.last c.walks in
      let once : Chained R cycle = chained_behind R c.before cycle (subst (Chained R) c.of_way walked) in
      let closed : Chained R ((c.before ++ cycle) ++ c.again ∷ []) =
      subst (λ l. Chained R (l ++ c.again ∷ [])) c.of_way (chained_more R c.way c.last c.again walked c.comes_again) in
      let round : Chained R (cycle ++ c.again ∷ []) =
      chained_behind R c.before (cycle ++ c.again ∷ []) (subst (Chained R) (append_assoc c.before cycle (c.again ∷ [])) closed) in
      subst (λ l. Chained R (cycle ++ l)) (sym c.is) (chained_joins R cycle c.again c.behind round (subst (Chained R) c.is once))

  circle : (cycle : List ℕ) → IsCycle names cycle → IsCircle names cycle
  unfolding Leads
  circle cycle c a b j k e =
      (find_some (is_left c.taken) (named_by names j) k (chained_at (Leads c.taken) a j k b (subst (Chained (Leads c.taken)) e (cycle_chained cycle c)))).0

  -- ---- no order

  names_text : (ns : List (List ℕ)) (j k : ℕ) → Contains (named_by ns j) k → j < length ns
  unfolding named_by
  names_text [] j k h = absurd (nothing_contains k h)
  names_text (n ∷ ns) zero k h = zero-lt-suc _
  names_text (n ∷ ns) (suc j) k h = suc-le-suc (names_text ns j k h)

  record HasNext (cycle : List ℕ) (j : ℕ) : Type 0 where
    next : ℕ
    named : Contains (named_by names j) next
    on : Contains cycle next

  has_next : (cycle : List ℕ) → IsCycle names cycle → (j : ℕ) → Contains cycle j → HasNext cycle j
  has_next cycle c j h = by (splits cycle j h).before (splits cycle j h).rest (splits cycle j h).is
    where
      around : (a b : List ℕ) → cycle ≡ a ++ j ∷ b → cycle ++ cycle ≡ a ++ j ∷ (b ++ cycle)
      around a b e = ap (λ l. l ++ cycle) e ∙ append_assoc a (j ∷ b) cycle

      by : (a b : List ℕ) → cycle ≡ a ++ j ∷ b → HasNext cycle j
      by a [] e = record {
        next = c.again;
        named = circle cycle c a c.behind j c.again (around a [] e ∙ ap (λ l. a ++ j ∷ l) c.is);
        on = subst (λ l. Contains l c.again) (sym c.is) (contains_first c.again c.behind c.again refl);
      }
      by a (k ∷ b) e = record {
        next = k;
        named = circle cycle c a (b ++ cycle) j k (around a (k ∷ b) e);
        on = subst (λ l. Contains l k) (sym (e ∙ sym (append_assoc a (j ∷ []) (k ∷ b)))) (contains_split (a ++ j ∷ []) b k);
      }

  module _ (cycle order : List ℕ) (c : IsCycle names cycle) (f : Follows names order) where
    -- none of them stands in the order: each would have one of them before it
    none_stands : (rest before : List ℕ) → order ≡ before ++ rest → ((k : ℕ) → Contains before k → Contains cycle k → ⊥) → (k : ℕ) → Contains order k → Contains cycle k → ⊥
    none_stands [] before e none k o h = none k (subst (λ l. Contains l k) (e ∙ append-nil before) o) h
    none_stands (j ∷ rest) before e none k o h =
        none_stands rest (before ++ j ∷ []) (e ∙ sym (append_assoc before (j ∷ []) rest)) (λ m b g. by m (Contains-push_cases before j m b) g) k o h
      where
        here : Contains cycle j → ⊥
        here g = let n = has_next cycle c j g in none n.next (f.behind before rest j n.next e n.named) n.on

        by : (m : ℕ) → Contains before m ⊎ (j ≡ m) → Contains cycle m → ⊥
        by m (inl b) g = none m b g
        by m (inr s) g = here (subst (λ x. Contains cycle x) (sym s) g)

    no_order : ⊥
    no_order =
        let first = subst (λ l. Contains l c.again) (sym c.is) (contains_first c.again c.behind c.again refl) in
        let n = has_next cycle c c.again first in
        none_stands order [] refl (λ k b h. nothing_contains k b) c.again ((f.texts c.again).1 (names_text names c.again n.next n.named)) first

pub cycles_have_no_order : CyclesHaveNoOrder
cycles_have_no_order = record { circle = circle; no_order = no_order }
