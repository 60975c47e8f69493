-- The records to which an export goes in the new tree: those of its own tree, and the one of the new outermost scope.
use Rattle.std.proofs.Common.{◌≡◌, ℕ, zero, suc, ◌+◌, ◌<◌, ◌≤◌, ◌⊎◌, inl, inr, Bool, true, false, ◌&&◌, ◌||◌, List, [], ◌∷◌, length, bytes_eq, nat_eq, eq-eqb, eqb-true, Option, Some, None, is_some, slice_get, refl, sym, ap, ◌∙◌, arith}
use Rattle.std.specs.List.{list_any}
use Rattle.std.proofs.lemmas.Option.{none-some}
use Rattle.std.proofs.lemmas.Slice.Eq.{bytes_eq-Decides}
use Rattle.config_rules.specs.declared.tree.RecordPair.{RecordPair}
use Rattle.config_rules.specs.declared.tree.Tree.{Tree}
use Rattle.config_rules.specs.declared.tree.TreeScope.{TreeScope}
use Rattle.config_rules.specs.Exporters.{Spot, same_spot, Step, Stays, Goes, Leaves, outside_of, stepped, step_in, step, goes_on, reach}
use Rattle.config_rules.specs.InOrder.{IsInward}
use Rattle.loaded_runs.specs.Together.{Source, Place, scopes_before, together}
use Rattle.loader_rules.proofs.Lists.{get_there}
use Rattle.loaded_runs.proofs.Places.{IsPlace}
use Rattle.loaded_runs.proofs.Scopes.{spot, moved, onward, export_step, steps_down}

-- ---- numbers that are told apart

pub differ : (a b : ℕ) → (a ≡ b → ⊥) → nat_eq a b ≡ false
differ a b h = by (nat_eq a b) refl
  where
    by : (c : Bool) → nat_eq a b ≡ c → c ≡ false
    by true e = absurd (h (eqb-true a b e))
    by false e = refl

shifted_eq : (n a b : ℕ) → nat_eq (n + a) (n + b) ≡ nat_eq a b
shifted_eq n a b = by (nat_eq a b) refl
  where
    by : (c : Bool) → nat_eq a b ≡ c → nat_eq (n + a) (n + b) ≡ c
    by true e = eq-eqb (n + a) (n + b) (ap (λ m. n + m) (eqb-true a b e))
    by false e = differ (n + a) (n + b) (λ s. absurd (let same : nat_eq a b ≡ true = eq-eqb a b (omega (arith, s)) in let f : true ≡ false = sym same ∙ e in cc))

and_none : (x y : Bool) → x ≡ false → x && y ≡ false
and_none x y e = ap (λ b. b && y) e

or_none : (x y : Bool) → x ≡ false → y ≡ false → x || y ≡ false
or_none x y e f = ap (λ b. b || y) e ∙ f

-- ---- what an export reaches

module _ (sources : List Source) (p : Place) (I : IsPlace sources p) (inward : IsInward p.source.tree) where
  abbrev t : Tree
  t = p.source.tree

  abbrev U : Tree
  U = together sources

  abbrev onto : Spot → List Spot → Bool
  onto c bs = list_any (same_spot c) bs

  -- the new outermost scope exports nothing
  ends_there : (r : List ℕ) (n : ℕ) → reach (suc n) U (spot 0 r) ≡ spot 0 r ∷ []
  unfolding reach goes_on together step_in stepped outside_of
  ends_there r n = refl

  some_left : (i k : ℕ) → suc k < suc i → (j : ℕ) × (i ≡ suc j)
  some_left zero k h = absurd (omega (arith, h))
  some_left (suc i) k h = (i, refl)

  goes_out : (n k : ℕ) (r : List ℕ) → suc k < suc n → reach n U (spot 0 r) ≡ spot 0 r ∷ []
  goes_out n k r h = let j = some_left n k h in ap (λ i. reach i U (spot 0 r)) j.1 ∙ ends_there r j.0

  reach_there : (n : ℕ) (a : Spot) → a.scope < length t.scopes → (s : Step) → step (λ x. x.exports) t a ≡ s
      → reach (suc n) U (moved p a) ≡ moved p a ∷ goes_on (onward p a.record_name s) (λ b. reach n U b)
  unfolding reach
  reach_there n a less s e = ap (λ x. moved p a ∷ goes_on x (λ b. reach n U b)) (export_step sources p I a less ∙ ap (onward p a.record_name) e)

  reach_here : (m : ℕ) (a : Spot) (s : Step) → step (λ x. x.exports) t a ≡ s → reach (suc m) t a ≡ a ∷ goes_on s (λ b. reach m t b)
  unfolding reach
  reach_here m a s e = ap (λ x. a ∷ goes_on x (λ b. reach m t b)) e

  -- ---- within its tree

  same_moved : (c a : Spot) → same_spot (moved p c) (moved p a) ≡ same_spot c a
  same_moved c a = ap (λ b. b && bytes_eq c.record_name a.record_name) (shifted_eq (scopes_before p) c.scope a.scope)

  not_outermost : (c : Spot) (r : List ℕ) → same_spot (moved p c) (spot 0 r) ≡ false
  not_outermost c r = and_none (nat_eq (scopes_before p + c.scope) 0) (bytes_eq c.record_name r) (differ (scopes_before p + c.scope) 0 (λ e. omega (arith, e)))

  abbrev Alike : ℕ → ℕ → Spot → Spot → Step → Type 0
  Alike m n c a s = onto (moved p c) (moved p a ∷ goes_on (onward p a.record_name s) (λ b. reach n U b)) ≡ onto c (a ∷ goes_on s (λ b. reach m t b))

  pub reached_within : (m n : ℕ) (c a : Spot) → a.scope < length t.scopes → a.scope < m → suc a.scope < n → onto (moved p c) (reach n U (moved p a)) ≡ onto c (reach m t a)
  unfolding goes_on
  reached_within zero n c a less l k = absurd (omega (arith, l))
  reached_within (suc m) zero c a less l k = absurd (omega (arith, k))
  reached_within (suc m) (suc n) c a less l k = by (λ d x y z. reached_within m n c d x y z) (step (λ x. x.exports) t a) refl
    where
      front : (x y : Bool) → x ≡ y → same_spot (moved p c) (moved p a) || x ≡ same_spot c a || y
      front x y e = λ j. same_moved c a j || e j

      alike : ((d : Spot) → d.scope < length t.scopes → d.scope < m → suc d.scope < n → onto (moved p c) (reach n U (moved p d)) ≡ onto c (reach m t d))
          → (s : Step) → step (λ x. x.exports) t a ≡ s → Alike m n c a s
      alike again Stays e = front false false refl
      alike again (Goes d) e =
          let down = steps_down t inward (λ x. x.exports) a d e in
          front (onto (moved p c) (reach n U (moved p d))) (onto c (reach m t d)) (again d (omega (arith, down, less)) (omega (arith, down, l)) (omega (arith, down, k)))
      alike again Leaves e =
          front (onto (moved p c) (reach n U (spot 0 a.record_name))) false
          (ap (onto (moved p c)) (goes_out n a.scope a.record_name k) ∙ or_none (same_spot (moved p c) (spot 0 a.record_name)) false (not_outermost c a.record_name) refl)

      by : ((d : Spot) → d.scope < length t.scopes → d.scope < m → suc d.scope < n → onto (moved p c) (reach n U (moved p d)) ≡ onto c (reach m t d))
          → (s : Step) → step (λ x. x.exports) t a ≡ s → onto (moved p c) (reach (suc n) U (moved p a)) ≡ onto c (reach (suc m) t a)
      by again s e = ap (onto (moved p c)) (reach_there n a less s e) ∙ (alike again s e ∙ ap (onto c) (sym (reach_here m a s e)))

  -- ---- no scope of another tree

  abbrev Elsewhere : ℕ → Type 0
  Elsewhere k = (0 < k) × ((k < scopes_before p) ⊎ (scopes_before p + length t.scopes ≤ k))

  not_here : (c a : Spot) → Elsewhere c.scope → a.scope < length t.scopes → same_spot c (moved p a) ≡ false
  not_here c a E less = and_none (nat_eq c.scope (scopes_before p + a.scope)) (bytes_eq c.record_name a.record_name) (differ c.scope (scopes_before p + a.scope) (apart E))
    where
      apart : Elsewhere c.scope → c.scope ≡ scopes_before p + a.scope → ⊥
      apart (l, inl h) e = omega (arith, h, e)
      apart (l, inr h) e = omega (arith, h, e, less)

  not_zero : (c : Spot) (r : List ℕ) → 0 < c.scope → same_spot c (spot 0 r) ≡ false
  not_zero c r l = and_none (nat_eq c.scope 0) (bytes_eq c.record_name r) (differ c.scope 0 (λ e. omega (arith, e, l)))

  pub reached_elsewhere : (n : ℕ) (c a : Spot) → Elsewhere c.scope → a.scope < length t.scopes → suc a.scope < n → onto c (reach n U (moved p a)) ≡ false
  unfolding goes_on
  reached_elsewhere zero c a E less k = absurd (omega (arith, k))
  reached_elsewhere (suc n) c a E less k = by (λ d x y. reached_elsewhere n c d E x y) (step (λ x. x.exports) t a) refl
    where
      none : ((d : Spot) → d.scope < length t.scopes → suc d.scope < n → onto c (reach n U (moved p d)) ≡ false)
          → (s : Step) → step (λ x. x.exports) t a ≡ s → onto c (goes_on (onward p a.record_name s) (λ b. reach n U b)) ≡ false
      none again Stays e = refl
      none again (Goes d) e = let down = steps_down t inward (λ x. x.exports) a d e in again d (omega (arith, down, less)) (omega (arith, down, k))
      none again Leaves e = ap (onto c) (goes_out n a.scope a.record_name k) ∙ or_none (same_spot c (spot 0 a.record_name)) false (not_zero c a.record_name E.0) refl

      by : ((d : Spot) → d.scope < length t.scopes → suc d.scope < n → onto c (reach n U (moved p d)) ≡ false)
          → (s : Step) → step (λ x. x.exports) t a ≡ s → onto c (reach (suc n) U (moved p a)) ≡ false
      by again s e =
          ap (onto c) (reach_there n a less s e)
          ∙ or_none (same_spot c (moved p a)) (onto c (goes_on (onward p a.record_name s) (λ b. reach n U b))) (not_here c a E less) (none again s e)

  -- ---- the new outermost scope: what goes to a record of the tree's own that is exported

  module _ (exported : List RecordPair) (outer : (s : TreeScope) → slice_get t.scopes 0 ≡ Some s → s.exports ≡ exported)
      (inner : (k : ℕ) (s : TreeScope) → slice_get t.scopes (suc k) ≡ Some s → (n : ℕ) × (s.around ≡ Some n)) where
    abbrev is_out : List ℕ → Bool
    is_out r = is_some (outside_of exported r)

    own_scope : (a : Spot) → a.scope ≡ 0 → a.scope < length t.scopes → (s : TreeScope) × (slice_get t.scopes a.scope ≡ Some s) × (s.exports ≡ exported) × (s.around ≡ None)
    own_scope a zero_is less =
        let s = get_there t.scopes a.scope less in
        let first : slice_get t.scopes 0 ≡ Some s.0 = ap (slice_get t.scopes) (sym zero_is) ∙ s.1 in
        (s.0, s.1, outer s.0 first, none s.0 first s.0.around refl)
      where
        none : (s : TreeScope) → slice_get t.scopes 0 ≡ Some s → (o : Option ℕ) → s.around ≡ o → o ≡ None
        none s first None e = refl
        none s first (Some n) e = absurd (let l = inward 0 n s first e in omega (arith, l))

    stays_in : (a : Spot) → a.scope < length t.scopes → step (λ x. x.exports) t a ≡ Stays → a.scope ≡ 0 → is_out a.record_name ≡ false
    unfolding step_in stepped
    stays_in a less e zero_is =
        let s = own_scope a zero_is less in
        by (outside_of exported a.record_name) (sym (there s.0 s.1 s.2 s.3) ∙ e)
      where
        there : (s : TreeScope) → slice_get t.scopes a.scope ≡ Some s → s.exports ≡ exported → s.around ≡ None → step (λ x. x.exports) t a ≡ stepped None (outside_of exported a.record_name)
        there s at exports none = ap (step_in (λ x. x.exports) a.record_name) at ∙ (λ j. stepped (none j) (outside_of (exports j) a.record_name))

        by : (o : Option (List ℕ)) → stepped None o ≡ Stays → is_some o ≡ false
        by None f = refl
        by (Some x) f = absurd (let g : Leaves ≡ Stays = f in cc)

    record LeftAt (a : Spot) : Type 0 where
      first : a.scope ≡ 0
      out : is_out a.record_name ≡ true

    leaves_from : (a : Spot) → a.scope < length t.scopes → step (λ x. x.exports) t a ≡ Leaves → LeftAt a
    unfolding step_in stepped
    leaves_from a less e =
        let s = get_there t.scopes a.scope less in
        at a.scope refl s.0 s.1 (sym (ap (step_in (λ x. x.exports) a.record_name) s.1) ∙ e)
      where
        around_none : (o : Option ℕ) (x : Option (List ℕ)) → stepped o x ≡ Leaves → (o ≡ None) × (is_some x ≡ true)
        around_none o None f = absurd (let g : Stays ≡ Leaves = f in cc)
        around_none None (Some x) f = (refl, refl)
        around_none (Some n) (Some x) f = absurd (let g : Goes (spot n x) ≡ Leaves = f in cc)

        at : (k : ℕ) → a.scope ≡ k → (s : TreeScope) → slice_get t.scopes a.scope ≡ Some s → stepped s.around (outside_of s.exports a.record_name) ≡ Leaves → LeftAt a
        at zero k s there f =
            let w = around_none s.around (outside_of s.exports a.record_name) f in
            record { first = k; out = ap (λ l. is_some (outside_of l a.record_name)) (sym (outer s (ap (slice_get t.scopes) (sym k) ∙ there))) ∙ w.1 }
        at (suc i) k s there f =
            let w = around_none s.around (outside_of s.exports a.record_name) f in
            let n = inner i s (ap (slice_get t.scopes) (sym k) ∙ there) in
            absurd (none-some n.0 (sym w.0 ∙ n.1))

    below_none : (r : List ℕ) (a : Spot) → same_spot (spot 0 r) (moved p a) ≡ false
    below_none r a = and_none (nat_eq 0 (scopes_before p + a.scope)) (bytes_eq r a.record_name) (differ 0 (scopes_before p + a.scope) (λ e. omega (arith, e)))

    both_out : (r q : List ℕ) → (bytes_eq r q ≡ true → is_out r ≡ true) → bytes_eq r q ≡ bytes_eq r q && is_out r
    both_out r q h = by (bytes_eq r q) refl
      where
        by : (b : Bool) → bytes_eq r q ≡ b → b ≡ b && is_out r
        by true e = sym (h e)
        by false e = refl

    none_out : (r : List ℕ) (a : Spot) → (same_spot (spot 0 r) a ≡ true → is_out r ≡ false) → same_spot (spot 0 r) a && is_out r ≡ false
    none_out r a h = by (same_spot (spot 0 r) a) refl
      where
        by : (b : Bool) → same_spot (spot 0 r) a ≡ b → b && is_out r ≡ false
        by true e = h e
        by false e = refl

    both_are : (x y : Bool) → x && y ≡ true → (x ≡ true) × (y ≡ true)
    both_are true y e = (refl, e)
    both_are false y e = absurd cc

    or_false : (b : Bool) → b || false ≡ b
    or_false true = refl
    or_false false = refl

    abbrev OutAlike : ℕ → ℕ → List ℕ → Spot → Step → Type 0
    OutAlike m n r a s = onto (spot 0 r) (moved p a ∷ goes_on (onward p a.record_name s) (λ b. reach n U b)) ≡ onto (spot 0 r) (a ∷ goes_on s (λ b. reach m t b)) && is_out r

    pub reached_out : (m n : ℕ) (r : List ℕ) (a : Spot) → a.scope < length t.scopes → a.scope < m → suc a.scope < n
        → onto (spot 0 r) (reach n U (moved p a)) ≡ onto (spot 0 r) (reach m t a) && is_out r
    unfolding goes_on
    reached_out zero n r a less l k = absurd (omega (arith, l))
    reached_out (suc m) zero r a less l k = absurd (omega (arith, k))
    reached_out (suc m) (suc n) r a less l k = by (λ d x y z. reached_out m n r d x y z) (step (λ x. x.exports) t a) refl
      where
        front : (x y : Bool) → x ≡ y → same_spot (spot 0 r) (moved p a) || x ≡ y
        front x y e = ap (λ b. b || x) (below_none r a) ∙ e

        alike : ((d : Spot) → d.scope < length t.scopes → d.scope < m → suc d.scope < n → onto (spot 0 r) (reach n U (moved p d)) ≡ onto (spot 0 r) (reach m t d) && is_out r)
            → (s : Step) → step (λ x. x.exports) t a ≡ s → OutAlike m n r a s
        alike again Stays e =
            front false ((same_spot (spot 0 r) a || false) && is_out r) (sym (ap (λ b. b && is_out r) (or_false (same_spot (spot 0 r) a)) ∙ none_out r a (λ same.
            let q = both_are (nat_eq 0 a.scope) (bytes_eq r a.record_name) same in
            ap is_out ((bytes_eq-Decides r a.record_name).0 q.1) ∙ stays_in a less e (sym (eqb-true 0 a.scope q.0)))))
        alike again (Goes d) e =
            let down = steps_down t inward (λ x. x.exports) a d e in
            front (onto (spot 0 r) (reach n U (moved p d))) ((same_spot (spot 0 r) a || onto (spot 0 r) (reach m t d)) && is_out r)
            (again d (omega (arith, down, less)) (omega (arith, down, l)) (omega (arith, down, k))
            ∙ ap (λ b. (b || onto (spot 0 r) (reach m t d)) && is_out r)
            (sym (and_none (nat_eq 0 a.scope) (bytes_eq r a.record_name) (differ 0 a.scope (λ q. omega (arith, q, down))))))
        alike again Leaves e =
            let L = leaves_from a less e in
            front (onto (spot 0 r) (reach n U (spot 0 a.record_name))) ((same_spot (spot 0 r) a || false) && is_out r)
            (ap (onto (spot 0 r)) (goes_out n a.scope a.record_name k)
            ∙ (or_false (bytes_eq r a.record_name)
            ∙ (both_out r a.record_name (λ same. ap is_out ((bytes_eq-Decides r a.record_name).0 same) ∙ L.out)
            ∙ (ap (λ b. (b && bytes_eq r a.record_name) && is_out r) (sym (eq-eqb 0 a.scope (sym L.first)))
            ∙ ap (λ b. b && is_out r) (sym (or_false (same_spot (spot 0 r) a)))))))

        by : ((d : Spot) → d.scope < length t.scopes → d.scope < m → suc d.scope < n → onto (spot 0 r) (reach n U (moved p d)) ≡ onto (spot 0 r) (reach m t d) && is_out r)
            → (s : Step) → step (λ x. x.exports) t a ≡ s → onto (spot 0 r) (reach (suc n) U (moved p a)) ≡ onto (spot 0 r) (reach (suc m) t a) && is_out r
        by again s e =
            ap (onto (spot 0 r)) (reach_there n a less s e) ∙ (alike again s e ∙ ap (λ bs. onto (spot 0 r) bs && is_out r) (sym (reach_here m a s e)))
