-- The pair that is found by the number of its item is the one that is given for the name.
use Rattle.std.proofs.Common.{◌≡◌, ℕ, zero, suc, ◌+◌, ◌<◌, ◌≤◌, Bool, true, false, List, [], ◌∷◌, length, drop, get_or, map, Contains, Some, slice_get, refl, sym, ap, ◌∙◌, arith, if◌then◌else◌}
use Rattle.std.proofs.lemmas.List.{drop_more, drop_all}
use Rattle.std.proofs.lemmas.Option.{none-some, same_Some, slice_get-get_or}
use Rattle.mesa_types.specs.Sound.{IsAscending}
use Rattle.mesa_types.specs.declared.faces.Face.{Face}
use Rattle.mesa_types.specs.declared.faces.Pair.{Pair}
use Rattle.config_rules.specs.Exporters.{is_named}
use Rattle.config_rules.specs.InOrder.{NamesDiffer}
use Rattle.config_rules.specs.Resolves.{given_for}
use Rattle.import_binder.proofs.Ordered.{item_number, ascending_rest, lesser, one_item}

module _ (face : Face) (differ : NamesDiffer face) (name : List ℕ) where
  given_there : (ps : List Pair) → IsAscending (map item_number ps) → (k : ℕ) (p : Pair) → slice_get ps k ≡ Some p → is_named name (slice_get face.items p.item) ≡ true → p.number ≡ given_for name face ps
  unfolding given_for
  given_there [] h k p e named = absurd (none-some p e)
  given_there (q ∷ ps) h zero p e named = first (is_named name (slice_get face.items q.item)) (ap (λ (z : Pair). is_named name (slice_get face.items z.item)) (same_Some q p e) ∙ named)
    where
      first : (b : Bool) → b ≡ true → p.number ≡ (if b then q.number else given_for name face ps)
      first true g = ap (λ (z : Pair). z.number) (sym (same_Some q p e))
      first false g = cc
  given_there (q ∷ ps) h (suc k) p e named = by (given_there ps (ascending_rest q.item (map item_number ps) h) k p e named) (is_named name (slice_get face.items q.item)) refl
    where
      by : p.number ≡ given_for name face ps → (b : Bool) → is_named name (slice_get face.items q.item) ≡ b → p.number ≡ (if b then q.number else given_for name face ps)
      by again true g =
          let same : q.item ≡ p.item = one_item face differ name q.item p.item g named in
          let less : q.item < p.item = lesser q ps h k p e in
          absurd (omega (arith, same, less))
      by again false g = again

  pub given_found : (ps : List Pair) → IsAscending (map item_number ps) → (p : Pair) → Contains ps p → (n : ℕ) → p.item ≡ n → is_named name (slice_get face.items n) ≡ true → p.number ≡ given_for name face ps
  given_found ps h p (k, less, is) n item named =
      given_there ps h k p (slice_get-get_or ps k p less ∙ ap Some is) (ap (λ i. is_named name (slice_get face.items i)) item ∙ named)

module _ (face : Face) (name : List ℕ) (ps : List Pair) (i : ℕ) (p d : Pair) where
  -- one pair after the other
  next_given : i < length ps → p ≡ get_or ps i d → given_for name face (drop i ps) ≡ given_for name face (p ∷ drop (i + 1) ps)
  next_given less is = ap (given_for name face) (drop_more ps i d less ∙ ap (λ (y : Pair). y ∷ drop (i + 1) ps) (sym is))

  here : (b : Bool) (rest : ℕ) → is_named name (slice_get face.items p.item) ≡ b → (if is_named name (slice_get face.items p.item) then p.number else rest) ≡ (if b then p.number else rest)
  here b rest e = ap (λ c. if c then p.number else rest) e

  pub given_here : i < length ps → p ≡ get_or ps i d → is_named name (slice_get face.items p.item) ≡ true → given_for name face (drop i ps) ≡ given_for name face ps → p.number ≡ given_for name face ps
  unfolding given_for
  given_here less is named before = sym (here true (given_for name face (drop (i + 1) ps)) named) ∙ sym (next_given less is) ∙ before

  pub given_later : i < length ps → p ≡ get_or ps i d → is_named name (slice_get face.items p.item) ≡ false → given_for name face (drop i ps) ≡ given_for name face ps
      → given_for name face (drop (i + 1) ps) ≡ given_for name face ps
  unfolding given_for
  given_later less is named before = sym (here false (given_for name face (drop (i + 1) ps)) named) ∙ sym (next_given less is) ∙ before

pub none_given : (face : Face) (name : List ℕ) (ps : List Pair) (i : ℕ) → length ps ≤ i → given_for name face (drop i ps) ≡ given_for name face ps → 0 ≡ given_for name face ps
unfolding given_for
none_given face name ps i past before = ap (given_for name face) (sym (drop_all i ps past)) ∙ before
