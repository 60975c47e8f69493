-- Pairs of records, one after the other.
use Rattle.std.proofs.Common.{◌≡◌, ℕ, ◌+◌, ◌<◌, ◌≤◌, length, drop, get_or, List, [], ◌∷◌, ◌++◌, refl, sym, ap, ◌∙◌, append-nil, append_assoc}
use Rattle.std.proofs.lemmas.List.{drop_more, drop_all, nil_from_length}
use Rattle.mesa_base.specs.declared.identifier.Identifier.{Identifier}
use Rattle.config_rules.specs.Components.{names_of}
use Rattle.config_rules.specs.Grown.{pairs}
use Rattle.config_rules.specs.declared.tree.RecordPair.{RecordPair}

module _ (made all : List RecordPair) where
  pub one_pair : (new : List RecordPair) (rest more : List Identifier) (others behind : List (List ℕ)) (i : Identifier) (r : List ℕ) → rest ≡ i ∷ more → others ≡ r ∷ behind
      → new ≡ made ++ record { inside = i.name; outside = r } ∷ [] → made ++ pairs (names_of rest) others ≡ all → new ++ pairs (names_of more) behind ≡ all
  unfolding pairs
  one_pair new rest more others behind i r p q grown before_now =
      ap (λ l. l ++ pairs (names_of more) behind) grown
      ∙ append_assoc made (record { inside = i.name; outside = r } ∷ []) (pairs (names_of more) behind)
      ∙ (λ j. made ++ pairs (names_of (sym p j)) (sym q j))
      ∙ before_now

  no_more : (xs ys : List (List ℕ)) → ys ≡ [] → pairs xs ys ≡ []
  unfolding pairs
  no_more [] ys e = refl
  no_more (x ∷ xs) ys e = ap (λ l. pairs (x ∷ xs) l) e

  pub no_outside : (rest : List Identifier) (others : List (List ℕ)) → length others ≡ 0 → made ++ pairs (names_of rest) others ≡ all → made ≡ all
  no_outside rest others e before_now =
      sym (append-nil made) ∙ ap (λ l. made ++ l) (sym (no_more (names_of rest) others (nil_from_length others e))) ∙ before_now

  pub no_inside : (rest : List Identifier) (others : List (List ℕ)) → length rest ≡ 0 → made ++ pairs (names_of rest) others ≡ all → made ≡ all
  unfolding pairs
  no_inside rest others e before_now =
      sym (append-nil made) ∙ ap (λ l. made ++ pairs (names_of l) others) (sym (nil_from_length rest e)) ∙ before_now

  pub own_pair : (new : List RecordPair) (names : List Identifier) (k : ℕ) (i d : Identifier) → k < length names → i ≡ get_or names k d
      → new ≡ made ++ record { inside = i.name; outside = i.name } ∷ [] → made ++ pairs (names_of (drop k names)) (names_of (drop k names)) ≡ all
      → new ++ pairs (names_of (drop (k + 1) names)) (names_of (drop (k + 1) names)) ≡ all
  own_pair new names k i d less is grown before_now =
      let e : drop k names ≡ i ∷ drop (k + 1) names = drop_more names k d less ∙ ap (λ x. x ∷ drop (k + 1) names) (sym is) in
      one_pair new (drop k names) (drop (k + 1) names) (names_of (drop k names)) (names_of (drop (k + 1) names)) i i.name e (ap names_of e) grown before_now

  pub own_pairs_end : (names : List Identifier) (k : ℕ) → length names ≤ k → made ++ pairs (names_of (drop k names)) (names_of (drop k names)) ≡ all → made ≡ all
  unfolding pairs
  own_pairs_end names k past before_now =
      sym (append-nil made) ∙ ap (λ l. made ++ pairs (names_of l) (names_of l)) (sym (drop_all k names past)) ∙ before_now
