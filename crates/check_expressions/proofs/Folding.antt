-- Lists that are gone through part by part.
use Rattle.std.proofs.Common.{◌≡◌, ◌<◌, ◌≤◌, ◌+◌, ℕ, List, [], ◌∷◌, map, drop, length, get_or, Ok, Err, refl, sym, ap, ◌∙◌}
use Rattle.std.proofs.lemmas.List.{drop_more, drop_all}
use Rattle.check_rules.specs.Steps.{Check, Checked, State, and_then}
use Rattle.check_operands.specs.Folds.{folded}

module _ {A B : Type 0} where
  pub folded_one : (step : B → A → Check B) (done : B) (x : A) (xs : List A) (σ : State) → folded step done (x ∷ xs) σ ≡ and_then (step done x σ) (λ r. folded step r.0 xs r.1)
  unfolding folded
  folded_one step done x xs σ = refl

  pub folded_none : (step : B → A → Check B) (done : B) (σ : State) → folded step done [] σ ≡ Ok (done, σ)
  unfolding folded
  folded_none step done σ = refl

  -- at a part of the list
  pub folded_at : (step : B → A → Check B) (done : B) (all : List A) (i : ℕ) (x : A) (σ : State) → i < length all → x ≡ get_or all i x
      → folded step done (drop i all) σ ≡ and_then (step done x σ) (λ r. folded step r.0 (drop (i + 1) all) r.1)
  folded_at step done all i x σ inside here =
      ap (λ xs. folded step done xs σ) (drop_more all i x inside ∙ ap (λ y. y ∷ drop (i + 1) all) (sym here)) ∙ folded_one step done x (drop (i + 1) all) σ

  pub folded_end : (step : B → A → Check B) (done : B) (all : List A) (i : ℕ) (σ : State) → length all ≤ i → folded step done (drop i all) σ ≡ Ok (done, σ)
  folded_end step done all i σ outside = ap (λ xs. folded step done xs σ) (drop_all i all outside) ∙ folded_none step done σ

-- at a part of a list that is seen through a view
pub folded_view_at : {A B X : Type 0} (view : X → A) (step : B → A → Check B) (done : B) (all : List X) (i : ℕ) (x : X) (σ : State) → i < length all → x ≡ get_or all i x
    → folded step done (map view (drop i all)) σ ≡ and_then (step done (view x) σ) (λ r. folded step r.0 (map view (drop (i + 1) all)) r.1)
folded_view_at view step done all i x σ inside here =
    ap (λ xs. folded step done (map view xs) σ) (drop_more all i x inside ∙ ap (λ y. y ∷ drop (i + 1) all) (sym here)) ∙ folded_one step done (view x) (map view (drop (i + 1) all)) σ

pub folded_view_end : {A B X : Type 0} (view : X → A) (step : B → A → Check B) (done : B) (all : List X) (i : ℕ) (σ : State) → length all ≤ i
    → folded step done (map view (drop i all)) σ ≡ Ok (done, σ)
folded_view_end view step done all i σ outside = ap (λ xs. folded step done (map view xs) σ) (drop_all i all outside) ∙ folded_none step done σ

-- steps one after the other
pub in_turn : {A B C : Type 0} (r : Checked A) (f : A → Checked B) (g : B → Checked C) → and_then (and_then r f) g ≡ and_then r (λ a. and_then (f a) g)
in_turn (Ok a) f g = refl
in_turn (Err e) f g = refl
