-- One element of a list more, in a loop over what is shown of it.
use Rattle.std.proofs.Common.{◌≡◌, ℕ, zero, suc, ◌+◌, ◌<◌, ◌≤◌, List, [], ◌∷◌, length, drop, map, get_or, Some, None, slice_get, refl, sym, ap, ◌∙◌, arith}
use Rattle.std.proofs.lemmas.Option.{none-some, same_Some}
use Rattle.std.proofs.lemmas.List.{drop_more, drop_all, drop-map}

module _ {A : Type 0} (xs : List A) (i : ℕ) where
  pub next : (x d : A) → i < length xs → x ≡ get_or xs i d → drop i xs ≡ x ∷ drop (i + 1) xs
  next x d less is = drop_more xs i d less ∙ ap (λ y. y ∷ drop (i + 1) xs) (sym is)

  pub none_left : length xs ≤ i → drop i xs ≡ []
  none_left past = drop_all i xs past

module _ {A B : Type 0} (g : A → B) (xs : List A) (i : ℕ) where
  pub next_shown : (x d : A) → i < length xs → x ≡ get_or xs i d → drop i (map g xs) ≡ g x ∷ drop (i + 1) (map g xs)
  next_shown x d less is = drop-map g i xs ∙ ap (map g) (next xs i x d less is) ∙ ap (λ l. g x ∷ l) (sym (drop-map g (i + 1) xs))

-- by a look at the place
pub next_got : {A : Type 0} (xs : List A) (i : ℕ) (x : A) → Some x ≡ slice_get xs i → drop i xs ≡ x ∷ drop (i + 1) xs
next_got [] i x is = absurd (none-some x (sym is))
next_got (y ∷ xs) zero x is = ap (λ z. z ∷ xs) (sym (same_Some x y is))
next_got (y ∷ xs) (suc i) x is = next_got xs i x is ∙ ap (λ n. x ∷ drop n (y ∷ xs)) {x = suc (i + 1)} {y = suc i + 1} (omega arith)

pub none_got : {A : Type 0} (xs : List A) (i : ℕ) → None ≡ slice_get xs i → drop i xs ≡ []
none_got [] zero is = refl
none_got [] (suc i) is = refl
none_got (y ∷ xs) zero is = absurd (none-some y is)
none_got (y ∷ xs) (suc i) is = none_got xs i is
