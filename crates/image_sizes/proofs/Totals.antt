-- Sums over lists.
use Rattle.std.specs.Prelude.{◌≡◌, ℕ, zero, suc, ◌+◌, ◌*◌, ◌≤◌, Bool, true, false, List, [], ◌∷◌, ◌++◌, length, map, flat_map, filter, drop, All, Option, Some, None, slice_get, if◌then◌else◌}
use Rattle.std.proofs.Common.{refl, arith}
use Rattle.std.proofs.lemmas.List.Elements.{All-head, All-tail}
use Rattle.file_sizes.specs.Sizes.{total}
use Rattle.file_sizes.proofs.Lists.{total_of}

pub total_append : {A : Type 0} (f : A → ℕ) (xs ys : List A) → total f (xs ++ ys) ≡ total f xs + total f ys
unfolding total
total_append f [] ys = omega arith
total_append f (x ∷ xs) ys = omega (arith, total_append f xs ys)

pub total_map : {A B : Type 0} (f : B → ℕ) (g : A → B) (xs : List A) → total f (map g xs) ≡ total (λ x. f (g x)) xs
unfolding total
total_map f g [] = refl
total_map f g (x ∷ xs) = omega (arith, total_map f g xs)

pub total_flat : {A B : Type 0} (f : B → ℕ) (g : A → List B) (xs : List A) → total f (flat_map g xs) ≡ total (λ x. total f (g x)) xs
unfolding total
total_flat f g [] = refl
total_flat f g (x ∷ xs) = omega (arith, total_append f (g x) (flat_map g xs), total_flat f g xs)

pub total_filter : {A : Type 0} (f : A → ℕ) (p : A → Bool) (xs : List A) → total f (filter p xs) ≤ total f xs
unfolding total
total_filter f p [] = omega arith
total_filter {A} f p (x ∷ xs) = by (p x) (total_filter f p xs)
  where
    by : (b : Bool) → total f (filter p xs) ≤ total f xs → total f (if b then x ∷ filter p xs else filter p xs) ≤ f x + total f xs
    by true h = omega (arith, h)
    by false h = omega (arith, h)

-- what is so of each is so of the sums
pub total_less : {A : Type 0} (f g : A → ℕ) (P : A → Type 0) → ((x : A) → P x → f x ≤ g x) → (xs : List A) → All P xs → total f xs ≤ total g xs
unfolding total
total_less f g P less [] h = omega arith
total_less f g P less (x ∷ xs) h = omega (arith, less x (All-head P x xs h), total_less f g P less xs (All-tail P x xs h))

pub total_both : {A : Type 0} (f g : A → ℕ) (xs : List A) → total (λ x. f x + g x) xs ≡ total f xs + total g xs
unfolding total
total_both f g [] = refl
total_both f g (x ∷ xs) = omega (arith, total_both f g xs)

-- each at most so much
pub total_most : {A : Type 0} (f : A → ℕ) (n : ℕ) (P : A → Type 0) → ((x : A) → P x → f x ≤ n) → (xs : List A) → All P xs → total f xs ≤ n * length xs
total_most f n P most xs h = omega (arith, total_less f (λ x. n) P most xs h, total_of n xs)

-- ---- what stands at ascending numbers

abbrev pub of_some : {A : Type 0} → (A → ℕ) → Option A → ℕ
of_some f None = 0
of_some f (Some x) = f x

none_behind : {A : Type 0} (f : A → ℕ) (n : ℕ) → total f (drop n []) ≡ 0
unfolding total
none_behind f zero = refl
none_behind f (suc n) = refl

pub one_behind : {A : Type 0} (f : A → ℕ) (n : ℕ) (xs : List A) → of_some f (slice_get xs n) + total f (drop (suc n) xs) ≡ total f (drop n xs)
unfolding total
one_behind f n [] = omega (arith, none_behind f n, none_behind f (suc n))
one_behind f zero (x ∷ xs) = refl
one_behind f (suc n) (x ∷ xs) = one_behind f n xs

pub less_behind : {A : Type 0} (f : A → ℕ) (low n : ℕ) (xs : List A) → low ≤ n → total f (drop n xs) ≤ total f (drop low xs)
unfolding total
less_behind f low n [] l = omega (arith, none_behind f n)
less_behind f zero zero (x ∷ xs) l = omega arith
less_behind f zero (suc n) (x ∷ xs) l = let r = less_behind f zero n xs (omega arith) in omega (arith, r)
less_behind f (suc low) zero (x ∷ xs) l = absurd (omega (arith, l))
less_behind f (suc low) (suc n) (x ∷ xs) l = less_behind f low n xs (omega (arith, l))
