-- Facts about the elements of a list, from a number on.
use Rattle.std.proofs.Common.{◌≡◌, refl, sym, ap, ◌∙◌, subst, ℕ, zero, suc, ◌+◌, ◌<◌, ◌⊎◌, inl, inr, ⊎_elim, List, [], ◌∷◌, ◌++◌, length, All, Some, get_or, append_assoc, length-append, arith}
use Rattle.std.proofs.lemmas.Option.{slice_get-get_or}
use Rattle.std.specs.Prelude.{slice_get}

-- each element and its number have it
abbrev pub From : {X : Type 0} → (ℕ → X → Type 0) → ℕ → List X → Type 0
From P n [] = Unit {0}
From P n (x ∷ xs) = P n x × From P (suc n) xs

pub from_parts : {X : Type 0} (P : ℕ → X → Type 0) (n : ℕ) (xs ys : List X) → From P n (xs ++ ys) → From P n xs × From P (n + length xs) ys
from_parts {X} P n [] ys h = (tt, subst (λ k. From P k ys) {x = n} {y = n + length {A = X} []} (omega arith) h)
from_parts P n (x ∷ xs) ys h =
    let r = from_parts P (suc n) xs ys h.1 in
    ((h.0, r.0), subst (λ k. From P k ys) {x = suc n + length xs} {y = n + length (x ∷ xs)} (omega arith) r.1)

pub from_mono : {X : Type 0} (P R : ℕ → X → Type 0) → ((k : ℕ) (x : X) → P k x → R k x) → (n : ℕ) (xs : List X) → From P n xs → From R n xs
from_mono P R f n [] h = tt
from_mono P R f n (x ∷ xs) h = (f n x h.0, from_mono P R f (suc n) xs h.1)

-- the element of this number is this one
abbrev pub In : {X : Type 0} → List X → ℕ → X → Type 0
In L k x = slice_get L k ≡ Some x

pub get_front : {X : Type 0} (xs ys : List X) (k : ℕ) (x : X) → slice_get xs k ≡ Some x → slice_get (xs ++ ys) k ≡ Some x
get_front [] ys k x e = cc
get_front (y ∷ xs) ys zero x e = e
get_front (y ∷ xs) ys (suc k) x e = get_front xs ys k x e

pub get_seam : {X : Type 0} (xs : List X) (y : X) (ys : List X) → slice_get (xs ++ y ∷ ys) (length xs) ≡ Some y
get_seam [] y ys = refl
get_seam (x ∷ xs) y ys = get_seam xs y ys

-- a list lies in a longer one, behind what stands before it
pub from_whole : {X : Type 0} (L before xs : List X) (n : ℕ) → L ≡ before ++ xs → n ≡ length before → From (In L) n xs
from_whole L before [] n e m = tt
from_whole L before (x ∷ xs) n e m = (
  ap (λ l. slice_get l n) e ∙ ap (λ k. slice_get (before ++ x ∷ xs) k) m ∙ get_seam before x xs,
  from_whole L (before ++ x ∷ []) xs (suc n) (e ∙ sym (append_assoc before (x ∷ []) xs)) (omega (arith, m, length-append before (x ∷ []))),
)

pub from_more : {X : Type 0} (L M xs : List X) (n : ℕ) → From (In L) n xs → From (In (L ++ M)) n xs
from_more L M xs n h = from_mono (In L) (In (L ++ M)) (λ k x e. get_front L M k x e) n xs h

-- an element of two lists is of the first, or of the second at what is left of its number
pub get_cases : {X : Type 0} (xs ys : List X) (k : ℕ) (x : X) → slice_get (xs ++ ys) k ≡ Some x
    → ((k < length xs) × (slice_get xs k ≡ Some x)) ⊎ ((m : ℕ) × (k ≡ length xs + m) × (slice_get ys m ≡ Some x))
get_cases [] ys k x e = inr (k, omega arith, e)
get_cases (y ∷ xs) ys zero x e = inl (omega arith, e)
get_cases (y ∷ xs) ys (suc k) x e =
    ⊎_elim (λ h. inl (omega (arith, h.0), h.1)) (λ h. inr (h.0, omega (arith, h.1), h.2)) (get_cases xs ys k x e)

pub get_there : {X : Type 0} (xs : List X) (k : ℕ) → k < length xs → (x : X) × (slice_get xs k ≡ Some x)
get_there [] k lt = absurd (omega (arith, lt))
get_there (x ∷ xs) zero lt = (x, refl)
get_there (x ∷ xs) (suc k) lt = get_there xs k (omega (arith, lt))

-- what each element has
pub all_get : {X : Type 0} (P : X → Type 0) (xs : List X) (k : ℕ) (x : X) → slice_get xs k ≡ Some x → All P xs → P x
all_get P [] k x e h = cc
all_get P (y ∷ xs) zero x e h = let same : y ≡ x = cc in subst P same (h 0 y (omega arith))
all_get P (y ∷ xs) (suc k) x e h = all_get P xs k x e (λ n d lt. h (suc n) d (omega (arith, lt)))

pub all_from_get : {X : Type 0} (P : X → Type 0) (xs : List X) → ((k : ℕ) (x : X) → slice_get xs k ≡ Some x → P x) → All P xs
all_from_get P xs f k d lt = f k (get_or xs k d) (slice_get-get_or xs k d lt)
