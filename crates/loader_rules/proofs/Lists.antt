-- Elements of lists by their numbers.
use Rattle.std.proofs.Common.{◌≡◌, ℕ, zero, suc, ◌+◌, ◌<◌, ◌⊎◌, inl, inr, Bool, true, false, List, [], ◌∷◌, ◌++◌, length, map, filter, flat_map, Some, slice_get, refl, sym, ap, subst, ◌∙◌, arith, if◌then◌else◌}
use Rattle.std.proofs.lemmas.Option.{none-some, same_Some}
use Rattle.config_rules.proofs.Members.{Mem}

pub append_none : {A : Type 0} (xs ys : List A) → xs ++ ys ≡ [] → (xs ≡ []) × (ys ≡ [])
append_none [] ys e = (refl, e)
append_none (x ∷ xs) ys e = absurd cc

pub get_front : {A : Type 0} (xs ys : List A) (k : ℕ) (x : A) → slice_get xs k ≡ Some x → slice_get (xs ++ ys) k ≡ Some x
get_front [] ys k x e = absurd (none-some x e)
get_front (y ∷ xs) ys zero x e = e
get_front (y ∷ xs) ys (suc k) x e = get_front xs ys k x e

pub get_behind : {A : Type 0} (xs ys : List A) (k : ℕ) → slice_get (xs ++ ys) (length xs + k) ≡ slice_get ys k
get_behind {A} [] ys k = ap (λ n. slice_get ys n) {x = length {A = A} [] + k} {y = k} (omega arith)
get_behind (x ∷ xs) ys k = ap (λ n. slice_get (x ∷ (xs ++ ys)) n) {x = length (x ∷ xs) + k} {y = suc (length xs + k)} (omega arith) ∙ get_behind xs ys k

pub get_there : {A : Type 0} (xs : List A) (k : ℕ) → k < length xs → (x : A) × (slice_get xs k ≡ Some x)
get_there [] k lt = absurd (omega (arith, lt))
get_there (x ∷ xs) zero lt = (x, refl)
get_there (x ∷ xs) (suc k) lt = get_there xs k (omega (arith, lt))

pub get_map : {A B : Type 0} (f : A → B) (xs : List A) (k : ℕ) (y : B) → slice_get (map f xs) k ≡ Some y → (x : A) × (slice_get xs k ≡ Some x) × (f x ≡ y)
get_map f [] k y e = absurd (none-some y e)
get_map f (x ∷ xs) zero y e = (x, refl, same_Some (f x) y e)
get_map f (x ∷ xs) (suc k) y e = get_map f xs k y e

pub get_mem : {A : Type 0} (xs : List A) (x : A) → Mem x xs → (k : ℕ) × (slice_get xs k ≡ Some x)
get_mem [] x h = absurd h
get_mem (y ∷ ys) x (inl e) = (zero, ap Some e)
get_mem (y ∷ ys) x (inr m) = let r = get_mem ys x m in (suc r.0, r.1)

-- an element of two lists is one of the first or of the second
pub record Behind {A : Type 0} (xs ys : List A) (k : ℕ) (y : A) : Type 0 where
  pub at : ℕ
  pub number : k ≡ length xs + at
  pub is : slice_get ys at ≡ Some y

pub get_split : {A : Type 0} (xs ys : List A) (k : ℕ) (y : A) → slice_get (xs ++ ys) k ≡ Some y → (slice_get xs k ≡ Some y) ⊎ Behind xs ys k y
get_split {A} [] ys k y e = inr (record { at = k; number = omega arith; is = e })
get_split (x ∷ xs) ys zero y e = inl e
get_split (x ∷ xs) ys (suc k) y e = by (get_split xs ys k y e)
  where
    by : (slice_get xs k ≡ Some y) ⊎ Behind xs ys k y → (slice_get xs k ≡ Some y) ⊎ Behind (x ∷ xs) ys (suc k) y
    by (inl h) = inl h
    by (inr h) = let n = h.number in inr (record { at = h.at; number = omega (arith, n); is = h.is })

-- the elements that pass a test
pub mem_filter : {A : Type 0} (p : A → Bool) (xs : List A) (x : A) → Mem x (filter p xs) → Mem x xs × (p x ≡ true)
mem_filter p [] x h = absurd h
mem_filter {A} p (y ∷ ys) x h = by (mem_filter p ys x) (p y) refl h
  where
    by : (Mem x (filter p ys) → Mem x ys × (p x ≡ true)) → (b : Bool) → p y ≡ b → Mem x (if b then y ∷ filter p ys else filter p ys) → ((y ≡ x) ⊎ Mem x ys) × (p x ≡ true)
    by again false e m = let r = again m in (inr r.0, r.1)
    by again true e (inl s) = (inl s, subst (λ (z : A). p z ≡ true) s e)
    by again true e (inr m) = let r = again m in (inr r.0, r.1)

pub filter_mem : {A : Type 0} (p : A → Bool) (xs : List A) (x : A) → Mem x xs → p x ≡ true → Mem x (filter p xs)
filter_mem p [] x h e = absurd h
filter_mem {A} p (y ∷ ys) x h e = by (λ m. filter_mem p ys x m e) (p y) refl h
  where
    by : (Mem x ys → Mem x (filter p ys)) → (b : Bool) → p y ≡ b → (y ≡ x) ⊎ Mem x ys → Mem x (if b then y ∷ filter p ys else filter p ys)
    by again true f (inl s) = inl s
    by again true f (inr m) = inr (again m)
    by again false f (inl s) = absurd (let g : false ≡ true = sym f ∙ (ap p s ∙ e) in cc)
    by again false f (inr m) = again m

pub mem_front : {A : Type 0} (xs ys : List A) (x : A) → Mem x xs → Mem x (xs ++ ys)
mem_front [] ys x h = absurd h
mem_front (y ∷ xs) ys x (inl e) = inl e
mem_front (y ∷ xs) ys x (inr m) = inr (mem_front xs ys x m)

pub mem_behind : {A : Type 0} (xs ys : List A) (x : A) → Mem x ys → Mem x (xs ++ ys)
mem_behind [] ys x h = h
mem_behind (y ∷ xs) ys x h = inr (mem_behind xs ys x h)

pub mem_flat : {A B : Type 0} (f : A → List B) (xs : List A) (x : A) (y : B) → Mem x xs → Mem y (f x) → Mem y (flat_map f xs)
mem_flat f [] x y h m = absurd h
mem_flat f (z ∷ xs) x y (inl e) m = mem_front (f z) (flat_map f xs) y (subst (λ w. Mem y (f w)) (sym e) m)
mem_flat f (z ∷ xs) x y (inr n) m = mem_behind (f z) (flat_map f xs) y (mem_flat f xs x y n m)

-- a list has a last element, or none
pub record Ends {A : Type 0} (xs : List A) : Type 0 where
  pub front : List A
  pub last : A
  pub are : xs ≡ front ++ last ∷ []

pub ends : {A : Type 0} (xs : List A) → (xs ≡ []) ⊎ Ends xs
ends [] = inl refl
ends {A} (x ∷ xs) = inr (by (ends xs))
  where
    by : (xs ≡ []) ⊎ Ends xs → Ends (x ∷ xs)
    by (inl e) = record { front = []; last = x; are = ap (λ l. x ∷ l) e }
    by (inr h) = record { front = x ∷ h.front; last = h.last; are = ap (λ l. x ∷ l) h.are }
