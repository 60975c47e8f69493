-- Elements of lists: more on the membership by recursion, and on elements by their numbers.
use Rattle.std.proofs.Common.{◌≡◌, ℕ, zero, suc, ◌+◌, ◌<◌, ◌⊎◌, inl, inr, Bool, true, false, List, [], ◌∷◌, ◌++◌, length, map, filter, flat_map, All, Contains, Some, slice_get, refl, sym, ap, subst, ◌∙◌, arith, if◌then◌else◌}
use Rattle.std.proofs.lemmas.Option.{none-some, same_Some, slice_get_within, get_or_from_slice_get, slice_get-get_or}
use Rattle.config_rules.proofs.Members.{Mem}

pub get_mem : {A : Type 0} (xs : List A) (x : A) → Mem x xs → (k : ℕ) × (slice_get xs k ≡ Some x)
get_mem [] x h = absurd h
get_mem (y ∷ ys) x (inl e) = (zero, ap Some e)
get_mem (y ∷ ys) x (inr m) = let r = get_mem ys x m in (suc r.0, r.1)

pub get_contains : {A : Type 0} (xs : List A) (k : ℕ) (x : A) → slice_get xs k ≡ Some x → Contains xs x
get_contains xs k x e = (k, slice_get_within xs k x e, get_or_from_slice_get xs k x x e)

pub mem_contains : {A : Type 0} (xs : List A) (x : A) → Mem x xs → Contains xs x
mem_contains xs x h = let r = get_mem xs x h in get_contains xs r.0 x r.1

-- what is so of all is so of an element
pub all_mem : {A : Type 0} (P : A → Type 0) (xs : List A) → All P xs → (x : A) → Mem x xs → P x
all_mem P xs h x m = let r = get_mem xs x m in subst P (get_or_from_slice_get xs r.0 x x r.1) (h r.0 x (slice_get_within xs r.0 x r.1))

-- and the other way round, by numbers
pub all_by : {A : Type 0} (P : A → Type 0) (xs : List A) → ((k : ℕ) (x : A) → slice_get xs k ≡ Some x → P x) → All P xs
all_by P xs h k d l = h k _ (slice_get-get_or xs k d l)

pub mem_front : {A : Type 0} (xs ys : List A) (x : A) → Mem x xs → Mem x (xs ++ ys)
mem_front [] ys x h = absurd h
mem_front (y ∷ xs) ys x (inl e) = inl e
mem_front (y ∷ xs) ys x (inr m) = inr (mem_front xs ys x m)

pub mem_behind : {A : Type 0} (xs ys : List A) (x : A) → Mem x ys → Mem x (xs ++ ys)
mem_behind [] ys x h = h
mem_behind (y ∷ xs) ys x h = inr (mem_behind xs ys x h)

pub mem_filter : {A : Type 0} (p : A → Bool) (xs : List A) (x : A) → Mem x (filter p xs) → Mem x xs × (p x ≡ true)
mem_filter p [] x h = absurd h
mem_filter {A} p (y ∷ ys) x h = by (mem_filter p ys x) (p y) refl h
  where
    by : (Mem x (filter p ys) → Mem x ys × (p x ≡ true)) → (b : Bool) → p y ≡ b → Mem x (if b then y ∷ filter p ys else filter p ys) → ((y ≡ x) ⊎ Mem x ys) × (p x ≡ true)
    by again false e m = let r = again m in (inr r.0, r.1)
    by again true e (inl s) = (inl s, subst (λ (z : A). p z ≡ true) s e)
    by again true e (inr m) = let r = again m in (inr r.0, r.1)

pub filter_mem : {A : Type 0} (p : A → Bool) (xs : List A) (x : A) → Mem x xs → p x ≡ true → Mem x (filter p xs)
filter_mem p [] x h e = absurd h
filter_mem {A} p (y ∷ ys) x h e = by (λ m. filter_mem p ys x m e) (p y) refl h
  where
    by : (Mem x ys → Mem x (filter p ys)) → (b : Bool) → p y ≡ b → (y ≡ x) ⊎ Mem x ys → Mem x (if b then y ∷ filter p ys else filter p ys)
    by again true f (inl s) = inl s
    by again true f (inr m) = inr (again m)
    by again false f (inl s) = absurd (let g : false ≡ true = sym f ∙ (ap p s ∙ e) in cc)
    by again false f (inr m) = again m

pub mem_map : {A B : Type 0} (f : A → B) (xs : List A) (x : A) → Mem x xs → Mem (f x) (map f xs)
mem_map f [] x h = absurd h
mem_map f (y ∷ ys) x (inl e) = inl (ap f e)
mem_map f (y ∷ ys) x (inr m) = inr (mem_map f ys x m)

pub map_mem : {A B : Type 0} (f : A → B) (xs : List A) (y : B) → Mem y (map f xs) → (x : A) × Mem x xs × (f x ≡ y)
map_mem f [] y h = absurd h
map_mem f (x ∷ xs) y (inl e) = (x, inl refl, e)
map_mem f (x ∷ xs) y (inr m) = let r = map_mem f xs y m in (r.0, inr r.1, r.2)

pub mem_flat : {A B : Type 0} (f : A → List B) (xs : List A) (x : A) (y : B) → Mem x xs → Mem y (f x) → Mem y (flat_map f xs)
mem_flat f [] x y h m = absurd h
mem_flat f (z ∷ xs) x y (inl e) m = mem_front (f z) (flat_map f xs) y (subst (λ w. Mem y (f w)) (sym e) m)
mem_flat f (z ∷ xs) x y (inr n) m = mem_behind (f z) (flat_map f xs) y (mem_flat f xs x y n m)

pub get_map : {A B : Type 0} (f : A → B) (xs : List A) (k : ℕ) (y : B) → slice_get (map f xs) k ≡ Some y → (x : A) × (slice_get xs k ≡ Some x) × (f x ≡ y)
get_map f [] k y e = absurd (none-some y e)
get_map f (x ∷ xs) zero y e = (x, refl, same_Some (f x) y e)
get_map f (x ∷ xs) (suc k) y e = get_map f xs k y e

pub get_front : {A : Type 0} (xs ys : List A) (k : ℕ) (x : A) → slice_get xs k ≡ Some x → slice_get (xs ++ ys) k ≡ Some x
get_front [] ys k x e = absurd (none-some x e)
get_front (y ∷ xs) ys zero x e = e
get_front (y ∷ xs) ys (suc k) x e = get_front xs ys k x e

pub get_behind : {A : Type 0} (xs ys : List A) (k : ℕ) → slice_get (xs ++ ys) (length xs + k) ≡ slice_get ys k
get_behind {A} [] ys k = ap (λ n. slice_get ys n) {x = length {A = A} [] + k} {y = k} (omega arith)
get_behind (x ∷ xs) ys k = ap (λ n. slice_get (x ∷ (xs ++ ys)) n) {x = length (x ∷ xs) + k} {y = suc (length xs + k)} (omega arith) ∙ get_behind xs ys k

pub get_there : {A : Type 0} (xs : List A) (k : ℕ) → k < length xs → (x : A) × (slice_get xs k ≡ Some x)
get_there [] k lt = absurd (omega (arith, lt))
get_there (x ∷ xs) zero lt = (x, refl)
get_there (x ∷ xs) (suc k) lt = get_there xs k (omega (arith, lt))

-- what stands at one place is one
pub one_there : {A : Type 0} (xs : List A) (k : ℕ) (x y : A) → slice_get xs k ≡ Some x → slice_get xs k ≡ Some y → x ≡ y
one_there xs k x y e f = same_Some x y (sym e ∙ f)
