-- Lists: what passes a test of lists that are one behind the other, and of changed elements.
use Rattle.std.proofs.Common.{◌≡◌, ◌⊎◌, inl, inr, Bool, true, false, ◌&&◌, List, [], ◌∷◌, ◌++◌, map, filter, flat_map, refl, ap, subst, ◌∙◌, if◌then◌else◌}
use Rattle.std.proofs.lemmas.Grind.{flat_map-append}
use Rattle.config_rules.proofs.Members.{Mem}

-- ---- what passes a test, of lists one behind the other and of changed elements

pub filter_append : {A : Type 0} (p : A → Bool) (xs ys : List A) → filter p (xs ++ ys) ≡ filter p xs ++ filter p ys
filter_append p [] ys = refl
filter_append {A} p (x ∷ xs) ys = by (p x) (filter_append p xs ys)
  where
    by : (b : Bool) → filter p (xs ++ ys) ≡ filter p xs ++ filter p ys
        → (if b then x ∷ filter p (xs ++ ys) else filter p (xs ++ ys)) ≡ (if b then x ∷ filter p xs else filter p xs) ++ filter p ys
    by true e = ap (λ l. x ∷ l) e
    by false e = e

pub filter_flat : {A B : Type 0} (p : B → Bool) (f : A → List B) (xs : List A) → filter p (flat_map f xs) ≡ flat_map (λ x. filter p (f x)) xs
filter_flat p f [] = refl
filter_flat p f (x ∷ xs) = filter_append p (f x) (flat_map f xs) ∙ ap (λ l. filter p (f x) ++ l) (filter_flat p f xs)

pub filter_map : {A B : Type 0} (p : B → Bool) (f : A → B) (xs : List A) → filter p (map f xs) ≡ map f (filter (λ x. p (f x)) xs)
filter_map p f [] = refl
filter_map {A} p f (x ∷ xs) = by (p (f x)) (filter_map p f xs)
  where
    by : (b : Bool) → filter p (map f xs) ≡ map f (filter (λ y. p (f y)) xs)
        → (if b then f x ∷ filter p (map f xs) else filter p (map f xs)) ≡ map f (if b then x ∷ filter (λ y. p (f y)) xs else filter (λ y. p (f y)) xs)
    by true e = ap (λ l. f x ∷ l) e
    by false e = e

-- where two tests agree on each element
pub filter_alike : {A : Type 0} (p q : A → Bool) (xs : List A) → ((x : A) → Mem x xs → p x ≡ q x) → filter p xs ≡ filter q xs
filter_alike p q [] h = refl
filter_alike p q (x ∷ xs) h =
    ap (λ b. if b then x ∷ filter p xs else filter p xs) (h x (inl refl)) ∙ ap (λ l. if q x then x ∷ l else l) (filter_alike p q xs (λ y m. h y (inr m)))

pub filter_none : {A : Type 0} (p : A → Bool) (xs : List A) → ((x : A) → Mem x xs → p x ≡ false) → filter p xs ≡ []
filter_none p [] h = refl
filter_none p (x ∷ xs) h =
    ap (λ b. if b then x ∷ filter p xs else filter p xs) (h x (inl refl)) ∙ filter_none p xs (λ y m. h y (inr m))

-- where none passes
pub filter_empty : {A : Type 0} (p : A → Bool) (xs : List A) → filter p xs ≡ [] → (x : A) → Mem x xs → p x ≡ false
filter_empty p [] e x m = absurd m
filter_empty {A} p (y ∷ ys) e x m = by (p y) refl (λ g n. filter_empty p ys g x n) e m
  where
    by : (b : Bool) → p y ≡ b → (filter p ys ≡ [] → Mem x ys → p x ≡ false) → (if b then y ∷ filter p ys else filter p ys) ≡ [] → (y ≡ x) ⊎ Mem x ys → p x ≡ false
    by true s again g n = absurd cc
    by false s again g (inl q) = subst (λ (z : A). p z ≡ false) q s
    by false s again g (inr n) = again g n

pub filter_both : {A : Type 0} (p q : A → Bool) (xs : List A) → filter p (filter q xs) ≡ filter (λ x. q x && p x) xs
filter_both p q [] = refl
filter_both {A} p q (x ∷ xs) = by (q x) (filter_both p q xs)
  where
    by : (b : Bool) → filter p (filter q xs) ≡ filter (λ y. q y && p y) xs
        → filter p (if b then x ∷ filter q xs else filter q xs) ≡ (if b && p x then x ∷ filter (λ y. q y && p y) xs else filter (λ y. q y && p y) xs)
    by true e = ap (λ l. if p x then x ∷ l else l) e
    by false e = e

-- ---- lists of lists

pub flat_alike : {A B : Type 0} (f g : A → List B) (xs : List A) → ((x : A) → Mem x xs → f x ≡ g x) → flat_map f xs ≡ flat_map g xs
flat_alike f g [] h = refl
flat_alike f g (x ∷ xs) h = λ j. h x (inl refl) j ++ flat_alike f g xs (λ y m. h y (inr m)) j

pub flat_map_of : {A B C : Type 0} (f : B → List C) (g : A → B) (xs : List A) → flat_map f (map g xs) ≡ flat_map (λ x. f (g x)) xs
flat_map_of f g [] = refl
flat_map_of f g (x ∷ xs) = ap (λ l. f (g x) ++ l) (flat_map_of f g xs)

pub flat_flat : {A B C : Type 0} (f : B → List C) (g : A → List B) (xs : List A) → flat_map f (flat_map g xs) ≡ flat_map (λ x. flat_map f (g x)) xs
flat_flat f g [] = refl
flat_flat f g (x ∷ xs) = flat_map-append f (g x) (flat_map g xs) ∙ ap (λ l. flat_map f (g x) ++ l) (flat_flat f g xs)

-- where each element comes to one
pub flat_ones : {A B : Type 0} (f : A → List B) (g : A → B) (xs : List A) → ((x : A) → Mem x xs → f x ≡ g x ∷ []) → flat_map f xs ≡ map g xs
flat_ones f g [] h = refl
flat_ones f g (x ∷ xs) h = λ j. h x (inl refl) j ++ flat_ones f g xs (λ y m. h y (inr m)) j

pub flat_none : {A B : Type 0} (f : A → List B) (xs : List A) → flat_map f xs ≡ [] → (x : A) → Mem x xs → f x ≡ []
flat_none f [] e x m = absurd m
flat_none {A} {B} f (y ∷ ys) e x m = by (f y) refl (λ g n. flat_none f ys g x n) e m
  where
    by : (l : List B) → f y ≡ l → (flat_map f ys ≡ [] → Mem x ys → f x ≡ []) → l ++ flat_map f ys ≡ [] → (y ≡ x) ⊎ Mem x ys → f x ≡ []
    by [] s again g (inl q) = subst (λ (z : A). f z ≡ []) q s
    by [] s again g (inr n) = again g n
    by (z ∷ l) s again g n = absurd cc

pub all_flat_none : {A B : Type 0} (f : A → List B) (xs : List A) → ((x : A) → Mem x xs → f x ≡ []) → flat_map f xs ≡ []
all_flat_none f [] h = refl
all_flat_none f (x ∷ xs) h = λ j. h x (inl refl) j ++ all_flat_none f xs (λ y m. h y (inr m)) j

pub mem_map : {A B : Type 0} (f : A → B) (xs : List A) (x : A) → Mem x xs → Mem (f x) (map f xs)
mem_map f [] x h = absurd h
mem_map f (y ∷ ys) x (inl e) = inl (ap f e)
mem_map f (y ∷ ys) x (inr m) = inr (mem_map f ys x m)

pub map_mem : {A B : Type 0} (f : A → B) (xs : List A) (y : B) → Mem y (map f xs) → (x : A) × Mem x xs × (f x ≡ y)
map_mem f [] y h = absurd h
map_mem f (x ∷ xs) y (inl e) = (x, inl refl, e)
map_mem f (x ∷ xs) y (inr m) = let r = map_mem f xs y m in (r.0, inr r.1, r.2)
