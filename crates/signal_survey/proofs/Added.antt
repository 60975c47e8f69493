-- Items that were put to a list, one after the other.
use Rattle.std.proofs.Common.{◌≡◌, ◌⊎◌, inl, inr, ⊎_elim, ℕ, ◌+◌, ◌<◌, ◌≤◌, List, [], ◌∷◌, ◌++◌, length, take, get_or, sym, subst, arith}
use Rattle.std.specs.Prelude.{Contains}
use Rattle.std.proofs.lemmas.List.{take_more, take_all}
use Rattle.std.proofs.lemmas.List.Elements.{Contains-append_left, Contains-push, Contains-push_cases}
use Rattle.signal_survey.specs.Adding.{Adds, Of}

pub nothing_in : {X : Type 0} (x : X) → Contains [] x → ⊥
nothing_in x c = let l : c.0 < 0 = c.1 in omega (arith, l)

-- none
pub adds_none : {X : Type 0} (P : X → Type 0) (xs : List X) → ((x : X) → P x → ⊥) → Adds P xs xs
adds_none P xs none = record { kept = λ x c. c; added = λ x c. inl c; done = λ x p. absurd (none x p) }

pub adds_none_to : {X : Type 0} (P : X → Type 0) (xs ys : List X) → ys ≡ xs → ((x : X) → P x → ⊥) → Adds P xs ys
adds_none_to P xs ys e none = subst (λ l. Adds P xs l) (sym e) (adds_none P xs none)

-- one
pub adds_one : {X : Type 0} (P : X → Type 0) (xs ys : List X) (y : X) → ys ≡ xs ++ y ∷ [] → P y → ((x : X) → P x → y ≡ x) → Adds P xs ys
adds_one {X} P xs ys y e is only =
    let made : Adds P xs (xs ++ y ∷ []) = record {
      kept = λ x c. Contains-append_left xs (y ∷ []) x c;
      added = λ x c. ⊎_elim
          (λ (o : Contains xs x). let r : Contains xs x ⊎ P x = inl o in r)
          (λ (s : y ≡ x). let r : Contains xs x ⊎ P x = inr (subst P s is) in r) (Contains-push_cases xs y x c);
      done = λ x p. subst (λ z. Contains (xs ++ y ∷ []) z) (only x p) (Contains-push xs y);
    } in
    subst (λ l. Adds P xs l) (sym e) made

-- those and more
pub adds_more : {X : Type 0} (P Q R : X → Type 0) (xs ys zs : List X) → Adds P xs ys → Adds Q ys zs → ((x : X) → P x → R x) → ((x : X) → Q x → R x) → ((x : X) → R x → P x ⊎ Q x)
    → Adds R xs zs
adds_more P Q R xs ys zs a b left right either = record {
  kept = λ x c. b.kept x (a.kept x c);
  added = λ x c. ⊎_elim
      (λ (o : Contains ys x). ⊎_elim
      (λ (u : Contains xs x). let r : Contains xs x ⊎ R x = inl u in r)
      (λ (p : P x). let r : Contains xs x ⊎ R x = inr (left x p) in r) (a.added x o))
      (λ (q : Q x). let r : Contains xs x ⊎ R x = inr (right x q) in r) (b.added x c);
  done = λ x r. ⊎_elim
      (λ (p : P x). b.kept x (a.done x p))
      (λ (q : Q x). b.done x q) (either x r);
}

-- the same ones, said otherwise
pub adds_as : {X : Type 0} (P Q : X → Type 0) (xs ys : List X) → Adds P xs ys → ((x : X) → P x → Q x) → ((x : X) → Q x → P x) → Adds Q xs ys
adds_as P Q xs ys a there back = record {
  kept = a.kept;
  added = λ x c. ⊎_elim
      (λ (o : Contains xs x). let r : Contains xs x ⊎ Q x = inl o in r)
      (λ (p : P x). let r : Contains xs x ⊎ Q x = inr (there x p) in r) (a.added x c);
  done = λ x q. a.done x (back x q);
}

-- one more element of a list was looked at
pub seen_cases : {X : Type 0} (xs : List X) (i : ℕ) (d x : X) → i < length xs → Contains (take (i + 1) xs) x → Contains (take i xs) x ⊎ (get_or xs i d ≡ x)
seen_cases xs i d x l c = Contains-push_cases (take i xs) (get_or xs i d) x (subst (λ ys. Contains ys x) (take_more xs i d l) c)

pub seen_before : {X : Type 0} (xs : List X) (i : ℕ) (d x : X) → i < length xs → Contains (take i xs) x → Contains (take (i + 1) xs) x
seen_before xs i d x l c = subst (λ ys. Contains ys x) (sym (take_more xs i d l)) (Contains-append_left (take i xs) (get_or xs i d ∷ []) x c)

pub seen_now : {X : Type 0} (xs : List X) (i : ℕ) (d : X) → i < length xs → Contains (take (i + 1) xs) (get_or xs i d)
seen_now xs i d l = subst (λ ys. Contains ys (get_or xs i d)) (sym (take_more xs i d l)) (Contains-push (take i xs) (get_or xs i d))

-- a loop over a list, each element of which puts its own
pub loop_none : {X Y : Type 0} (P : X → Y → Type 0) (xs : List X) (old ys : List Y) → ys ≡ old → Adds (Of P (take 0 xs)) old ys
loop_none P xs old ys e = adds_none_to (Of P []) old ys e (λ y o. nothing_in o.x o.contains)

pub loop_more : {X Y : Type 0} (P : X → Y → Type 0) (xs : List X) (old ys zs : List Y) (i : ℕ) (d : X) → i < length xs → Adds (Of P (take i xs)) old ys
    → Adds (P (get_or xs i d)) ys zs → Adds (Of P (take (i + 1) xs)) old zs
loop_more P xs old ys zs i d l a b =
    adds_more (Of P (take i xs)) (P (get_or xs i d)) (Of P (take (i + 1) xs)) old ys zs a b
    (λ y o. record { x = o.x; contains = seen_before xs i d o.x l o.contains; is = o.is })
    (λ y p. record { x = get_or xs i d; contains = seen_now xs i d l; is = p })
    (λ y o. ⊎_elim
    (λ (c : Contains (take i xs) o.x). let r : Of P (take i xs) y ⊎ P (get_or xs i d) y = inl (record { x = o.x; contains = c; is = o.is }) in r)
    (λ (e : get_or xs i d ≡ o.x). let r : Of P (take i xs) y ⊎ P (get_or xs i d) y = inr (subst (λ x. P x y) (sym e) o.is) in r) (seen_cases xs i d o.x l o.contains))

pub loop_all : {X Y : Type 0} (P : X → Y → Type 0) (xs : List X) (old ys : List Y) (i : ℕ) → length xs ≤ i → Adds (Of P (take i xs)) old ys → Adds (Of P xs) old ys
loop_all P xs old ys i past a = subst (λ l. Adds (Of P l) old ys) (take_all i xs past) a
