-- Lists that are made one element after another.
use Rattle.std.proofs.Common.{◌≡◌, ℕ, zero, suc, ◌+◌, ◌<◌, ◌≤◌, ⊎_elim, List, [], ◌∷◌, ◌++◌, length, take, get_or, Option, Some, None, refl, sym, ap, subst, ◌∙◌, append_assoc, append-nil, arith}
use Rattle.std.specs.Prelude.{slice_get, IsSomeAnd}
use Rattle.std.specs.List.{AllZip}
use Rattle.std.proofs.lemmas.Bool.{cases_lt}
use Rattle.std.proofs.lemmas.List.{flat_map_more, length_push, take_all, take_more}
use Rattle.std.proofs.lemmas.Option.{get_or_from_slice_get, slice_get-get_or}
use Rattle.std.proofs.lemmas.Slice.Zip.{all_zipped_more}
use Rattle.code_forms.specs.declared.module_code.Arm.{Arm}
use Rattle.code_forms.specs.declared.module_code.Phrase.{Phrase}
use Rattle.machine_ready.specs.Openings.{arms_in}

got_left : {X : Type 0} (xs : List X) (x : X) (j : ℕ) → j < length xs → slice_get (xs ++ x ∷ []) j ≡ slice_get xs j
got_left [] x j l = absurd (omega arith)
got_left (y ∷ xs) x zero l = refl
got_left (y ∷ xs) x (suc j) l = got_left xs x j (omega arith)

got_last : {X : Type 0} (xs : List X) (x : X) → slice_get (xs ++ x ∷ []) (length xs) ≡ Some x
got_last [] x = refl
got_last (y ∷ xs) x = got_last xs x

-- there are so many, and each is one of its number
pub record EachOf {X : Type 0} (P : ℕ → X → Type 0) (n : ℕ) (xs : List X) : Type 0 where
  pub many : length xs ≡ n
  pub each : (j : ℕ) → j < n → IsSomeAnd (slice_get xs j) (P j)

pub each_none : {X : Type 0} (P : ℕ → X → Type 0) (xs : List X) → xs ≡ [] → EachOf P 0 xs
each_none P xs e = record { many = ap length e; each = λ j l. absurd (omega arith) }

pub each_more : {X : Type 0} (P : ℕ → X → Type 0) (n : ℕ) (xs ys : List X) (x : X) → ys ≡ xs ++ x ∷ [] → P n x → EachOf P n xs → EachOf P (n + 1) ys
each_more {X} P n xs ys x grown p e = subst (λ (l : List X). EachOf P (n + 1) l) (sym grown) (record {
  many = (let m = e.many in let k = length_push xs x in omega (arith, m, k));
  each = λ j l. ⊎_elim
      (λ (m : j < n). subst (λ (o : Option X). IsSomeAnd o (P j)) (sym (got_left xs x j (let k = e.many in omega (arith, k)))) (e.each j m))
      (λ (m : n ≤ j).
      let same : length xs ≡ j = (let k = e.many in omega (arith, k)) in
      let own : n ≡ j = omega arith in
      subst (λ (o : Option X). IsSomeAnd o (P j)) (sym (subst (λ k. slice_get (xs ++ x ∷ []) k ≡ Some x) same (got_last xs x))) (subst (λ k. P k x) own p))
      (cases_lt j n);
})

-- one stands beside each of the first so many
pub zip_more : {A B : Type 0} (R : A → B → Type 0) (xs : List A) (ys zs : List B) (i : ℕ) (x : A) (y : B) → i < length xs → x ≡ get_or xs i x
    → zs ≡ ys ++ y ∷ [] → AllZip R (take i xs) ys → R x y → AllZip R (take (i + 1) xs) zs
zip_more {A} {B} R xs ys zs i x y less is grown h r =
    subst (λ (l : List B). AllZip R (take (i + 1) xs) l) (sym grown)
    (subst (λ (l : List A). AllZip R l (ys ++ y ∷ [])) (ap (λ z. take i xs ++ z ∷ []) is ∙ sym (take_more xs i x less)) (all_zipped_more R (take i xs) ys x y h r))

pub zip_all : {A B : Type 0} (R : A → B → Type 0) (xs : List A) (ys : List B) (i : ℕ) → length xs ≤ i → AllZip R (take i xs) ys → AllZip R xs ys
zip_all {A} R xs ys i l h = subst (λ (k : List A). AllZip R k ys) (take_all i xs l) h

-- the same, where an element is read with a default
pub zip_read : {A B : Type 0} (R : A → B → Type 0) (xs : List A) (ys zs : List B) (i : ℕ) (d : A) (y : B) → i < length xs
    → zs ≡ ys ++ y ∷ [] → AllZip R (take i xs) ys → R (get_or xs i d) y → AllZip R (take (i + 1) xs) zs
zip_read R xs ys zs i d y less grown h r =
    zip_more R xs ys zs i (get_or xs i d) y less (sym (get_or_from_slice_get xs i (get_or xs i d) (get_or xs i d) (slice_get-get_or xs i d less))) grown h r

-- where one stands beside each, one does beside that of a number
pub zip_within : {A B : Type 0} (R : A → B → Type 0) (xs : List A) (ys : List B) → AllZip R xs ys → (i : ℕ) → i < length xs → i < length ys
zip_within R [] ys h i l = absurd (omega (arith, l))
zip_within R (x ∷ xs) [] h i l = absurd h
zip_within R (x ∷ xs) (y ∷ ys) h zero l = omega arith
zip_within R (x ∷ xs) (y ∷ ys) h (suc i) l = let k = zip_within R xs ys h.1 i (omega (arith, l)) in omega (arith, k)

pub zip_at : {A B : Type 0} (R : A → B → Type 0) (xs : List A) (ys : List B) → AllZip R xs ys → (i : ℕ) (d : A) (e : B) → i < length xs
    → R (get_or xs i d) (get_or ys i e)
zip_at R [] ys h i d e l = absurd (omega (arith, l))
zip_at R (x ∷ xs) [] h i d e l = absurd h
zip_at R (x ∷ xs) (y ∷ ys) h zero d e l = h.0
zip_at R (x ∷ xs) (y ∷ ys) h (suc i) d e l = zip_at R xs ys h.1 i d e (omega (arith, l))

-- one stands beside each of those before, and of the first so many more
module _ {A B : Type 0} (R : A → B → Type 0) (before xs : List A) where
  pub zip_begun : (ys : List B) → AllZip R before ys → AllZip R (before ++ take 0 xs) ys
  zip_begun ys h = subst (λ (l : List A). AllZip R l ys) (sym (append-nil before)) h

  pub zip_next : (ys zs : List B) (i : ℕ) (x : A) (y : B) → i < length xs → x ≡ get_or xs i x → zs ≡ ys ++ y ∷ []
      → AllZip R (before ++ take i xs) ys → R x y → AllZip R (before ++ take (i + 1) xs) zs
  zip_next ys zs i x y less is grown h r =
      let last : take i xs ++ x ∷ [] ≡ take (i + 1) xs = ap (λ z. take i xs ++ z ∷ []) is ∙ sym (take_more xs i x less) in
      subst (λ (l : List B). AllZip R (before ++ take (i + 1) xs) l) (sym grown)
      (subst (λ (l : List A). AllZip R l (ys ++ y ∷ [])) (append_assoc before (take i xs) (x ∷ []) ∙ ap (λ l. before ++ l) last)
      (all_zipped_more R (before ++ take i xs) ys x y h r))

  pub zip_done : (ys : List B) (i : ℕ) → length xs ≤ i → AllZip R (before ++ take i xs) ys → AllZip R (before ++ xs) ys
  zip_done ys i l h = subst (λ (k : List A). AllZip R (before ++ k) ys) (take_all i xs l) h

-- the arms of one phrase more
pub arms_more : (table : List Phrase) (i : ℕ) (p : Phrase) → i < length table → p ≡ get_or table i p → (arms : List Arm) → arms ≡ p.arms
    → arms_in (take i table) ++ arms ≡ arms_in (take (i + 1) table)
arms_more table i p less is arms own =
    ap (λ l. arms_in (take i table) ++ l) own ∙ flat_map_more (λ (q : Phrase). q.arms) [] (take i table) p
    ∙ ap arms_in (ap (λ (z : Phrase). take i table ++ z ∷ []) is ∙ sym (take_more table i p less))

pub some_and : {X : Type 0} (o : Option X) (P : X → Type 0) → IsSomeAnd o P → (x : X) × (o ≡ Some x) × P x
some_and None P h = absurd h
some_and (Some x) P h = (x, refl, h)

pub some_same : {X : Type 0} (o : Option X) (y : X) → IsSomeAnd o (λ x. x ≡ y) → o ≡ Some y
some_same None y h = absurd h
some_same (Some x) y h = ap Some h
