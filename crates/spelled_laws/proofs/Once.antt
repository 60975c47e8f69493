-- Names of which none stands twice, looked at from the front and from behind; and lists whose elements have such names.
use Rattle.std.proofs.Common.{◌≡◌, ℕ, false, List, [], ◌∷◌, ◌++◌, refl, sym, ap, subst, ◌∙◌, append_assoc}
use Rattle.std.specs.Prelude.{map, bytes_eq}
use Rattle.std.specs.Cmp.Lexicographic.{nat_list_eq_equiv}
use Rattle.std.proofs.lemmas.Bool.{or_parts, or_from}
use Rattle.std.proofs.lemmas.List.{append-nil}
use Rattle.check_scopes.specs.Scopes.{has}
use Rattle.interface_records.specs.Lists.{NoneTwice}
use Rattle.file_forms.specs.Forms.{Form, FitEach}
use Rattle.file_forms.specs.Names.{is_among}

-- each is none of those before
unfoldable pub Fresh : List (List ℕ) → List (List ℕ) → Type 0
Fresh seen [] = Unit {0}
Fresh seen (x ∷ xs) = (is_among seen x ≡ false) × Fresh (seen ++ x ∷ []) xs

unfoldable pub Each : {A : Type 0} → (A → Type 0) → List A → Type 0
Each P [] = Unit {0}
Each P (x ∷ xs) = P x × Each P xs

other_way : (x y : List ℕ) → bytes_eq x y ≡ false → bytes_eq y x ≡ false
other_way x y e = nat_list_eq_equiv.symm y x ∙ e

not_that : (y x : List ℕ) (seen xs : List (List ℕ)) → has y (seen ++ x ∷ xs) ≡ false → bytes_eq y x ≡ false
unfolding has
not_that y x [] xs h = (or_parts (bytes_eq y x) (has y xs) h).0
not_that y x (z ∷ seen) xs h = not_that y x seen xs (or_parts (bytes_eq y z) (has y (seen ++ x ∷ xs)) h).1

none_before : (seen : List (List ℕ)) (x : List ℕ) (xs : List (List ℕ)) → NoneTwice (seen ++ x ∷ xs) → is_among seen x ≡ false
unfolding NoneTwice
none_before [] x xs h = refl
none_before (y ∷ seen) x xs h = or_from (bytes_eq x y) (is_among seen x) (other_way y x (not_that y x seen xs h.0)) (none_before seen x xs h.1)

joined : (seen : List (List ℕ)) (x : List ℕ) (xs : List (List ℕ)) → (seen ++ x ∷ []) ++ xs ≡ seen ++ x ∷ xs
joined seen x xs = append_assoc seen (x ∷ []) xs

pub fresh : (seen xs : List (List ℕ)) → NoneTwice (seen ++ xs) → Fresh seen xs
unfolding Fresh
fresh seen [] h = tt
fresh seen (x ∷ xs) h = (none_before seen x xs h, fresh (seen ++ x ∷ []) xs (subst NoneTwice (sym (joined seen x xs)) h))

none_more : (y x : List ℕ) (seen : List (List ℕ)) → has y seen ≡ false → bytes_eq y x ≡ false → has y (seen ++ x ∷ []) ≡ false
unfolding has
none_more y x [] h e = or_from (bytes_eq y x) false e refl
none_more y x (z ∷ seen) h e =
    let p = or_parts (bytes_eq y z) (has y seen) h in
    or_from (bytes_eq y z) (has y (seen ++ x ∷ [])) p.0 (none_more y x seen p.1 e)

one_more : (seen : List (List ℕ)) (x : List ℕ) → NoneTwice seen → is_among seen x ≡ false → NoneTwice (seen ++ x ∷ [])
unfolding NoneTwice has
one_more [] x h e = (refl, tt)
one_more (y ∷ seen) x h e =
    let p = or_parts (bytes_eq x y) (is_among seen x) e in
    (none_more y x seen h.0 (other_way x y p.0), one_more seen x h.1 p.1)

pub together : (seen xs : List (List ℕ)) → NoneTwice seen → Fresh seen xs → NoneTwice (seen ++ xs)
unfolding Fresh
together seen [] h f = subst NoneTwice (sym (append-nil seen)) h
together seen (x ∷ xs) h f = subst NoneTwice (joined seen x xs) (together (seen ++ x ∷ []) xs (one_more seen x h f.0) f.1)

not_in : (x : List ℕ) (xs ys : List (List ℕ)) → has x (xs ++ ys) ≡ false → has x xs ≡ false
unfolding has
not_in x [] ys h = refl
not_in x (y ∷ xs) ys h =
    let p = or_parts (bytes_eq x y) (has x (xs ++ ys)) h in
    or_from (bytes_eq x y) (has x xs) p.0 (not_in x xs ys p.1)

-- the first of names of which none stands twice
pub first_once : (xs ys : List (List ℕ)) → NoneTwice (xs ++ ys) → NoneTwice xs
unfolding NoneTwice
first_once [] ys h = tt
first_once (x ∷ xs) ys h = (not_in x xs ys h.0, first_once xs ys h.1)

pub map-map : {A B C : Type 0} (f : A → B) (g : B → C) (xs : List A) → map g (map f xs) ≡ map (λ x. g (f x)) xs
map-map f g [] = refl
map-map f g (x ∷ xs) = ap (λ zs. g (f x) ∷ zs) (map-map f g xs)

-- elements of which each has a name, in a form that asks for a name that was not there before
module _ {A : Type 0} (at : List (List ℕ) → Form A) (name : A → List ℕ) (Fine : A → Type 0)
    (names : List A → List (List ℕ)) (grows : (before : List A) (a : A) → names (before ++ a ∷ []) ≡ names before ++ name a ∷ []) (seen : List (List ℕ)) where
  longer : (before : List A) (a : A) → (seen ++ names before) ++ name a ∷ [] ≡ seen ++ names (before ++ a ∷ [])
  longer before a = append_assoc seen (names before) (name a ∷ []) ∙ ap (λ xs. seen ++ xs) (sym (grows before a))

  pub each_fits : ((known : List (List ℕ)) (a : A) → Fine a → is_among known (name a) ≡ false → (at known).fits a)
      → (before all : List A) → Each Fine all → Fresh (seen ++ names before) (map name all) → FitEach (λ b. at (seen ++ names b)) before all
  unfolding FitEach Fresh Each
  each_fits put before [] e h = tt
  each_fits put before (a ∷ all) e h = (
    put (seen ++ names before) a e.0 h.0,
    each_fits put (before ++ a ∷ []) all e.1 (subst (λ known. Fresh known (map name all)) (longer before a) h.1),
  )

  pub each_fine : ((known : List (List ℕ)) (a : A) → (at known).fits a → Fine a × (is_among known (name a) ≡ false))
      → (before all : List A) → FitEach (λ b. at (seen ++ names b)) before all → Each Fine all × Fresh (seen ++ names before) (map name all)
  unfolding FitEach Fresh Each
  each_fine got before [] h = (tt, tt)
  each_fine got before (a ∷ all) h =
      let here = got (seen ++ names before) a h.0 in
      let more = each_fine got (before ++ a ∷ []) all h.1 in
      ((here.0, more.0), (here.1, subst (λ known. Fresh known (map name all)) (sym (longer before a)) more.1))
