-- An index of names when one more element of a list was read.
use Rattle.std.proofs.Common.{◌≡◌, ℕ, List, [], ◌∷◌, ◌++◌, refl, sym, ap, subst, ◌∙◌, append_assoc}
use Rattle.std.specs.Prelude.{map}
use Rattle.std.proofs.lemmas.List.{append-nil}
use Rattle.file_forms.specs.Seen.{Shows}
use Rattle.file_forms.specs.declared.seen.Seen.{Seen}

map-append : {A B : Type 0} (f : A → B) (xs ys : List A) → map f (xs ++ ys) ≡ map f xs ++ map f ys
map-append f [] ys = refl
map-append f (x ∷ xs) ys = ap (λ zs. f x ∷ zs) (map-append f xs ys)

pub shows_more : {A : Type 0} (called : A → List ℕ) (seen : Seen) (front : List (List ℕ)) (before after : List A) (a : A) (x : List ℕ)
    → after ≡ before ++ a ∷ [] → x ≡ called a → Shows seen ((front ++ map called before) ++ x ∷ []) → Shows seen (front ++ map called after)
shows_more called seen front before after a x pushed is shown =
    subst (Shows seen)
    (ap (λ y. (front ++ map called before) ++ y ∷ []) is ∙ append_assoc front (map called before) (called a ∷ [])
    ∙ ap (λ (ys : List (List ℕ)). front ++ ys) (sym (map-append called before (a ∷ []))) ∙ ap (λ ys. front ++ map called ys) (sym pushed))
    shown

pub shows_none : {A : Type 0} (called : A → List ℕ) (seen : Seen) (names : List (List ℕ)) (all : List A) → all ≡ [] → Shows seen names → Shows seen (names ++ map called all)
shows_none called seen names all e shown = subst (Shows seen) (sym (ap (λ xs. names ++ map called xs) e ∙ append-nil names)) shown
