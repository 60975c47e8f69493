-- An index of names when one more was put into it.
use Rattle.std.proofs.Common.{◌≡◌, ℕ, Bool, true, false, List, [], ◌∷◌, ◌++◌, refl, sym, ap, ◌∙◌}
use Rattle.std.specs.Prelude.{is_some, ◌||◌, bytes_eq}
use Rattle.std.specs.Cmp.Lexicographic.{nat_list_eq_equiv}
use Rattle.check_scopes.specs.Scopes.{Scope, with_name}
use Rattle.file_forms.specs.Names.{is_among}

or_last : (a : Bool) → a ≡ a || false
or_last true = refl
or_last false = refl

or_true : (a : Bool) → true ≡ a || true
or_true true = refl
or_true false = refl

or_assoc : (a b c : Bool) → a || (b || c) ≡ (a || b) || c
or_assoc true b c = refl
or_assoc false b c = refl

among-append : (names : List (List ℕ)) (x y : List ℕ) → is_among (names ++ y ∷ []) x ≡ is_among names x || bytes_eq x y
among-append [] x y = sym (or_last (bytes_eq x y))
among-append (z ∷ names) x y = ap (λ b. bytes_eq x z || b) (among-append names x y) ∙ or_assoc (bytes_eq x z) (is_among names x) (bytes_eq x y)

pub one_more : (old new : Scope (Unit {0})) (names : List (List ℕ)) (name : List ℕ) → new ≡ with_name name tt old
    → ((x : List ℕ) → is_some (old x) ≡ is_among names x) → (x : List ℕ) → is_some (new x) ≡ is_among (names ++ name ∷ []) x
one_more old new names name is shown x =
    ap (λ (s : Scope (Unit {0})). is_some (s x)) is ∙ at (bytes_eq name x) refl
  where
    at : (b : Bool) → bytes_eq name x ≡ b → is_some (with_name name tt old x) ≡ is_among (names ++ name ∷ []) x
    at true e = rw (among-append names x name, nat_list_eq_equiv.symm x name, e) (or_true (is_among names x))
    at false e = rw (among-append names x name, nat_list_eq_equiv.symm x name, e, shown x) (or_last (is_among names x))
