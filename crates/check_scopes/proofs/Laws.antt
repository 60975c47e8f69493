-- What proofs above need of scopes: a name over others, two scopes as one, and names that stand in a list.
use Rattle.std.proofs.Common.{◌≡◌, ℕ, Bool, true, false, ◌||◌, List, [], ◌∷◌, Option, Some, None, is_some, refl, ap, ◌∙◌}
use Rattle.std.specs.Option.{option_or}
use Rattle.std.specs.Str.{bytes_eq}
use Rattle.std.specs.Prelude.{cond}
use Rattle.std.specs.Cmp.Lexicographic.{nat_list_eq_equiv}
use Rattle.check_scopes.specs.Scopes.{Scope, with_name, over, nothing, find, has}

or_cond : {X : Type 0} (b : Bool) (x : X) (o p : Option X) → option_or (cond b (Some x) o) p ≡ cond b (Some x) (option_or o p)
or_cond true x o p = refl
or_cond false x o p = refl

-- a name that is declared in the inner one of two scopes is declared in both together
pub over-with_name : {T : Type 0} (x : List ℕ) (m : T) (inner outer : Scope T) → over (with_name x m inner) outer ≡ with_name x m (over inner outer)
over-with_name x m inner outer = λ i y. or_cond (bytes_eq x y) m (inner y) (outer y) i

or_or : {X : Type 0} (o p q : Option X) → option_or (option_or o p) q ≡ option_or o (option_or p q)
or_or None p q = refl
or_or (Some x) p q = refl

-- two scopes may be asked one after the other
pub find-over : {T : Type 0} (x : List ℕ) (inner outer : Scope T) (rest : List (Scope T)) → find x (over inner outer ∷ rest) ≡ find x (inner ∷ outer ∷ rest)
find-over x inner outer rest = or_or (inner x) (outer x) (find x rest)

-- a scope has the names of this list and no others
abbrev pub HasThese : {T : Type 0} → List (List ℕ) → Scope T → Type 0
HasThese xs scope = (y : List ℕ) → has y xs ≡ is_some (scope y)

pub has_none : (T : Type 0) → HasThese [] (nothing {T = T})
unfolding has
has_none T y = refl

or_some : {X : Type 0} (b c : Bool) (x : X) (o : Option X) → c ≡ is_some o → (b || c) ≡ is_some (cond b (Some x) o)
or_some true c x o h = refl
or_some false c x o h = h

pub has_one_more : {T : Type 0} (x : List ℕ) (m : T) (xs : List (List ℕ)) (scope : Scope T) → HasThese xs scope → HasThese (x ∷ xs) (with_name x m scope)
unfolding has
has_one_more x m xs scope h y = ap (λ b. b || has y xs) (nat_list_eq_equiv.symm y x) ∙ or_some (bytes_eq x y) (has y xs) m (scope y) (h y)
