-- What names mean to the definition, where each means something to the code.
use Rattle.std.proofs.Common.{◌≡◌, ℕ, zero, suc, Bool, true, false, List, [], ◌∷◌, map, Option, Some, None, refl, sym, ap, ◌∙◌}
use Rattle.std.specs.Option.{option_or}
use Rattle.std.specs.Prelude.{cond, bytes_eq, option_map, unwrap_or, is_some, slice_get}
use Rattle.interface_records.specs.check_scopes.specs.Scopes.{Scope, with_name, over, find, innermost, outer}
use Rattle.check_rules.specs.Names.{or_empty}
use Rattle.check_state.specs.Views.{seen_as}

or_map : {A B : Type 0} (f : A → B) (o p : Option A) → option_or (option_map f o) (option_map f p) ≡ option_map f (option_or o p)
or_map f None p = refl
or_map f (Some a) p = refl

pub find_as : {A B : Type 0} (f : A → B) (x : List ℕ) (ss : List (Scope A)) → find x (map (seen_as f) ss) ≡ option_map f (find x ss)
find_as f x [] = refl
find_as f x (s ∷ ss) = ap (option_or (option_map f (s x))) (find_as f x ss) ∙ or_map f (s x) (find x ss)

map_cond : {A B : Type 0} (f : A → B) (b : Bool) (m : A) (o : Option A) → option_map f (cond b (Some m) o) ≡ cond b (Some (f m)) (option_map f o)
map_cond f true m o = refl
map_cond f false m o = refl

pub with_name_as : {A B : Type 0} (f : A → B) (x : List ℕ) (m : A) (s : Scope A) → seen_as f (with_name x m s) ≡ with_name x (f m) (seen_as f s)
with_name_as f x m s = λ i y. map_cond f (bytes_eq x y) m (s y) i

pub over_as : {A B : Type 0} (f : A → B) (inner outside : Scope A) → seen_as f (over inner outside) ≡ over (seen_as f inner) (seen_as f outside)
over_as f inner outside = λ i y. sym (or_map f (inner y) (outside y)) i

pub innermost_as : {A B : Type 0} (f : A → B) (ss : List (Scope A)) → innermost (map (seen_as f) ss) ≡ seen_as f (innermost ss)
innermost_as f [] = refl
innermost_as f (s ∷ ss) = refl

pub outer_as : {A B : Type 0} (f : A → B) (ss : List (Scope A)) → outer (map (seen_as f) ss) ≡ map (seen_as f) (outer ss)
outer_as f [] = refl
outer_as f (s ∷ ss) = refl

pub marks_or_none : (o : Option (List Bool)) → unwrap_or o [] ≡ or_empty [] o
marks_or_none None = refl
marks_or_none (Some marks) = refl

pub is_some_map : {A B : Type 0} (f : A → B) (o : Option A) → is_some (option_map f o) ≡ is_some o
is_some_map f None = refl
is_some_map f (Some a) = refl

pub slice_get_map : {A B : Type 0} (f : A → B) (xs : List A) (n : ℕ) → slice_get (map f xs) n ≡ option_map f (slice_get xs n)
slice_get_map f [] n = refl
slice_get_map f (x ∷ xs) zero = refl
slice_get_map f (x ∷ xs) (suc n) = slice_get_map f xs n
