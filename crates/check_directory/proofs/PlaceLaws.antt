-- Places of names, one name after the other.
use Rattle.std.proofs.Common.{◌≡◌, ◌<◌, ◌≤◌, ◌+◌, ℕ, Bool, true, false, List, [], ◌∷◌, drop, length, get_or, Option, Some, None, is_some, refl, sym, ap, ◌∙◌}
use Rattle.std.proofs.lemmas.List.{drop_more, drop_all}
use Rattle.std.specs.Option.{option_or}
use Rattle.std.specs.Prelude.{cond, ◌||◌}
use Rattle.std.specs.Str.{bytes_eq}
use Rattle.std.specs.Cmp.Lexicographic.{nat_list_eq_equiv}
use Rattle.check_scopes.specs.Scopes.{Scope, with_name, over, nothing, has}
use Rattle.check_scopes.specs.Shows.{means}
use Rattle.check_scopes.specs.declared.names.Names.{Names}
use Rattle.mesa_base.specs.declared.identifier.Identifier.{Identifier}
use Rattle.syntax_trees.specs.declared.syntax.DirectoryItem.{DirectoryItem}
use Rattle.check_rules.specs.Directory.{place_in, names_in}
use Rattle.check_rules.specs.Parts.{names_of}
use Rattle.check_directory.specs.Lists.{HasNames}

pub at_drop : {A : Type 0} (all : List A) (i : ℕ) (x : A) → i < length all → x ≡ get_or all i x → drop i all ≡ x ∷ drop (i + 1) all
at_drop all i x inside here = drop_more all i x inside ∙ ap (λ y. y ∷ drop (i + 1) all) (sym here)

or_then : {X : Type 0} (o : Option X) (b : Bool) (x : X) (p : Option X) → option_or o (cond b (Some x) p) ≡ option_or (option_or o (cond b (Some x) None)) p
or_then (Some y) b x p = refl
or_then None true x p = refl
or_then None false x p = refl

-- a name behind those of a scope, and then others
pub name_then : {T : Type 0} (scope : Scope T) (x : List ℕ) (m : T) (rest : Scope T)
    → over scope (λ y. cond (bytes_eq y x) (Some m) (rest y)) ≡ over (over scope (with_name x m nothing)) rest
name_then scope x m rest = λ i y. (
    ap (λ b. option_or (scope y) (cond b (Some m) (rest y))) (nat_list_eq_equiv.symm y x)
    ∙ or_then (scope y) (bytes_eq x y) m (rest y)) i

or_none : {X : Type 0} (o : Option X) → option_or o None ≡ o
or_none None = refl
or_none (Some x) = refl

pub over_nothing : {T : Type 0} (scope : Scope T) → over scope nothing ≡ scope
over_nothing scope = λ i y. or_none (scope y) i

pub place_more : (scope : Scope ℕ) (n : ℕ) (x : Identifier) (xs : List Identifier)
    → over scope (place_in n (x ∷ xs)) ≡ over (over scope (with_name x.name n nothing)) (place_in (n + 1) xs)
unfolding place_in
place_more scope n x xs = name_then scope x.name n (place_in (n + 1) xs)

pub place_none : (scope : Scope ℕ) (n : ℕ) → over scope (place_in n []) ≡ scope
unfolding place_in
place_none scope n = over_nothing scope

pub place_at : (scope : Scope ℕ) (n : ℕ) (all : List Identifier) (i : ℕ) (x : Identifier) → i < length all → x ≡ get_or all i x
    → over scope (place_in n (drop i all)) ≡ over (over scope (with_name x.name n nothing)) (place_in (n + 1) (drop (i + 1) all))
place_at scope n all i x inside here = ap (λ xs. over scope (place_in n xs)) (at_drop all i x inside here) ∙ place_more scope n x (drop (i + 1) all)

pub place_out : (scope : Scope ℕ) (n : ℕ) (all : List Identifier) (i : ℕ) → length all ≤ i → over scope (place_in n (drop i all)) ≡ scope
place_out scope n all i outside = ap (λ xs. over scope (place_in n xs)) (drop_all i all outside) ∙ place_none scope n

pub directory_at : (scope : Scope ℕ) (n : ℕ) (all : List DirectoryItem) (i : ℕ) (x : DirectoryItem) → i < length all → x ≡ get_or all i x
    → over scope (place_in n (names_in (drop i all))) ≡ over (over scope (with_name x.name.name n nothing)) (place_in (n + 1) (names_in (drop (i + 1) all)))
directory_at scope n all i x inside here =
    ap (λ xs. over scope (place_in n (names_in xs))) (at_drop all i x inside here) ∙ place_more scope n x.name (names_in (drop (i + 1) all))

pub directory_out : (scope : Scope ℕ) (n : ℕ) (all : List DirectoryItem) (i : ℕ) → length all ≤ i → over scope (place_in n (names_in (drop i all))) ≡ scope
directory_out scope n all i outside = ap (λ xs. over scope (place_in n (names_in xs))) (drop_all i all outside) ∙ place_none scope n

or_place : (b c : Bool) (n : ℕ) (o : Option ℕ) → is_some o ≡ c → is_some (cond b (Some n) o) ≡ (b || c)
or_place true c n o h = refl
or_place false c n o h = h

place_has : (n : ℕ) (xs : List Identifier) (y : List ℕ) → is_some (place_in n xs y) ≡ has y (names_of xs)
unfolding place_in has
place_has n [] y = refl
place_has n (x ∷ xs) y = or_place (bytes_eq y x.name) (has y (names_of xs)) n (place_in (n + 1) xs y) (place_has (n + 1) xs y)

pub places_have : (index : Names ℕ) (xs : List Identifier) → means index ≡ place_in 0 xs → HasNames index (names_of xs)
places_have index xs h y = ap (λ (s : Scope ℕ). is_some (s y)) h ∙ place_has 0 xs y
