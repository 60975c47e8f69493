-- What the items of a DIRECTORY offer, one item after the other, and by its place.
use Rattle.std.proofs.Common.{◌≡◌, ℕ, zero, suc, List, [], ◌∷◌, ◌++◌, length, map, Option, Some, None, slice_get, option_map, refl, sym, ap, ◌∙◌}
use Rattle.std.proofs.lemmas.List.{append-nil}
use Rattle.mesa_base.specs.declared.identifier.Identifier.{Identifier}
use Rattle.syntax_trees.specs.declared.syntax.DirectoryItem.{DirectoryItem}
use Rattle.interface_records.specs.declared.interface.Interface.{Interface}
use Rattle.check_scopes.specs.Scopes.{Scope, over, nothing}
use Rattle.check_scopes.specs.Shows.{means}
use Rattle.check_scopes.specs.declared.names.Names.{Names}
use Rattle.check_rules.specs.Directory.{entries, first_entry, names_in, offered, opened, place_in, restricted, scope_at}
use Rattle.check_rules.specs.Meanings as m
use Rattle.interface_records.specs.PlainTypes.{PlainInterface, plain_interface}
use Rattle.check_state.specs.Views.{meaning, names, seen_as}
use Rattle.check_state.specs.declared.meaning.Meaning.{Meaning}
use Rattle.check_state.proofs.ScopeLaws.{over_as, slice_get_map}

abbrev pub offer : Option ℕ → DirectoryItem → PlainInterface → Scope m.Meaning
offer import d i = restricted d.used (first_entry (entries import i))

more : (imports : List Identifier) (all : List (Names Meaning)) (x : Names Meaning) (d : DirectoryItem) (ds : List DirectoryItem) (i : PlainInterface) (is : List PlainInterface)
    → names x ≡ offer (place_in 0 imports d.name.name) d i
    → map names all ++ offered imports (d ∷ ds) (i ∷ is) ≡ map names (all ++ x ∷ []) ++ offered imports ds is
unfolding offered
more imports [] x d ds i is h = ap (λ s. s ∷ offered imports ds is) (sym h)
more imports (y ∷ all) x d ds i is h = ap (λ ss. names y ∷ ss) (more imports all x d ds i is h)

-- at lists that begin so
pub offered_next : (imports : List Identifier) (all longer : List (Names Meaning)) (x : Names Meaning) (items ds : List DirectoryItem) (given is : List Interface)
    (d : DirectoryItem) (i : Interface) → items ≡ d ∷ ds → given ≡ i ∷ is → longer ≡ all ++ x ∷ []
    → names x ≡ offer (place_in 0 imports d.name.name) d (plain_interface i)
    → map names all ++ offered imports items (map plain_interface given) ≡ map names longer ++ offered imports ds (map plain_interface is)
offered_next imports all longer x items ds given is d i h k l e =
    ap (λ xs. map names all ++ offered imports xs (map plain_interface given)) h
    ∙ ap (λ ys. map names all ++ offered imports (d ∷ ds) (map plain_interface ys)) k
    ∙ more imports all x d ds (plain_interface i) (map plain_interface is) e
    ∙ ap (λ xs. map names xs ++ offered imports ds (map plain_interface is)) (sym l)

none_offered : (imports : List Identifier) (ds : List DirectoryItem) → offered imports ds [] ≡ []
unfolding offered
none_offered imports [] = refl
none_offered imports (d ∷ ds) = refl

none_left : {A : Type 0} (xs : List A) → length xs ≡ 0 → xs ≡ []
none_left [] h = refl
none_left (x ∷ xs) h = cc

pub offered_end : (imports : List Identifier) (all : List (Names Meaning)) (items : List DirectoryItem) (is : List PlainInterface) → length items ≡ 0
    → map names all ++ offered imports items is ≡ map names all
unfolding offered
offered_end imports all items is h = ap (λ xs. map names all ++ offered imports xs is) (none_left items h) ∙ append-nil (map names all)

pub offered_short : (imports : List Identifier) (all : List (Names Meaning)) (items : List DirectoryItem) (given : List Interface) → length given ≡ 0
    → map names all ++ offered imports items (map plain_interface given) ≡ map names all
offered_short imports all items given h =
    ap (λ ys. map names all ++ offered imports items (map plain_interface ys)) (none_left given h)
    ∙ ap (λ ss. map names all ++ ss) (none_offered imports items)
    ∙ append-nil (map names all)

abbrev offer_by : List Identifier → Option DirectoryItem → Option PlainInterface → Scope m.Meaning
offer_by imports (Some d) (Some i) = offer (place_in 0 imports d.name.name) d i
offer_by imports (Some d) None = nothing
offer_by imports None i = nothing

none_by : (imports : List Identifier) (o : Option DirectoryItem) → offer_by imports o None ≡ nothing
none_by imports None = refl
none_by imports (Some d) = refl

scope_by : (imports : List Identifier) (ds : List DirectoryItem) (is : List PlainInterface) (n : ℕ)
    → scope_at (offered imports ds is) (Some n) ≡ offer_by imports (slice_get ds n) (slice_get is n)
unfolding offered
scope_by imports [] is n = refl
scope_by imports (d ∷ ds) [] n = sym (none_by imports (slice_get (d ∷ ds) n))
scope_by imports (d ∷ ds) (i ∷ is) zero = refl
scope_by imports (d ∷ ds) (i ∷ is) (suc n) = scope_by imports ds is n

module _ (imports : List Identifier) (ds : List DirectoryItem) (is : List Interface) (n : ℕ) where
  by_parts : (o : Option DirectoryItem) (p : Option Interface) → slice_get ds n ≡ o → slice_get is n ≡ p
      → scope_at (offered imports ds (map plain_interface is)) (Some n) ≡ offer_by imports o (option_map plain_interface p)
  by_parts o p h k =
      scope_by imports ds (map plain_interface is) n
      ∙ ap (offer_by imports (slice_get ds n)) (slice_get_map plain_interface is n ∙ ap (option_map plain_interface) k)
      ∙ ap (λ q. offer_by imports q (option_map plain_interface p)) h

  pub offer_here : (import : Option ℕ) (d : DirectoryItem) (i : Interface) → slice_get ds n ≡ Some d → slice_get is n ≡ Some i → import ≡ place_in 0 imports d.name.name
      → offer import d (plain_interface i) ≡ scope_at (offered imports ds (map plain_interface is)) (Some n)
  offer_here import d i h k place = ap (λ p. offer p d (plain_interface i)) place ∙ sym (by_parts (Some d) (Some i) h k)

  pub no_item : slice_get ds n ≡ None → nothing ≡ scope_at (offered imports ds (map plain_interface is)) (Some n)
  no_item h = sym (by_parts None (slice_get is n) h refl)

  pub no_interface : slice_get is n ≡ None → nothing ≡ scope_at (offered imports ds (map plain_interface is)) (Some n)
  no_interface k = sym (by_parts (slice_get ds n) None refl k ∙ none_by imports (slice_get ds n))

-- the opened ones over these names
unfoldable pub opened_over : List DirectoryItem → List (Scope m.Meaning) → List Identifier → Scope m.Meaning → Scope m.Meaning
opened_over ds scopes [] base = base
opened_over ds scopes (x ∷ xs) base = over (scope_at scopes (place_in 0 (names_in ds) x.name)) (opened_over ds scopes xs base)

pub opened_all : (ds : List DirectoryItem) (scopes : List (Scope m.Meaning)) (xs : List Identifier) → opened ds scopes xs ≡ opened_over ds scopes xs nothing
unfolding opened opened_over
opened_all ds scopes [] = refl
opened_all ds scopes (x ∷ xs) = ap (over (scope_at scopes (place_in 0 (names_in ds) x.name))) (opened_all ds scopes xs)

last : (ds : List DirectoryItem) (scopes : List (Scope m.Meaning)) (xs : List Identifier) (x : Identifier) (base : Scope m.Meaning)
    → opened_over ds scopes (xs ++ x ∷ []) base ≡ opened_over ds scopes xs (over (scope_at scopes (place_in 0 (names_in ds) x.name)) base)
unfolding opened_over
last ds scopes [] x base = refl
last ds scopes (y ∷ xs) x base = ap (over (scope_at scopes (place_in 0 (names_in ds) y.name))) (last ds scopes xs x base)

pub opened_step : (ds : List DirectoryItem) (scopes : List (Scope m.Meaning)) (rest xs : List Identifier) (x : Identifier) (base new : Scope m.Meaning) → rest ≡ xs ++ x ∷ []
    → new ≡ over (scope_at scopes (place_in 0 (names_in ds) x.name)) base → opened_over ds scopes rest base ≡ opened_over ds scopes xs new
opened_step ds scopes rest xs x base new h k =
    ap (λ ys. opened_over ds scopes ys base) h ∙ last ds scopes xs x base ∙ ap (opened_over ds scopes xs) (sym k)

pub opened_end : (ds : List DirectoryItem) (scopes : List (Scope m.Meaning)) (rest : List Identifier) (base : Scope m.Meaning) → length rest ≡ 0
    → opened_over ds scopes rest base ≡ base
unfolding opened_over
opened_end ds scopes rest base h = ap (λ ys. opened_over ds scopes ys base) (none_left rest h)

pub all_over : (old new other : Names Meaning) → means new ≡ over (means other) (means old) → names new ≡ over (names other) (names old)
unfolding names
all_over old new other h = ap (seen_as meaning) h ∙ over_as meaning (means other) (means old)

pub nowhere : (scopes : List (Scope m.Meaning)) (o : Option ℕ) → o ≡ None → nothing ≡ scope_at scopes o
nowhere scopes o h = ap (scope_at scopes) (sym h)
