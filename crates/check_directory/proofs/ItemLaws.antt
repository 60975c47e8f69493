-- The items of a DIRECTORY, one after the other.
use Rattle.std.proofs.Common.{◌≡◌, ℕ, ◌+◌, ◌<◌, ◌≤◌, Bool, true, false, List, [], ◌∷◌, drop, length, get_or, map, Ok, Err, refl, ap, ◌∙◌}
use Rattle.std.specs.Prelude.{not, cond, bytes_eq, is_some, Some, None}
use Rattle.std.proofs.lemmas.List.{drop_all}
use Rattle.mesa_base.specs.declared.identifier.Identifier.{Identifier}
use Rattle.syntax_trees.specs.declared.syntax.DirectoryItem.{DirectoryItem}
use Rattle.interface_records.specs.declared.interface.Interface.{Interface}
use Rattle.check_scopes.specs.Scopes.{Scope, has}
use Rattle.check_scopes.specs.Shows.{means}
use Rattle.check_scopes.specs.declared.names.Names.{Names}
use Rattle.check_rules.specs.Directory.{Entry, directory, directory_scope, entries, entry, first_entry, used_names, using}
use Rattle.check_rules.specs.Meanings as m
use Rattle.interface_records.specs.PlainTypes.{PlainInterface, plain_interface}
use Rattle.check_rules.specs.Steps.{Checked, and_then, only, refuse}
use Rattle.check_rules.specs.declared.fault.Cause.TheVariants.{UnknownName, TwiceDeclared}
use Rattle.check_state.specs.Views.{meaning, names}
use Rattle.check_state.specs.declared.meaning.Meaning.{Meaning}
use Rattle.check_state.proofs.ScopeLaws.{is_some_map}
use Rattle.check_directory.specs.Items.{fits}
use Rattle.check_directory.proofs.EntryLaws.{flat_from}
use Rattle.check_directory.proofs.PlaceLaws.{at_drop}

-- ---- USING lists

abbrev looked : Bool → Bool → Identifier → Checked (Unit {0}) → Checked (Unit {0})
looked known twice x rest =
    and_then (only known UnknownName x.place) (λ _. and_then (only (not twice) TwiceDeclared x.place) (λ _. rest))

module _ (scope : Scope m.Meaning) (before : List (List ℕ)) (xs : List Identifier) (i : ℕ) where
  used_at : (x : Identifier) → i < length xs → x ≡ get_or xs i x
      → used_names scope before (drop i xs) ≡ looked (is_some (scope x.name)) (has x.name before) x (used_names scope (x.name ∷ before) (drop (i + 1) xs))
  unfolding used_names
  used_at x inside here = ap (used_names scope before) (at_drop xs i x inside here)

  pub used_unknown : (x : Identifier) → i < length xs → x ≡ get_or xs i x → is_some (scope x.name) ≡ false
      → used_names scope before (drop i xs) ≡ refuse UnknownName x.place
  used_unknown x inside here unknown =
      used_at x inside here ∙ ap (λ b. looked b (has x.name before) x (used_names scope (x.name ∷ before) (drop (i + 1) xs))) unknown

  pub used_twice : (x : Identifier) → i < length xs → x ≡ get_or xs i x → is_some (scope x.name) ≡ true → has x.name before ≡ true
      → used_names scope before (drop i xs) ≡ refuse TwiceDeclared x.place
  used_twice x inside here known twice =
      used_at x inside here
      ∙ ap (λ b. looked b (has x.name before) x (used_names scope (x.name ∷ before) (drop (i + 1) xs))) known
      ∙ ap (λ b. looked true b x (used_names scope (x.name ∷ before) (drop (i + 1) xs))) twice

  pub used_once : (x : Identifier) → i < length xs → x ≡ get_or xs i x → is_some (scope x.name) ≡ true → has x.name before ≡ false
      → used_names scope before (drop i xs) ≡ used_names scope (x.name ∷ before) (drop (i + 1) xs)
  used_once x inside here known once =
      used_at x inside here
      ∙ ap (λ b. looked b (has x.name before) x (used_names scope (x.name ∷ before) (drop (i + 1) xs))) known
      ∙ ap (λ b. looked true b x (used_names scope (x.name ∷ before) (drop (i + 1) xs))) once

  pub used_end : length xs ≤ i → used_names scope before (drop i xs) ≡ Ok tt
  unfolding used_names
  used_end outside = ap (used_names scope before) (drop_all i xs outside)

-- the code's names are there where they mean something
pub scope_has : (index : Names Meaning) (x : List ℕ) → is_some (names index x) ≡ is_some (means index x)
unfolding names
scope_has index x = is_some_map meaning (means index x)

-- ---- items

three : (r s u rest : Checked (Unit {0}))
    → and_then r (λ _. and_then s (λ _. and_then u (λ _. rest))) ≡ and_then (and_then r (λ _. and_then s (λ _. u))) (λ _. rest)
three (Ok x) (Ok y) u rest = refl
three (Ok x) (Err e) u rest = refl
three (Err e) s u rest = refl

directory_at : (before : List (List ℕ)) (d : DirectoryItem) (ds : List DirectoryItem) (i : PlainInterface) (is : List PlainInterface)
    → directory before (d ∷ ds) (i ∷ is) ≡ and_then (fits before d i) (λ _. directory (d.name.name ∷ before) ds is)
unfolding directory
directory_at before d ds i is =
    three (only (bytes_eq d.name.name i.name) UnknownName d.name.place) (only (not (has d.name.name before)) TwiceDeclared d.name.place)
    (using (first_entry (entries None i)) d.used) (directory (d.name.name ∷ before) ds is)

none_left : {A : Type 0} (xs : List A) → length xs ≡ 0 → xs ≡ []
none_left [] h = refl
none_left (x ∷ xs) h = cc

-- at lists that begin so
pub directory_step : (before : List (List ℕ)) (items ds : List DirectoryItem) (given is : List Interface) (d : DirectoryItem) (i : Interface)
    → items ≡ d ∷ ds → given ≡ i ∷ is
    → directory before items (map plain_interface given)
    ≡ and_then (fits before d (plain_interface i)) (λ _. directory (d.name.name ∷ before) ds (map plain_interface is))
directory_step before items ds given is d i h k =
    ap (λ xs. directory before xs (map plain_interface given)) h
    ∙ ap (λ ys. directory before (d ∷ ds) (map plain_interface ys)) k
    ∙ directory_at before d ds (plain_interface i) (map plain_interface is)

pub directory_next : (before : List (List ℕ)) (items ds : List DirectoryItem) (given is : List Interface) (d : DirectoryItem) (i : Interface)
    → items ≡ d ∷ ds → given ≡ i ∷ is → fits before d (plain_interface i) ≡ Ok tt
    → directory before items (map plain_interface given) ≡ directory (d.name.name ∷ before) ds (map plain_interface is)
directory_next before items ds given is d i h k fine =
    directory_step before items ds given is d i h k ∙ ap (λ r. and_then r (λ _. directory (d.name.name ∷ before) ds (map plain_interface is))) fine

pub directory_short : (before : List (List ℕ)) (items ds : List DirectoryItem) (given : List Interface) (d : DirectoryItem) → items ≡ d ∷ ds → length given ≡ 0
    → directory before items (map plain_interface given) ≡ refuse UnknownName d.name.place
unfolding directory
directory_short before items ds given d h k =
    ap (λ xs. directory before xs (map plain_interface given)) h ∙ ap (λ ys. directory before (d ∷ ds) (map plain_interface ys)) (none_left given k)

pub directory_end : (before : List (List ℕ)) (items : List DirectoryItem) (is : List PlainInterface) → length items ≡ 0 → directory before items is ≡ Ok tt
unfolding directory
directory_end before items is h = ap (λ xs. directory before xs is) (none_left items h)

-- ---- their names

abbrev pub number_at : ℕ → DirectoryItem → List Entry
number_at n d = entry d.name.name (m.Interface n) ∷ []

scope_one : (n : ℕ) (ds : List DirectoryItem) (y : List ℕ) → directory_scope n ds y ≡ first_entry (flat_from number_at n ds) y
unfolding directory_scope first_entry flat_from
scope_one n [] y = refl
scope_one n (d ∷ ds) y = ap (cond (bytes_eq y d.name.name) (Some (m.Interface n))) (scope_one (n + 1) ds y)

pub scope_flat : (n : ℕ) (ds : List DirectoryItem) → directory_scope n ds ≡ first_entry (flat_from number_at n ds)
scope_flat n ds = λ i y. scope_one n ds y i
