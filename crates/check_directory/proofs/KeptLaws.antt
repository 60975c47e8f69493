-- The names of a list among those of a scope.
use Rattle.std.proofs.Common.{◌≡◌, ℕ, ◌+◌, ◌||◌, Bool, true, false, List, [], ◌∷◌, ◌++◌, Option, Some, None, option_map, refl, sym, ap, ◌∙◌}
use Rattle.std.specs.Prelude.{cond, bytes_eq}
use Rattle.std.proofs.lemmas.Slice.Eq.{bytes_eq-Decides}
use Rattle.mesa_base.specs.declared.identifier.Identifier.{Identifier}
use Rattle.check_scopes.specs.Scopes.{Scope, has, over}
use Rattle.check_scopes.specs.Shows.{means}
use Rattle.check_scopes.specs.declared.names.Names.{Names}
use Rattle.check_rules.specs.Directory.{Entry, first_entry, restricted}
use Rattle.check_rules.specs.Meanings as m
use Rattle.check_rules.specs.Parts.{names_of}
use Rattle.check_directory.specs.Kept.{entry_if, kept}
use Rattle.check_state.specs.Views.{meaning, names}
use Rattle.check_state.specs.declared.meaning.Meaning.{Meaning}
use Rattle.check_directory.proofs.EntryLaws.{flat_from, over_none}

one_left : (scope : Scope m.Meaning) (x y : List ℕ) (o : Option m.Meaning) → scope x ≡ o → (b : Bool) → bytes_eq y x ≡ b → (c : Bool) (rest : List Entry)
    → cond c (scope y) None ≡ first_entry rest y → cond (b || c) (scope y) None ≡ first_entry (entry_if x o ++ rest) y
unfolding first_entry
one_left scope x y None e true same true rest h = h
one_left scope x y None e true same false rest h = ap scope ((bytes_eq-Decides y x).0 same) ∙ e ∙ h
one_left scope x y None e false same c rest h = h
one_left scope x y (Some k) e true same c rest h = ap scope ((bytes_eq-Decides y x).0 same) ∙ e ∙ sym (ap (λ b. cond b (Some k) (first_entry rest y)) same)
one_left scope x y (Some k) e false same c rest h = h ∙ sym (ap (λ b. cond b (Some k) (first_entry rest y)) same)

abbrev pub name_at : Scope m.Meaning → ℕ → Identifier → List Entry
name_at scope n x = kept scope x.name

left_one : (scope : Scope m.Meaning) (n : ℕ) (xs : List Identifier) (y : List ℕ) → restricted (Some xs) scope y ≡ first_entry (flat_from (name_at scope) n xs) y
unfolding has first_entry flat_from
left_one scope n [] y = refl
left_one scope n (x ∷ xs) y =
    one_left scope x.name y (scope x.name) refl (bytes_eq y x.name) refl (has y (names_of xs)) (flat_from (name_at scope) (n + 1) xs) (left_one scope (n + 1) xs y)

pub left_flat : (scope : Scope m.Meaning) (n : ℕ) (xs : List Identifier) → restricted (Some xs) scope ≡ first_entry (flat_from (name_at scope) n xs)
left_flat scope n xs = λ i y. left_one scope n xs y i

-- a name that means nothing there leaves all as it is
pub none_kept : (s : Scope m.Meaning) (scope : Names Meaning) (x : List ℕ) → means scope x ≡ None → over s (first_entry (kept (names scope) x)) ≡ s
unfolding names
none_kept s scope x h = ap (λ o. over s (first_entry (entry_if x (option_map meaning o)))) h ∙ over_none s
