-- Names that are listed, one name after the other.
use Rattle.std.proofs.Common.{◌≡◌, ◌<◌, ◌≤◌, ◌+◌, ℕ, Bool, true, false, List, [], ◌∷◌, drop, length, get_or, Ok, is_some, sym, ap, ◌∙◌}
use Rattle.std.specs.Prelude.{not}
use Rattle.std.proofs.lemmas.List.{drop_all}
use Rattle.check_scopes.specs.Scopes.{Scope, with_name, nothing, has}
use Rattle.check_scopes.specs.Shows.{means}
use Rattle.check_scopes.specs.declared.names.Names.{Names}
use Rattle.check_scopes.proofs.Laws.{has_one_more}
use Rattle.mesa_base.specs.declared.identifier.Identifier.{Identifier}
use Rattle.check_rules.specs.Directory.{listed}
use Rattle.check_rules.specs.Steps.{Checked, and_then, only, refuse}
use Rattle.check_rules.specs.declared.fault.Cause.TheVariants.{UnknownName, TwiceDeclared}
use Rattle.check_directory.specs.Lists.{HasNames}
use Rattle.check_directory.proofs.PlaceLaws.{at_drop}

abbrev looked : Bool → Bool → Identifier → Checked (Unit {0}) → Checked (Unit {0})
looked known twice x rest =
    and_then (only known UnknownName x.place) (λ _. and_then (only (not twice) TwiceDeclared x.place) (λ _. rest))

listed_at : (all before : List (List ℕ)) (xs : List Identifier) (i : ℕ) (x : Identifier) → i < length xs → x ≡ get_or xs i x
    → listed all before (drop i xs) ≡ looked (has x.name all) (has x.name before) x (listed all (x.name ∷ before) (drop (i + 1) xs))
unfolding listed
listed_at all before xs i x inside here = ap (listed all before) (at_drop xs i x inside here)

pub listed_unknown : (all before : List (List ℕ)) (xs : List Identifier) (i : ℕ) (x : Identifier) → i < length xs → x ≡ get_or xs i x
    → has x.name all ≡ false → listed all before (drop i xs) ≡ refuse UnknownName x.place
listed_unknown all before xs i x inside here unknown =
    listed_at all before xs i x inside here
    ∙ ap (λ b. looked b (has x.name before) x (listed all (x.name ∷ before) (drop (i + 1) xs))) unknown

pub listed_twice : (all before : List (List ℕ)) (xs : List Identifier) (i : ℕ) (x : Identifier) → i < length xs → x ≡ get_or xs i x
    → has x.name all ≡ true → has x.name before ≡ true → listed all before (drop i xs) ≡ refuse TwiceDeclared x.place
listed_twice all before xs i x inside here known twice =
    listed_at all before xs i x inside here
    ∙ ap (λ b. looked b (has x.name before) x (listed all (x.name ∷ before) (drop (i + 1) xs))) known
    ∙ ap (λ b. looked true b x (listed all (x.name ∷ before) (drop (i + 1) xs))) twice

pub listed_once : (all before : List (List ℕ)) (xs : List Identifier) (i : ℕ) (x : Identifier) → i < length xs → x ≡ get_or xs i x
    → has x.name all ≡ true → has x.name before ≡ false → listed all before (drop i xs) ≡ listed all (x.name ∷ before) (drop (i + 1) xs)
listed_once all before xs i x inside here known once =
    listed_at all before xs i x inside here
    ∙ ap (λ b. looked b (has x.name before) x (listed all (x.name ∷ before) (drop (i + 1) xs))) known
    ∙ ap (λ b. looked true b x (listed all (x.name ∷ before) (drop (i + 1) xs))) once

pub listed_end : (all before : List (List ℕ)) (xs : List Identifier) (i : ℕ) → length xs ≤ i → listed all before (drop i xs) ≡ Ok tt
unfolding listed
listed_end all before xs i outside = ap (listed all before) (drop_all i xs outside)

pub none_before : {T : Type 0} (index : Names T) → means index ≡ (nothing) → HasNames index []
unfolding has
none_before index h y = ap (λ (s : Scope _). is_some (s y)) h

pub one_before : {T : Type 0} (old new : Names T) (x : List ℕ) (m : T) (before : List (List ℕ)) → HasNames old before
    → means new ≡ with_name x m (means old) → HasNames new (x ∷ before)
one_before old new x m before knows h y =
    ap (λ (s : Scope _). is_some (s y)) h ∙ sym (has_one_more x m before (means old) (λ z. sym (knows z)) y)
