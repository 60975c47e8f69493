-- An index of fields, one field after the other.
use Rattle.std.proofs.Common.{◌≡◌, ◌<◌, ◌≤◌, ◌+◌, ℕ, Bool, true, false, List, ◌∷◌, map, drop, length, get_or, Option, Some, None, refl, sym, ap, ◌∙◌}
use Rattle.std.specs.Option.{option_or}
use Rattle.std.specs.Prelude.{cond, bytes_eq, option_map, if◌then◌else◌}
use Rattle.std.specs.Cmp.Lexicographic.{nat_list_eq_equiv}
use Rattle.std.proofs.lemmas.List.{drop_all}
use Rattle.mesa_types.specs.declared.types.FieldType.{FieldType, out-FieldType}
use Rattle.check_scopes.specs.Scopes.{Scope, over}
use Rattle.check_rules.specs.Parts.{Found, found, has_name}
use Rattle.interface_records.specs.PlainTypes.{PlainField, PlainType, plain, plain_field, words_of}
use Rattle.check_state.proofs.TypeForms.{parts_of_field}
use Rattle.check_declared.specs.check_jumps.proofs.Tests.{at_drop}
use Rattle.check_simple_statements.specs.Spots.{named_spot, spot}
use Rattle.check_simple_statements.specs.declared.spots.Spot.{Spot}

-- what is found by the index, or else among the fields behind
abbrev pub or_behind : Scope Spot → ℕ → ℕ → List PlainField → List ℕ → Option Found
or_behind index n offset fs x = option_or (option_map spot (index x)) (found x n offset fs)

by_test : (b c : Bool) (y : Spot) (rest : Option Found) → b ≡ c → (if b then Some (spot y) else rest) ≡ option_or (option_map spot (cond c (Some y) None)) rest
by_test true true y rest e = refl
by_test false false y rest e = refl
by_test true false y rest e = cc
by_test false true y rest e = cc

by_label : (x : List ℕ) (label : Option (List ℕ)) (y : Spot) (rest : Option Found)
    → (if has_name x label then Some (spot y) else rest) ≡ option_or (option_map spot (named_spot label y x)) rest
by_label x (Some z) y rest = by_test (bytes_eq x z) (bytes_eq z x) y rest (nat_list_eq_equiv.symm x z)
by_label x None y rest = refl

by_index : (o : Option Spot) (p q : Option Found) (r : Option Spot) → p ≡ option_or (option_map spot r) q
    → option_or (option_map spot o) p ≡ option_or (option_map spot (option_or o r)) q
by_index (Some y) p q r e = refl
by_index None p q r e = e

one_behind : (index : Scope Spot) (n offset : ℕ) (label : Option (List ℕ)) (k : PlainType) (fs : List PlainField) (y : Spot) (x : List ℕ)
    → record { number = n; offset = offset; kind = k } ≡ spot y
    → or_behind index n offset (record { name = label; kind = k } ∷ fs) x ≡ or_behind (over index (named_spot label y)) (n + 1) (offset + words_of k) fs x
unfolding found
one_behind index n offset label k fs y x e =
    by_index (index x) (if has_name x label then Some (record { number = n; offset = offset; kind = k }) else found x (n + 1) (offset + words_of k) fs)
    (found x (n + 1) (offset + words_of k) fs) (named_spot label y x)
    (ap (λ z. if has_name x label then Some z else found x (n + 1) (offset + words_of k) fs) e ∙ by_label x label y (found x (n + 1) (offset + words_of k) fs))

pub index_at : (all : List FieldType) (i n offset : ℕ) (f : FieldType) (index new : Scope Spot) (y : Spot) (x : List ℕ) → i < length all → f ≡ get_or all i f
    → new ≡ over index (named_spot (out-FieldType f).name y) → record { number = n; offset = offset; kind = plain (out-FieldType f).kind } ≡ spot y
    → or_behind index n offset (map plain_field (drop i all)) x
    ≡ or_behind new (n + 1) (offset + words_of (plain (out-FieldType f).kind)) (map plain_field (drop (i + 1) all)) x
index_at all i n offset f index new y x inside here declared e =
    ap (λ fs. or_behind index n offset (map plain_field fs) x) (at_drop all i f inside here)
    ∙ ap (λ g. or_behind index n offset (g ∷ map plain_field (drop (i + 1) all)) x) (parts_of_field f)
    ∙ one_behind index n offset (out-FieldType f).name (plain (out-FieldType f).kind) (map plain_field (drop (i + 1) all)) y x e
    ∙ ap (λ s. or_behind s (n + 1) (offset + words_of (plain (out-FieldType f).kind)) (map plain_field (drop (i + 1) all)) x) (sym declared)

or_none : {X : Type 0} (o : Option X) → option_or o None ≡ o
or_none None = refl
or_none (Some x) = refl

pub index_end : (all : List FieldType) (i n offset : ℕ) (index : Scope Spot) (x : List ℕ) → length all ≤ i
    → or_behind index n offset (map plain_field (drop i all)) x ≡ option_map spot (index x)
unfolding found
index_end all i n offset index x outside =
    ap (λ fs. or_behind index n offset (map plain_field fs) x) (drop_all i all outside) ∙ or_none (option_map spot (index x))
