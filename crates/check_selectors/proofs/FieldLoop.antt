-- The search of a field, one after the other.
use Rattle.std.proofs.Common.{◌≡◌, ◌<◌, ◌≤◌, ◌+◌, ℕ, true, false, List, ◌∷◌, map, drop, length, get_or, Some, None, refl, sym, ap, ◌∙◌}
use Rattle.std.proofs.lemmas.List.{drop_more, drop_all}
use Rattle.mesa_types.specs.declared.types.FieldType.{FieldType, out-FieldType}
use Rattle.interface_records.specs.PlainTypes.{PlainField, plain, plain_field, words_of}
use Rattle.check_rules.specs.Parts.{found, has_name}
use Rattle.check_state.proofs.TypeForms.{parts_of_field}

at_drop : (all : List FieldType) (i : ℕ) (x : FieldType) → i < length all → x ≡ get_or all i x → map plain_field (drop i all) ≡ plain_field x ∷ map plain_field (drop (i + 1) all)
at_drop all i x inside here = ap (map plain_field) (drop_more all i x inside ∙ ap (λ y. y ∷ drop (i + 1) all) (sym here))

here_found : (x : List ℕ) (n o : ℕ) (f : PlainField) (fs : List PlainField) → has_name x f.name ≡ true → found x n o (f ∷ fs) ≡ Some (record { number = n; offset = o; kind = f.kind })
unfolding found
here_found x n o f fs h = rw h refl

further_found : (x : List ℕ) (n o : ℕ) (f : PlainField) (fs : List PlainField) → has_name x f.name ≡ false → found x n o (f ∷ fs) ≡ found x (n + 1) (o + words_of f.kind) fs
unfolding found
further_found x n o f fs h = rw h refl

pub found_here : (all : List FieldType) (i : ℕ) (f : FieldType) (x : List ℕ) (n o : ℕ) → i < length all → f ≡ get_or all i f
    → has_name x (out-FieldType f).name ≡ true → found x n o (map plain_field (drop i all)) ≡ Some (record { number = n; offset = o; kind = plain (out-FieldType f).kind })
found_here all i f x n o inside at h =
    ap (found x n o) (at_drop all i f inside at ∙ ap (λ g. g ∷ map plain_field (drop (i + 1) all)) (parts_of_field f))
    ∙ here_found x n o (record { name = (out-FieldType f).name; kind = plain (out-FieldType f).kind }) (map plain_field (drop (i + 1) all)) h

pub found_further : (all : List FieldType) (i : ℕ) (f : FieldType) (x : List ℕ) (n o : ℕ) → i < length all → f ≡ get_or all i f
    → has_name x (out-FieldType f).name ≡ false → found x n o (map plain_field (drop i all)) ≡ found x (n + 1) (o + words_of (plain (out-FieldType f).kind)) (map plain_field (drop (i + 1) all))
found_further all i f x n o inside at h =
    ap (found x n o) (at_drop all i f inside at ∙ ap (λ g. g ∷ map plain_field (drop (i + 1) all)) (parts_of_field f))
    ∙ further_found x n o (record { name = (out-FieldType f).name; kind = plain (out-FieldType f).kind }) (map plain_field (drop (i + 1) all)) h

pub found_none : (all : List FieldType) (i : ℕ) (x : List ℕ) (n o : ℕ) → length all ≤ i → found x n o (map plain_field (drop i all)) ≡ None
unfolding found
found_none all i x n o outside = ap (λ fs. found x n o (map plain_field fs)) (drop_all i all outside)
