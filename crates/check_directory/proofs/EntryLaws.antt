-- Entries of an interface, each behind those before it.
use Rattle.std.proofs.Common.{◌≡◌, ◌<◌, ◌≤◌, ◌+◌, ℕ, List, [], ◌∷◌, ◌++◌, map, drop, length, get_or, Option, refl, sym, ap, ◌∙◌}
use Rattle.std.proofs.lemmas.List.{drop_all, append_assoc}
use Rattle.check_scopes.specs.Scopes.{Scope, with_name, over, nothing}
use Rattle.check_scopes.specs.Shows.{means}
use Rattle.check_scopes.specs.declared.names.Names.{Names}
use Rattle.interface_records.specs.declared.interface.Constant.{Constant}
use Rattle.interface_records.specs.declared.interface.NamedType.{NamedType}
use Rattle.mesa_types.specs.declared.faces.Item.{Item}
use Rattle.mesa_types.specs.declared.types.FieldType.{FieldType, out-FieldType}
use Rattle.check_rules.specs.Directory.{Entry, entry, first_entry, elements_from, elements_in, in_parts, in_fields, in_items, in_constants, in_types, items_from, of_import, constant_entry, type_entry}
use Rattle.check_rules.specs.Meanings as m
use Rattle.interface_records.specs.PlainTypes.{PlainType, PlainField, PlainInterface, parts_of, plain, plain_field, plain_item, plain_constant, plain_name}
use Rattle.check_state.specs.Views.{seen_as, names, meaning}
use Rattle.check_state.specs.declared.meaning.Meaning.{Meaning}
use Rattle.check_state.proofs.ScopeLaws.{over_as, with_name_as}
use Rattle.check_state.proofs.TypeForms.{parts_of_field}
use Rattle.check_directory.proofs.PlaceLaws.{at_drop, name_then, over_nothing}

pub over_none : (s : Scope m.Meaning) → over s (first_entry []) ≡ s
unfolding first_entry
over_none s = over_nothing s

first_then : (s : Scope m.Meaning) (e : Entry) (es : List Entry)
    → over s (first_entry (e ∷ es)) ≡ over (over s (with_name e.name e.meaning nothing)) (first_entry es)
unfolding first_entry
first_then s e es = name_then s e.name e.meaning (first_entry es)

pub over_entries : (s : Scope m.Meaning) (ps qs : List Entry) → over s (first_entry (ps ++ qs)) ≡ over (over s (first_entry ps)) (first_entry qs)
over_entries s [] qs = ap (λ t. over t (first_entry qs)) (sym (over_none s))
over_entries s (e ∷ ps) qs =
    first_then s e (ps ++ qs)
    ∙ over_entries (over s (with_name e.name e.meaning nothing)) ps qs
    ∙ ap (λ t. over t (first_entry qs)) (sym (first_then s e ps))

first_one : (s : Scope m.Meaning) (x : List ℕ) (k : m.Meaning) → over s (first_entry (entry x k ∷ [])) ≡ over s (with_name x k nothing)
first_one s x k = first_then s (entry x k) [] ∙ over_none (over s (with_name x k nothing))

offered_one : (old new : Names Meaning) (x : List ℕ) (k : Meaning) → means new ≡ over (means old) (with_name x k nothing)
    → names new ≡ over (names old) (first_entry (entry x (meaning k) ∷ []))
unfolding names
offered_one old new x k h =
    ap (seen_as meaning) h ∙ over_as meaning (means old) (with_name x k nothing)
    ∙ ap (over (seen_as meaning (means old))) (with_name_as meaning x k nothing)
    ∙ sym (first_one (seen_as meaning (means old)) x (meaning k))

pub offered_by : (old new : Names Meaning) (x y : List ℕ) (k : Meaning) → y ≡ x → means new ≡ over (means old) (with_name y k nothing)
    → names new ≡ over (names old) (first_entry (entry x (meaning k) ∷ []))
offered_by old new x y k e h = offered_one old new x k (h ∙ ap (λ z. over (means old) (with_name z k nothing)) e)

pub no_names : (new : Names Meaning) → means new ≡ nothing → names new ≡ nothing
unfolding names
no_names new h = ap (seen_as meaning) h

-- the entries of each element of a list
unfoldable pub flat_from : {A : Type 0} → (ℕ → A → List Entry) → ℕ → List A → List Entry
flat_from f n [] = []
flat_from f n (x ∷ xs) = f n x ++ flat_from f (n + 1) xs

module _ {A : Type 0} (f : ℕ → A → List Entry) (s : Scope m.Meaning) (n : ℕ) (all : List A) (i : ℕ) where
  pub flat_at : (x : A) → i < length all → x ≡ get_or all i x
      → over s (first_entry (flat_from f n (drop i all))) ≡ over (over s (first_entry (f n x))) (first_entry (flat_from f (n + 1) (drop (i + 1) all)))
  unfolding flat_from
  flat_at x inside here =
      ap (λ xs. over s (first_entry (flat_from f n xs))) (at_drop all i x inside here)
      ∙ over_entries s (f n x) (flat_from f (n + 1) (drop (i + 1) all))

  pub flat_out : length all ≤ i → over s (first_entry (flat_from f n (drop i all))) ≡ s
  unfolding flat_from
  flat_out outside = ap (λ xs. over s (first_entry (flat_from f n xs))) (drop_all i all outside) ∙ over_none s

abbrev pub item_at : Option ℕ → ℕ → Item → List Entry
item_at import n i = entry i.name (of_import import n (plain_item i)) ∷ []

pub items_flat : (import : Option ℕ) (n : ℕ) (is : List Item) → items_from import n (map plain_item is) ≡ flat_from (item_at import) n is
unfolding items_from flat_from
items_flat import n [] = refl
items_flat import n (i ∷ is) = ap (λ es. entry i.name (of_import import n (plain_item i)) ∷ es) (items_flat import (n + 1) is)

abbrev pub constant_at : ℕ → Constant → List Entry
constant_at n c = constant_entry (plain_constant c) ∷ []

pub constants_flat : (n : ℕ) (cs : List Constant) → map constant_entry (map plain_constant cs) ≡ flat_from constant_at n cs
unfolding flat_from
constants_flat n [] = refl
constants_flat n (c ∷ cs) = ap (λ es. constant_entry (plain_constant c) ∷ es) (constants_flat (n + 1) cs)

abbrev pub type_at : ℕ → NamedType → List Entry
type_at n x = type_entry (plain_name x) ∷ []

pub types_flat : (n : ℕ) (xs : List NamedType) → map type_entry (map plain_name xs) ≡ flat_from type_at n xs
unfolding flat_from
types_flat n [] = refl
types_flat n (x ∷ xs) = ap (λ es. type_entry (plain_name x) ∷ es) (types_flat (n + 1) xs)

abbrev pub element_at : PlainType → ℕ → List ℕ → List Entry
element_at k n x = entry x (m.Constant k n) ∷ []

pub elements_flat : (k : PlainType) (n : ℕ) (xs : List (List ℕ)) → elements_from k n xs ≡ flat_from (element_at k) n xs
unfolding elements_from flat_from
elements_flat k n [] = refl
elements_flat k n (x ∷ xs) = ap (λ es. entry x (m.Constant k n) ∷ es) (elements_flat k (n + 1) xs)

module _ (face : PlainInterface) where
  pub parts_fields : (fs : List PlainField) → in_parts face (parts_of fs) ≡ in_fields face fs
  unfolding in_parts in_fields parts_of
  parts_fields [] = refl
  parts_fields (f ∷ fs) = ap (λ es. elements_in face f.kind ++ es) (parts_fields fs)

  abbrev pub in_field : ℕ → FieldType → List Entry
  in_field n f = elements_in face (plain (out-FieldType f).kind)

  pub fields_flat : (n : ℕ) (fs : List FieldType) → in_fields face (map plain_field fs) ≡ flat_from in_field n fs
  unfolding in_fields flat_from
  fields_flat n [] = refl
  fields_flat n (f ∷ fs) =
      ap (λ (g : PlainField). elements_in face g.kind ++ in_fields face (map plain_field fs)) (parts_of_field f)
      ∙ ap (λ es. in_field n f ++ es) (fields_flat (n + 1) fs)

  abbrev pub in_item : ℕ → Item → List Entry
  in_item n i = in_fields face (map plain_field i.takes) ++ in_fields face (map plain_field i.gives)

  pub in_items_flat : (n : ℕ) (is : List Item) → in_items face (map plain_item is) ≡ flat_from in_item n is
  unfolding in_items flat_from
  in_items_flat n [] = refl
  in_items_flat n (i ∷ is) =
      ap (λ es. in_fields face (map plain_field i.takes) ++ (in_fields face (map plain_field i.gives) ++ es)) (in_items_flat (n + 1) is)
      ∙ sym (append_assoc (in_fields face (map plain_field i.takes)) (in_fields face (map plain_field i.gives)) (flat_from in_item (n + 1) is))

  abbrev pub in_constant : ℕ → Constant → List Entry
  in_constant n c = elements_in face (plain c.kind)

  pub in_constants_flat : (n : ℕ) (cs : List Constant) → in_constants face (map plain_constant cs) ≡ flat_from in_constant n cs
  unfolding in_constants flat_from
  in_constants_flat n [] = refl
  in_constants_flat n (c ∷ cs) = ap (λ es. in_constant n c ++ es) (in_constants_flat (n + 1) cs)

  abbrev pub in_named : ℕ → NamedType → List Entry
  in_named n x = elements_in face (plain x.kind)

  pub in_types_flat : (n : ℕ) (xs : List NamedType) → in_types face (map plain_name xs) ≡ flat_from in_named n xs
  unfolding in_types flat_from
  in_types_flat n [] = refl
  in_types_flat n (x ∷ xs) = ap (λ es. in_named n x ++ es) (in_types_flat (n + 1) xs)

more : (s t : Scope m.Meaning) (ps qs : List Entry) → t ≡ over s (first_entry ps) → over s (first_entry (ps ++ qs)) ≡ over t (first_entry qs)
more s t ps qs h = over_entries s ps qs ∙ ap (λ u. over u (first_entry qs)) (sym h)

pub six_together : (start s t u v w whole : Scope m.Meaning) (ps qs cs ds es fs : List Entry) → start ≡ nothing
    → s ≡ over start (first_entry ps) → t ≡ over s (first_entry qs) → u ≡ over t (first_entry cs)
    → v ≡ over u (first_entry ds) → w ≡ over v (first_entry es) → whole ≡ over w (first_entry fs)
    → whole ≡ first_entry (ps ++ (qs ++ (cs ++ (ds ++ (es ++ fs)))))
six_together start s t u v w whole ps qs cs ds es fs none a b c d e f = sym (
    ap (λ z. over z (first_entry (ps ++ (qs ++ (cs ++ (ds ++ (es ++ fs))))))) (sym none)
    ∙ more start s ps (qs ++ (cs ++ (ds ++ (es ++ fs)))) a
    ∙ more s t qs (cs ++ (ds ++ (es ++ fs))) b
    ∙ more t u cs (ds ++ (es ++ fs)) c
    ∙ more u v ds (es ++ fs) d
    ∙ more v w es fs e
    ∙ sym f)

pub two_together : (start s t : Scope m.Meaning) (d e : Entry) → start ≡ nothing → s ≡ over start (first_entry (d ∷ [])) → t ≡ over s (first_entry (e ∷ []))
    → t ≡ first_entry (d ∷ e ∷ [])
two_together start s t d e none a b =
    b ∙ ap (λ u. over u (first_entry (e ∷ []))) a ∙ sym (over_entries start (d ∷ []) (e ∷ [])) ∙ ap (λ u. over u (first_entry (d ∷ e ∷ []))) none
