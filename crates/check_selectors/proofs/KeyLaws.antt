-- Keys and the fields that they name.
use Rattle.std.proofs.Common.{◌≡◌, ◌≢◌, ◌<◌, ◌≤◌, ℕ, ◌+◌, Bool, true, false, not, ◌&&◌, ◌||◌, List, [], ◌∷◌, ◌++◌, map, drop, length, get_or, Option, Some, None, is_some, refl, sym, ap, ◌∙◌, arith}
use Rattle.std.proofs.lemmas.List.{append_assoc, append-nil, length-map, drop_more, drop_all}
use Rattle.std.proofs.lemmas.Bool.{ne_eqb}
use Rattle.std.specs.Option.{option_or}
use Rattle.std.specs.Prelude.{cond, bytes_eq, option_map, nat_eq, if◌then◌else◌}
use Rattle.std.specs.Cmp.Lexicographic.{nat_list_eq_equiv}
use Rattle.mesa_base.specs.declared.identifier.Identifier.{Identifier}
use Rattle.check_rules.specs.syntax_trees.specs.declared.syntax.Keyed.{Keyed}
use Rattle.mesa_types.specs.declared.types.FieldType.{FieldType, out-FieldType}
use Rattle.check_scopes.specs.Scopes.{Scope, nothing, over, with_name, has}
use Rattle.interface_records.specs.PlainTypes.{PlainField, PlainType, plain_field, words_of}
use Rattle.check_rules.specs.Parts.{Found, found, field_named, has_name, number_by, names_of, are_fields, differ, places_of}
use Rattle.check_state.proofs.TypeForms.{parts_of_field}
use Rattle.check_selectors.specs.Keys.{places, places_if, named_number, numbered, unless, with_place, places_from}

-- ---- fields by number

or_or : {X : Type 0} (o p q : Option X) → option_or (option_or o p) q ≡ option_or o (option_or p q)
or_or None p q = refl
or_or (Some x) p q = refl

or_none : {X : Type 0} (o : Option X) → option_or o None ≡ o
or_none None = refl
or_none (Some x) = refl

pub numbered_here : (n : ℕ) (f : PlainField) (fs : List PlainField) (before : Scope ℕ)
    → over before (numbered n (f ∷ fs)) ≡ over (over before (named_number f.name n)) (numbered (n + 1) fs)
unfolding numbered
numbered_here n f fs before = λ i y. sym (or_or (before y) (named_number f.name n y) (numbered (n + 1) fs y)) i

pub numbered_at : (all : List FieldType) (i n : ℕ) (f : FieldType) (before : Scope ℕ) → i < length all → f ≡ get_or all i f
    → over before (numbered n (map plain_field (drop i all))) ≡ over (over before (named_number (out-FieldType f).name n)) (numbered (n + 1) (map plain_field (drop (i + 1) all)))
numbered_at all i n f before inside here =
    ap (λ fs. over before (numbered n (map plain_field fs))) (drop_more all i f inside ∙ ap (λ y. y ∷ drop (i + 1) all) (sym here))
    ∙ ap (λ g. over before (numbered n (g ∷ map plain_field (drop (i + 1) all)))) (parts_of_field f)
    ∙ numbered_here n (record { name = (out-FieldType f).name; kind = _ }) (map plain_field (drop (i + 1) all)) before

pub numbered_end : (all : List FieldType) (i n : ℕ) (before : Scope ℕ) → length all ≤ i → over before (numbered n (map plain_field (drop i all))) ≡ before
unfolding numbered
numbered_end all i n before outside = ap (λ fs. over before (numbered n (map plain_field fs))) (drop_all i all outside) ∙ (λ i y. or_none (before y) i)

pub none_before : (scope : Scope ℕ) → over nothing scope ≡ scope
none_before scope = refl

named_here : (b c : Bool) (n o : ℕ) (k : PlainType) (rest : Option Found) (numbers : Option ℕ) → b ≡ c → option_map (λ (f : Found). f.number) rest ≡ numbers
    → option_map (λ (f : Found). f.number) (if b then Some (record { number = n; offset = o; kind = k }) else rest) ≡ option_or (cond c (Some n) None) numbers
named_here true true n o k rest numbers e h = refl
named_here true false n o k rest numbers e h = cc
named_here false true n o k rest numbers e h = cc
named_here false false n o k rest numbers e h = h

by_label : (x : List ℕ) (y : Option (List ℕ)) (n o : ℕ) (k : PlainType) (rest : Option Found) (numbers : Scope ℕ) → option_map (λ (f : Found). f.number) rest ≡ numbers x
    → option_map (λ (f : Found). f.number) (if has_name x y then Some (record { number = n; offset = o; kind = k }) else rest) ≡ over (named_number y n) numbers x
by_label x (Some y) n o k rest numbers h = named_here (bytes_eq x y) (bytes_eq y x) n o k rest (numbers x) (nat_list_eq_equiv.symm x y) h
by_label x None n o k rest numbers h = h

pub found_number : (x : List ℕ) (n o : ℕ) (fs : List PlainField) → option_map (λ (f : Found). f.number) (found x n o fs) ≡ numbered n fs x
unfolding found numbered
found_number x n o [] = refl
found_number x n o (f ∷ fs) =
    by_label x f.name n o f.kind (found x (n + 1) (o + words_of f.kind) fs) (numbered (n + 1) fs) (found_number x (n + 1) (o + words_of f.kind) fs)

-- ---- keys, one after the other

-- none of these keys is taken
unfoldable unseen : Scope Bool → List Identifier → Bool
unseen taken [] = true
unseen taken (x ∷ xs) = not (is_some (taken x.name)) && unseen taken xs

seen_cond : (b s u h : Bool) → (not (is_some (cond b (Some true) (if s then Some true else None))) && (u && not h)) ≡ ((not s && u) && not (b || h))
seen_cond true true u h = refl
seen_cond true false true h = refl
seen_cond true false false h = refl
seen_cond false true u h = refl
seen_cond false false u h = refl

is_some_cond : (b : Bool) (o : Option Bool) → is_some (cond b (Some true) o) ≡ is_some (cond b (Some true) (if is_some o then Some true else None))
is_some_cond true o = refl
is_some_cond false None = refl
is_some_cond false (Some c) = refl

unseen_step : (b : Bool) (o : Option Bool) (u h w : Bool) → w ≡ (u && not h) → (not (is_some (cond b (Some true) o)) && w) ≡ ((not (is_some o) && u) && not (b || h))
unseen_step b o u h w e = ap (λ v. not (is_some (cond b (Some true) o)) && v) e ∙ ap (λ c. not c && (u && not h)) (is_some_cond b o) ∙ seen_cond b (is_some o) u h

unseen_with : (x : List ℕ) (taken : Scope Bool) (xs : List Identifier) → unseen (with_name x true taken) xs ≡ (unseen taken xs && not (has x (names_of xs)))
unfolding unseen has
unseen_with x taken [] = refl
unseen_with x taken (y ∷ ys) = unseen_step (bytes_eq x y.name) (taken y.name) (unseen taken ys) (has x (names_of ys)) _ (unseen_with x taken ys)

one_place : (taken : Option Bool) (f : Option Found) (a u h d : Bool) (done rest : List ℕ)
    → with_place (unless taken (option_map (λ (f : Found). f.number) f)) (λ n. places_if (a && ((u && not h) && d)) ((done ++ n ∷ []) ++ rest))
    ≡ places_if ((is_some f && a) && ((not (is_some taken) && u) && (not h && d))) (done ++ (number_by f ∷ rest))
one_place (Some t) None a u h d done rest = refl
one_place (Some t) (Some f) true u h d done rest = refl
one_place (Some t) (Some f) false u h d done rest = refl
one_place None None a u h d done rest = refl
one_place None (Some f) false u h d done rest = refl
one_place None (Some f) true false h d done rest = refl
one_place None (Some f) true true true d done rest = refl
one_place None (Some f) true true false d done rest = ap (places_if d) (append_assoc done (f.number ∷ []) rest)

abbrev fit : List PlainField → Scope Bool → List Identifier → Bool
fit fs taken xs = are_fields fs xs && (unseen taken xs && differ xs)

places_law : (fs : List PlainField) (taken : Scope Bool) (done : List ℕ) (xs : List Identifier)
    → places_from (numbered 0 fs) taken done xs ≡ places_if (fit fs taken xs) (done ++ places_of fs xs)
unfolding places_from are_fields differ unseen
places_law fs taken done [] = ap Some (sym (append-nil done))
places_law fs taken done (x ∷ xs) =
    ap (with_place (unless (taken x.name) (numbered 0 fs x.name))) (λ i n. places_law fs (with_name x.name true taken) (done ++ n ∷ []) xs i)
    ∙ ap (λ o. with_place (unless (taken x.name) o) (λ n. places_if (fit fs (with_name x.name true taken) xs) ((done ++ n ∷ []) ++ places_of fs xs))) (sym (found_number x.name 0 0 fs))
    ∙ ap (λ u. with_place (unless (taken x.name) (option_map (λ (f : Found). f.number) (field_named fs x))) (λ n. places_if (are_fields fs xs && (u && differ xs)) ((done ++ n ∷ []) ++ places_of fs xs))) (unseen_with x.name taken xs)
    ∙ one_place (taken x.name) (field_named fs x) (are_fields fs xs) (unseen taken xs) (has x.name (names_of xs)) (differ xs) done (places_of fs xs)

unseen_none : (xs : List Identifier) → unseen (λ x. None) xs ≡ true
unfolding unseen
unseen_none [] = refl
unseen_none (x ∷ xs) = unseen_none xs

many : (n : ℕ) (b : Bool) (ns : List ℕ) → places_if b ns ≡ places_if (nat_eq n n && b) ns
many n b ns = let e : nat_eq n n ≡ true = grind arith in rw e refl

-- as many keys as fields
pub places_found : (fs : List PlainField) (xs : List Identifier) → length xs ≡ length fs → places_from (numbered 0 fs) (λ x. None) [] xs ≡ places fs xs
places_found fs xs h =
    places_law fs (λ x. None) [] xs ∙ ap (λ u. places_if (are_fields fs xs && (u && differ xs)) (places_of fs xs)) (unseen_none xs)
    ∙ many (length fs) (are_fields fs xs && differ xs) (places_of fs xs) ∙ ap (λ n. places_if (nat_eq n (length fs) && (are_fields fs xs && differ xs)) (places_of fs xs)) (sym h)

pub places_many : (fs : List PlainField) (xs : List Identifier) → length xs ≢ length fs → places fs xs ≡ None
places_many fs xs h = let e : nat_eq (length xs) (length fs) ≡ false = ne_eqb (length xs) (length fs) h in rw e refl

-- ---- a loop over keys

module _ {T : Type 0} where
  abbrev keys : List (Keyed T) → List Identifier
  keys = map (λ (x : Keyed T). x.key)

  pub places_at : (numbers : Scope ℕ) (taken : Scope Bool) (done : List ℕ) (all : List (Keyed T)) (i : ℕ) (x : Keyed T) → i < length all → x ≡ get_or all i x
      → places_from numbers taken done (keys (drop i all))
      ≡ with_place (unless (taken x.key.name) (numbers x.key.name)) (λ n. places_from numbers (with_name x.key.name true taken) (done ++ n ∷ []) (keys (drop (i + 1) all)))
  unfolding places_from
  places_at numbers taken done all i x inside here = ap (λ xs. places_from numbers taken done (keys xs)) (drop_more all i x inside ∙ ap (λ y. y ∷ drop (i + 1) all) (sym here))

  pub places_end : (numbers : Scope ℕ) (taken : Scope Bool) (done : List ℕ) (all : List (Keyed T)) (i : ℕ) → length all ≤ i → places_from numbers taken done (keys (drop i all)) ≡ Some done
  unfolding places_from
  places_end numbers taken done all i outside = ap (λ xs. places_from numbers taken done (keys xs)) (drop_all i all outside)

  -- as many keys as fields
  pub all_keys : (fs : List FieldType) (es : List (Keyed T)) (numbers : Scope ℕ) → numbers ≡ numbered 0 (map plain_field fs) → length es ≡ length fs
      → places (map plain_field fs) (keys es) ≡ places_from numbers (λ x. None) [] (keys es)
  all_keys fs es numbers e h =
      sym (places_found (map plain_field fs) (keys es) (length-map es (λ (x : Keyed T). x.key) ∙ h ∙ sym (length-map fs plain_field))) ∙ ap (λ ns. places_from ns (λ x. None) [] (keys es)) (sym e)
