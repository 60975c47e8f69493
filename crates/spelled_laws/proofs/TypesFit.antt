-- Types that can be spelled are those that their form fits, by the type.
use Rattle.std.proofs.Common.{◌≡◌, ℕ, zero, suc, ◌<◌, ◌≤◌, Bool, true, false, List, [], length, map-id, refl, sym, ap, subst, arith}
use Rattle.std.specs.Prelude.{nat_le, Option, Some, None, IsSomeAnd}
use Rattle.std.specs.List.{All}
use Rattle.std.proofs.lemmas.Bool.{and_parts, and_from, le-leb, leb-true}
use Rattle.mesa_base.specs.Name.{IsName}
use Rattle.mesa_base.specs.declared.limits.TheConstants.{TYPE_WORDS, TYPE_DEPTH, ENUMERATION_ELEMENTS}
use Rattle.mesa_types.specs.declared.types.Origin.{Origin}
use Rattle.mesa_types.specs.declared.types.TypeTree.{TypeTree, out-TypeTree}
use Rattle.mesa_types.specs.declared.types.TypeTree.TheVariants as tree
use Rattle.mesa_types.specs.declared.types.FieldType.{FieldType, out-roll-FieldType}
use Rattle.mesa_types.specs.Operators.{shifted}
use Rattle.interface_records.specs.Lists.{NoneTwice}
use Rattle.interface_records.specs.PlainTypes as p
use Rattle.interface_records.specs.PlainTypes.{PlainType, Parts, HasPart, depth_of, depth_of_parts, is_ordinal, sign_of, words_of, plain, tree_of, trees_of}
use Rattle.interface_records.specs.Spelled.{OriginCanBeSpelled, IsValueOf, NamesCanBeSpelled, TypeCanBeSpelled, PartsCanBeSpelled}
use Rattle.file_forms.specs.Forms.{Form, number, pair, list, between}
use Rattle.file_forms.specs.Names.{name, fresh_name}
use Rattle.face_rules.specs.Layers.{tag_of, of_enumeration, of_subrange, of_array, of_record, holds, in_order}
use Rattle.face_rules.specs.TypeForms.{any, is_base, is_index, is_known, origin, origin_at, origin_parts, enumeration, bounds, subrange, array, record_of, fields_form, tagged, is_small, tag, typed, too_deep, type_form, types}
use Rattle.face_rules.proofs.LayerLaws.{enumeration_back, subrange_back, array_back, record_back}
use Rattle.spelled_laws.proofs.Names.{name_fits, name_is, fresh_fits, fresh_is}
use Rattle.spelled_laws.proofs.Once.{Each, Fresh, fresh, together, each_fits, each_fine}
use Rattle.spelled_laws.proofs.Labels.{KindFits, fields_form_fits, fields_form_can, each_all, all_each, nothing_twice}
use Rattle.spelled_laws.proofs.Twins.{fields_again, type_back}
use Rattle.spelled_laws.proofs.Measures.{tag_for, tag_same, base_tag, tag_base, tag_base_ordinal, index_tag, tag_index, small_type, type_small, ordinal_room, value_holds, holds_value, order_holds, holds_order, value_room}

some_put : {A : Type 0} (P : A → Type 0) (o : Option A) (a : A) → o ≡ Some a → P a → IsSomeAnd o P
some_put P o a is h = subst (λ o. IsSomeAnd o P) (sym is) h

some_got : {A : Type 0} (P : A → Type 0) (o : Option A) (a : A) → o ≡ Some a → IsSomeAnd o P → P a
some_got P o a is h = let at : IsSomeAnd (Some a) P = subst (λ o. IsSomeAnd o P) is h in at

-- ---- origins

abbrev origin_text : Form (List ℕ × (ℕ × ℕ))
origin_text = pair name (λ _. pair (number 6) (λ _. number 4))

pub origin_fits : (o : Origin) → OriginCanBeSpelled o → origin.fits o
unfolding origin
origin_fits o h =
    some_put origin_text.fits (origin_parts o) (o.«module», (h.stamp.0, o.number)) (ap (origin_at o.«module» o.number) h.stamp.1)
    (name_fits o.«module» h.name, (h.stamp.2, h.number))

origin_at_can : (o : Origin) (s : Option ℕ) → o.stamp ≡ s → IsSomeAnd (origin_at o.«module» o.number s) origin_text.fits → OriginCanBeSpelled o
origin_at_can o None is h = absurd h
origin_at_can o (Some n) is h = record { name = name_is o.«module» h.0; stamp = (n, is, h.1.0); number = h.1.1 }

pub origin_can : (o : Origin) → origin.fits o → OriginCanBeSpelled o
unfolding origin
origin_can o h = origin_at_can o o.stamp refl h

-- ---- the names of an enumeration

abbrev elements : Form (List (List ℕ))
elements = list (between 1 ENUMERATION_ELEMENTS) fresh_name

elements_fit : (xs : List (List ℕ)) → 0 < length xs → length xs ≤ ENUMERATION_ELEMENTS → All IsName xs → NoneTwice xs → elements.fits xs
elements_fit xs some few names once =
    let most : length xs ≤ 65536 = few in (
      (omega (arith, most), and_from (nat_le 1 (length xs)) (nat_le (length xs) ENUMERATION_ELEMENTS) (le-leb 1 (length xs) some) (le-leb (length xs) ENUMERATION_ELEMENTS few)),
      (refl, each_fits fresh_name (λ x. x) IsName (λ ys. ys) (λ before a. refl) [] fresh_fits [] xs (all_each IsName xs names) (subst (Fresh []) (sym (map-id xs)) (fresh [] xs once))),
    )

record Elements (xs : List (List ℕ)) : Type 0 where
  some : 0 < length xs
  few : length xs ≤ ENUMERATION_ELEMENTS
  names : All IsName xs
  once : NoneTwice xs

elements_can : (xs : List (List ℕ)) → elements.fits xs → Elements xs
elements_can xs h =
    let n = and_parts (nat_le 1 (length xs)) (nat_le (length xs) ENUMERATION_ELEMENTS) h.0.1 in
    let e = each_fine fresh_name (λ x. x) IsName (λ ys. ys) (λ before a. refl) [] fresh_is [] xs h.1.1 in
    record {
      some = leb-true 1 (length xs) n.0;
      few = leb-true (length xs) ENUMERATION_ELEMENTS n.1;
      names = each_all IsName xs e.0;
      once = together [] xs nothing_twice (subst (Fresh []) (map-id xs) e.1);
    }

-- ---- one layer

module _ (version : ℕ) (inner : (ℕ → Bool) → Form TypeTree) where
  put_typed : (allowed : ℕ → Bool) (t : TypeTree) (n : ℕ) → tag_of t ≡ n → n < 256 → is_known version n ≡ true → allowed n ≡ true → (tagged inner n).fits t → is_small t ≡ true
      → (typed version inner allowed).fits t
  unfolding typed tag
  put_typed allowed t n is few known ok fits small =
      (subst (λ m. (tag version allowed).fits m × (tagged inner m).fits t) (sym is) ((few, and_from (is_known version n) (allowed n) known ok), fits), small)

  record Typed (allowed : ℕ → Bool) (t : TypeTree) (n : ℕ) : Type 0 where
    ok : allowed n ≡ true
    fits : (tagged inner n).fits t
    small : is_small t ≡ true

  got_typed : (allowed : ℕ → Bool) (t : TypeTree) (n : ℕ) → tag_of t ≡ n → (typed version inner allowed).fits t → Typed allowed t n
  unfolding typed tag
  got_typed allowed t n is h =
      let k : (tag version allowed).fits n × (tagged inner n).fits t = subst (λ m. (tag version allowed).fits m × (tagged inner m).fits t) is h.0 in
      record { ok = (and_parts (is_known version n) (allowed n) k.0.1).1; fits = k.1; small = h.1 }

  put_enumeration : (o : Origin) (xs : List (List ℕ)) → origin.fits o → elements.fits xs → (tagged inner 6).fits (tree.Enumeration o xs)
  unfolding tagged enumeration
  put_enumeration o xs h k = some_put (pair origin (λ _. elements)).fits (of_enumeration (out-TypeTree (tree.Enumeration o xs))) (o, xs) (enumeration_back (o, xs)) (h, k)

  got_enumeration : (o : Origin) (xs : List (List ℕ)) → (tagged inner 6).fits (tree.Enumeration o xs) → origin.fits o × elements.fits xs
  unfolding tagged enumeration
  got_enumeration o xs h = some_got (pair origin (λ _. elements)).fits (of_enumeration (out-TypeTree (tree.Enumeration o xs))) (o, xs) (enumeration_back (o, xs)) h

  put_subrange : (b : TypeTree) (m n : ℕ) → (inner is_base).fits b → (bounds b).fits (m, n) → (tagged inner 7).fits (tree.Subrange b m n)
  unfolding tagged subrange
  put_subrange b m n h k = some_put (pair (inner is_base) bounds).fits (of_subrange (out-TypeTree (tree.Subrange b m n))) (b, (m, n)) (subrange_back (b, (m, n))) (h, k)

  got_subrange : (b : TypeTree) (m n : ℕ) → (tagged inner 7).fits (tree.Subrange b m n) → (inner is_base).fits b × (bounds b).fits (m, n)
  unfolding tagged subrange
  got_subrange b m n h = some_got (pair (inner is_base) bounds).fits (of_subrange (out-TypeTree (tree.Subrange b m n))) (b, (m, n)) (subrange_back (b, (m, n))) h

  put_array : (i e : TypeTree) → (inner is_index).fits i → (inner any).fits e → (tagged inner 8).fits (tree.Array i e)
  unfolding tagged array
  put_array i e h k = some_put (pair (inner is_index) (λ _. inner any)).fits (of_array (out-TypeTree (tree.Array i e))) (i, e) (array_back (i, e)) (h, k)

  got_array : (i e : TypeTree) → (tagged inner 8).fits (tree.Array i e) → (inner is_index).fits i × (inner any).fits e
  unfolding tagged array
  got_array i e h = some_got (pair (inner is_index) (λ _. inner any)).fits (of_array (out-TypeTree (tree.Array i e))) (i, e) (array_back (i, e)) h

  put_record : (o : Origin) (fs : List FieldType) → origin.fits o → (fields_form (inner any) 1).fits fs → (tagged inner 9).fits (tree.Record o fs)
  unfolding tagged record_of
  put_record o fs h k = some_put (pair origin (λ _. fields_form (inner any) 1)).fits (of_record (out-TypeTree (tree.Record o fs))) (o, fs) (record_back (o, fs)) (h, k)

  got_record : (o : Origin) (fs : List FieldType) → (tagged inner 9).fits (tree.Record o fs) → origin.fits o × (fields_form (inner any) 1).fits fs
  unfolding tagged record_of
  got_record o fs h = some_got (pair origin (λ _. fields_form (inner any) 1)).fits (of_record (out-TypeTree (tree.Record o fs))) (o, fs) (record_back (o, fs)) h

  put_integer : (tagged inner 1).fits tree.Integer
  unfolding tagged
  put_integer = refl

  put_cardinal : (tagged inner 2).fits tree.Cardinal
  unfolding tagged
  put_cardinal = refl

  put_boolean : (tagged inner 3).fits tree.Boolean
  unfolding tagged
  put_boolean = refl

  put_character : (tagged inner 4).fits tree.Character
  unfolding tagged
  put_character = refl

  put_string : (tagged inner 5).fits tree.String
  unfolding tagged
  put_string = refl

  put_long_integer : (tagged inner 10).fits tree.LongInteger
  unfolding tagged
  put_long_integer = refl

  put_long_cardinal : (tagged inner 11).fits tree.LongCardinal
  unfolding tagged
  put_long_cardinal = refl

-- ---- bounds

module _ (k : PlainType) (h : TypeCanBeSpelled k) (o : is_ordinal k ≡ true) where
  value_word : (n : ℕ) → IsValueOf k n → n < 65536
  value_word n v = omega (arith, value_room k n h v, ordinal_room k o)

  put_bounds : (m n : ℕ) → IsValueOf k m → IsValueOf k n → shifted (sign_of k) m ≤ shifted (sign_of k) n → (bounds (tree_of k)).fits (m, n)
  unfolding bounds
  put_bounds m n a b less = (
    (value_word m a, value_holds k h m a),
    (value_word n b, and_from (holds (tree_of k) n) (in_order (tree_of k) m n) (value_holds k h n b) (order_holds k o m n less)),
  )

  got_bounds : (m n : ℕ) → (bounds (tree_of k)).fits (m, n) → IsValueOf k m × IsValueOf k n × (shifted (sign_of k) m ≤ shifted (sign_of k) n)
  unfolding bounds
  got_bounds m n f =
      let p = and_parts (holds (tree_of k) n) (in_order (tree_of k) m n) f.1.1 in
      let room = ordinal_room k o in
      let first : m < 65536 = f.0.0 in
      let last : n < 65536 = f.1.0 in
      (holds_value k h m (omega (arith, first, room)) f.0.1, holds_value k h n (omega (arith, last, room)) p.0, holds_order k o m n p.1)

-- ---- words and depth of types without parts that have them

few_words : (k : PlainType) → TypeCanBeSpelled k → words_of k ≤ TYPE_WORDS
unfolding TypeCanBeSpelled words_of
few_words p.Integer h = omega arith
few_words p.Cardinal h = omega arith
few_words p.LongInteger h = omega arith
few_words p.LongCardinal h = omega arith
few_words p.Boolean h = omega arith
few_words p.Character h = omega arith
few_words p.String h = omega arith
few_words (p.Enumeration o xs) h = omega arith
few_words (p.Subrange k m n) h = omega arith
few_words (p.Array i e) h = h.3
few_words (p.Record o ps) h = h.4

some_depth : (k : PlainType) → 1 ≤ depth_of k
unfolding depth_of
some_depth p.Integer = omega arith
some_depth p.Cardinal = omega arith
some_depth p.LongInteger = omega arith
some_depth p.LongCardinal = omega arith
some_depth p.Boolean = omega arith
some_depth p.Character = omega arith
some_depth p.String = omega arith
some_depth (p.Enumeration o xs) = omega arith
some_depth (p.Subrange k m n) = omega arith
some_depth (p.Array i e) = omega arith
some_depth (p.Record o ps) = omega arith

tag_few : (k : PlainType) → tag_for k < 256
tag_few p.Integer = omega arith
tag_few p.Cardinal = omega arith
tag_few p.LongInteger = omega arith
tag_few p.LongCardinal = omega arith
tag_few p.Boolean = omega arith
tag_few p.Character = omega arith
tag_few p.String = omega arith
tag_few (p.Enumeration o xs) = omega arith
tag_few (p.Subrange k m n) = omega arith
tag_few (p.Array i e) = omega arith
tag_few (p.Record o ps) = omega arith

-- version 2 has all tags
tag_known : (k : PlainType) → is_known 2 (tag_for k) ≡ true
tag_known p.Integer = refl
tag_known p.Cardinal = refl
tag_known p.LongInteger = refl
tag_known p.LongCardinal = refl
tag_known p.Boolean = refl
tag_known p.Character = refl
tag_known p.String = refl
tag_known (p.Enumeration o xs) = refl
tag_known (p.Subrange k m n) = refl
tag_known (p.Array i e) = refl
tag_known (p.Record o ps) = refl

some_part : (ps : Parts) → HasPart ps → 1 ≤ length (trees_of ps)
unfolding HasPart trees_of
some_part p.NoPart h = absurd h
some_part (p.AndPart x k ps) h = omega arith

has_part : (ps : Parts) → 1 ≤ length (trees_of ps) → HasPart ps
unfolding HasPart trees_of
has_part p.NoPart h = absurd (omega (arith, h))
has_part (p.AndPart x k ps) h = tt

-- ---- all layers

at_level : (k : PlainType) (levels : ℕ) (allowed : ℕ → Bool) → TypeCanBeSpelled k → depth_of k ≤ levels → allowed (tag_for k) ≡ true
    → ((m : ℕ) → depth_of k ≤ suc m → (tagged (type_form 2 m) (tag_for k)).fits (tree_of k)) → (type_form 2 levels allowed).fits (tree_of k)
unfolding type_form
at_level k zero allowed h d ok layer = absurd (omega (arith, d, some_depth k))
at_level k (suc m) allowed h d ok layer =
    put_typed 2 (type_form 2 m) allowed (tree_of k) (tag_for k) (tag_same k) (tag_few k) (tag_known k) ok (layer m d) (small_type k (few_words k h))

mutual
  unfolding TypeCanBeSpelled tree_of depth_of Each

  pub type_fits : (k : PlainType) (levels : ℕ) (allowed : ℕ → Bool) → TypeCanBeSpelled k → depth_of k ≤ levels → allowed (tag_for k) ≡ true → (type_form 2 levels allowed).fits (tree_of k)
  type_fits p.Integer levels allowed h d ok = at_level p.Integer levels allowed h d ok (λ m _. put_integer 2 (type_form 2 m))
  type_fits p.Cardinal levels allowed h d ok = at_level p.Cardinal levels allowed h d ok (λ m _. put_cardinal 2 (type_form 2 m))
  type_fits p.LongInteger levels allowed h d ok = at_level p.LongInteger levels allowed h d ok (λ m _. put_long_integer 2 (type_form 2 m))
  type_fits p.LongCardinal levels allowed h d ok = at_level p.LongCardinal levels allowed h d ok (λ m _. put_long_cardinal 2 (type_form 2 m))
  type_fits p.Boolean levels allowed h d ok = at_level p.Boolean levels allowed h d ok (λ m _. put_boolean 2 (type_form 2 m))
  type_fits p.Character levels allowed h d ok = at_level p.Character levels allowed h d ok (λ m _. put_character 2 (type_form 2 m))
  type_fits p.String levels allowed h d ok = at_level p.String levels allowed h d ok (λ m _. put_string 2 (type_form 2 m))
  type_fits (p.Enumeration o xs) levels allowed h d ok = at_level (p.Enumeration o xs) levels allowed h d ok (λ m _.
      put_enumeration 2 (type_form 2 m) o xs (origin_fits o h.0) (elements_fit xs h.1 h.2 h.3 h.4))
  type_fits (p.Subrange k first last) levels allowed h d ok = at_level (p.Subrange k first last) levels allowed h d ok (λ m deep.
      put_subrange 2 (type_form 2 m) (tree_of k) first last (type_fits k m is_base h.0 (omega (arith, deep)) (base_tag k h.1 h.2)) (put_bounds k h.0 h.2 first last h.3 h.4 h.5))
  type_fits (p.Array i e) levels allowed h d ok = at_level (p.Array i e) levels allowed h d ok (λ m deep.
      put_array 2 (type_form 2 m) (tree_of i) (tree_of e) (type_fits i m is_index h.1 (omega (arith, deep)) (index_tag i h.0)) (type_fits e m any h.2 (omega (arith, deep)) refl))
  type_fits (p.Record o ps) levels allowed h d ok = at_level (p.Record o ps) levels allowed h d ok (λ m deep.
      put_record 2 (type_form 2 m) o (trees_of ps) (origin_fits o h.0)
      (fields_form_fits (type_form 2 m any) 1 (trees_of ps) (parts_fit ps m h.2 (omega (arith, deep))) (subst NamesCanBeSpelled (sym (fields_again ps)) h.3) (some_part ps h.1)))

  parts_fit : (ps : Parts) (levels : ℕ) → PartsCanBeSpelled ps → depth_of_parts ps ≤ levels → Each (KindFits (type_form 2 levels any)) (trees_of ps)
  parts_fit p.NoPart levels h d = tt
  parts_fit (p.AndPart x k ps) levels h d = (
    subst (type_form 2 levels any).fits (sym (ap (λ f. f.kind) (out-roll-FieldType (record { name = x; kind = tree_of k })))) (type_fits k levels any h.0 (omega (arith, d)) refl),
    parts_fit ps levels h.1 (omega (arith, d)),
  )

-- ---- and back

record Can (k : PlainType) (levels : ℕ) (allowed : ℕ → Bool) : Type 0 where
  spelled : TypeCanBeSpelled k
  deep : depth_of k ≤ levels
  ok : allowed (tag_for k) ≡ true

record CanLayer (k : PlainType) (levels : ℕ) : Type 0 where
  spelled : TypeCanBeSpelled k
  deep : depth_of k ≤ suc levels

can_at : (k : PlainType) (levels : ℕ) (allowed : ℕ → Bool) → levels ≤ TYPE_DEPTH → (type_form 2 levels allowed).fits (tree_of k)
    → ((m : ℕ) → suc m ≤ TYPE_DEPTH → (tagged (type_form 2 m) (tag_for k)).fits (tree_of k) → words_of k ≤ TYPE_WORDS → CanLayer k m) → Can k levels allowed
unfolding type_form too_deep
can_at k zero allowed few h layer = let e : false ≡ true = h.0.1 in absurd cc
can_at k (suc m) allowed few h layer =
    let t = got_typed 2 (type_form 2 m) allowed (tree_of k) (tag_for k) (tag_same k) h in
    let c = layer m few t.fits (type_small k t.small) in
    record { spelled = c.spelled; deep = c.deep; ok = t.ok }

mutual
  unfolding TypeCanBeSpelled tree_of depth_of Each

  type_can : (k : PlainType) (levels : ℕ) (allowed : ℕ → Bool) → levels ≤ TYPE_DEPTH → (type_form 2 levels allowed).fits (tree_of k) → Can k levels allowed
  type_can p.Integer levels allowed few h = can_at p.Integer levels allowed few h (λ m _ _ _. record { spelled = tt; deep = omega arith })
  type_can p.Cardinal levels allowed few h = can_at p.Cardinal levels allowed few h (λ m _ _ _. record { spelled = tt; deep = omega arith })
  type_can p.LongInteger levels allowed few h = can_at p.LongInteger levels allowed few h (λ m _ _ _. record { spelled = tt; deep = omega arith })
  type_can p.LongCardinal levels allowed few h = can_at p.LongCardinal levels allowed few h (λ m _ _ _. record { spelled = tt; deep = omega arith })
  type_can p.Boolean levels allowed few h = can_at p.Boolean levels allowed few h (λ m _ _ _. record { spelled = tt; deep = omega arith })
  type_can p.Character levels allowed few h = can_at p.Character levels allowed few h (λ m _ _ _. record { spelled = tt; deep = omega arith })
  type_can p.String levels allowed few h = can_at p.String levels allowed few h (λ m _ _ _. record { spelled = tt; deep = omega arith })
  type_can (p.Enumeration o xs) levels allowed few h = can_at (p.Enumeration o xs) levels allowed few h (λ m _ f _.
      let g = got_enumeration 2 (type_form 2 m) o xs f in
      let e = elements_can xs g.1 in
      record { spelled = (origin_can o g.0, e.some, e.few, e.names, e.once); deep = omega arith })
  type_can (p.Subrange k first last) levels allowed few h = can_at (p.Subrange k first last) levels allowed few h (λ m less f _.
      let g = got_subrange 2 (type_form 2 m) (tree_of k) first last f in
      let b = type_can k m is_base (omega (arith, less)) g.0 in
      let ordinal = tag_base_ordinal k b.ok in
      let v = got_bounds k b.spelled ordinal first last g.1 in
      let deep : depth_of k ≤ m = b.deep in
      record { spelled = (b.spelled, tag_base k b.ok, ordinal, v.0, v.1, v.2); deep = omega (arith, deep) })
  type_can (p.Array i e) levels allowed few h = can_at (p.Array i e) levels allowed few h (λ m less f words.
      let g = got_array 2 (type_form 2 m) (tree_of i) (tree_of e) f in
      let a = type_can i m is_index (omega (arith, less)) g.0 in
      let b = type_can e m any (omega (arith, less)) g.1 in
      let deep_i : depth_of i ≤ m = a.deep in
      let deep_e : depth_of e ≤ m = b.deep in
      record { spelled = (tag_index i a.spelled a.ok, a.spelled, b.spelled, words, omega (arith, deep_i, deep_e, less)); deep = omega (arith, deep_i, deep_e) })
  type_can (p.Record o ps) levels allowed few h = can_at (p.Record o ps) levels allowed few h (λ m less f words.
      let g = got_record 2 (type_form 2 m) o (trees_of ps) f in
      let fs = fields_form_can (type_form 2 m any) 1 (trees_of ps) g.1 in
      let c = parts_can ps m (omega (arith, less)) fs.0 in
      let deep : depth_of_parts ps ≤ m = c.1 in
      record {
        spelled = (origin_can o g.0, has_part ps fs.2, c.0, subst NamesCanBeSpelled (fields_again ps) fs.1, words, omega (arith, deep, less));
        deep = omega (arith, deep);
      })

  parts_can : (ps : Parts) (levels : ℕ) → levels ≤ TYPE_DEPTH → Each (KindFits (type_form 2 levels any)) (trees_of ps) → PartsCanBeSpelled ps × (depth_of_parts ps ≤ levels)
  parts_can p.NoPart levels few h = (tt, omega arith)
  parts_can (p.AndPart x k ps) levels few h =
      let here = type_can k levels any few (subst (type_form 2 levels any).fits (ap (λ f. f.kind) (out-roll-FieldType (record { name = x; kind = tree_of k }))) h.0) in
      let more = parts_can ps levels few h.1 in
      let deep : depth_of k ≤ levels = here.deep in
      let deep_more : depth_of_parts ps ≤ levels = more.1 in
      ((here.spelled, more.0), omega (arith, deep, deep_more))

-- ---- of whole types

flat : (k : PlainType) → is_base (tag_for k) ≡ true → depth_of k ≡ 1
unfolding depth_of
flat p.Integer e = refl
flat p.Cardinal e = refl
flat p.LongInteger e = absurd cc
flat p.LongCardinal e = absurd cc
flat p.Boolean e = refl
flat p.Character e = refl
flat p.String e = absurd cc
flat (p.Enumeration o xs) e = refl
flat (p.Subrange k m n) e = absurd cc
flat (p.Array i j) e = absurd cc
flat (p.Record o ps) e = absurd cc

few_deep : (k : PlainType) → TypeCanBeSpelled k → depth_of k ≤ TYPE_DEPTH
unfolding TypeCanBeSpelled depth_of
few_deep p.Integer h = omega arith
few_deep p.Cardinal h = omega arith
few_deep p.LongInteger h = omega arith
few_deep p.LongCardinal h = omega arith
few_deep p.Boolean h = omega arith
few_deep p.Character h = omega arith
few_deep p.String h = omega arith
few_deep (p.Enumeration o xs) h = omega arith
few_deep (p.Subrange k m n) h = omega (arith, flat k (base_tag k h.1 h.2))
few_deep (p.Array i e) h = h.4
few_deep (p.Record o ps) h = h.5

pub plain_type_fits : (allowed : ℕ → Bool) (t : TypeTree) → TypeCanBeSpelled (plain t) → allowed (tag_for (plain t)) ≡ true → (types 2 allowed).fits t
plain_type_fits allowed t h ok = subst (types 2 allowed).fits (type_back t) (type_fits (plain t) TYPE_DEPTH allowed h (few_deep (plain t) h) ok)

pub plain_type_can : (allowed : ℕ → Bool) (t : TypeTree) → (types 2 allowed).fits t → TypeCanBeSpelled (plain t) × (allowed (tag_for (plain t)) ≡ true)
plain_type_can allowed t h =
    let c = type_can (plain t) TYPE_DEPTH allowed (omega arith) (subst (types 2 allowed).fits (sym (type_back t)) h) in
    (c.spelled, c.ok)
