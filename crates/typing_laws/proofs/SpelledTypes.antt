-- Types that can be spelled, as a law on types: a bound and a constant are values of their type.
use Rattle.std.specs.Prelude.{ℕ, ◌≡◌, ◌≢◌, ◌≤◌, ◌<◌, ◌⊎◌, ◌+◌, ◌-◌, ◌%◌, Bool, true, false, ◌&&◌, min, nat_le, Option, Some, None, List, [], ◌∷◌, length, if◌then◌else◌}
use Rattle.std.specs.List.{All}
use Rattle.std.proofs.Common.{refl, sym, subst, ap, arith, inl, inr, ◌∙◌}
use Rattle.std.proofs.Math.Nat.{mul-pos}
use Rattle.std.proofs.lemmas.Bool.{leb-true}
use Rattle.std.proofs.lemmas.List.Elements.{All-map, All-nil, All-cons}
use Rattle.mesa_base.specs.Name.{IsName}
use Rattle.mesa_base.specs.declared.limits.TheConstants.{TYPE_WORDS, TYPE_DEPTH, ENUMERATION_ELEMENTS}
use Rattle.mesa_base.specs.declared.identifier.Identifier.{Identifier}
use Rattle.mesa_types.specs.declared.types.Origin.{Origin}
use Rattle.mesa_types.specs.Operators.{fits, shifted, tried, truth, wrap}
use Rattle.check_rules.specs.Typed.{Base, Signed, Unsigned, From}
use Rattle.interface_records.specs.PlainTypes as v
use Rattle.interface_records.specs.PlainTypes.{PlainType, PlainField, base_of, bounds, conforms, depth_of, elements_of, fields_of_parts, is_long, is_number, is_ordinal, one_base, parts_of, same, sign_of, words_of, words_of_parts}
use Rattle.interface_records.specs.PlainTypes.{HasPart}
use Rattle.mesa_types.specs.Longs.{tried_long, widened}
use Rattle.mesa_types.proofs.LongLaws.{tried_long_small}
use Rattle.check_rules.specs.Operators.{number_type, long_type}
use Rattle.check_rules.specs.Parts.{names_of}
use Rattle.check_rules.specs.Ranges.{range_between, range_for}
use Rattle.interface_records.specs.Spelled.{OriginCanBeSpelled, IsValueOf, names_among, with_name, NamesCanBeSpelled, TypeCanBeSpelled, PartsCanBeSpelled}
use Rattle.check_rules.specs.TreeNames.{AllNames}
use Rattle.check_rules.specs.TypeRules.{is_index}
use Rattle.typing_laws.proofs.Distinct.{times, none_twice}
use Rattle.typing_laws.proofs.Keeping.{OfSome}
use Rattle.typing_laws.proofs.Outcomes.{length_of_map}
use Rattle.typing_laws.proofs.OrderKept.{some_name, has_part, as_tried, fine_below_long}
use Rattle.typing_laws.proofs.SoundConstants.{wrapped, tried_word, widened_small}
use Rattle.check_rules.proofs.SoundSame.{types_same}
use Rattle.check_rules.proofs.SoundTypes.{no_truth, no_lie, ordinal_not_long, none_is_no, both_left, both_right, one_of}
use Rattle.typing_laws.proofs.TypeLaws.{TypeLaw, FieldsHave, NamesFine, FieldsMade}

-- ---- values
pub value_word : (k : PlainType) (n : ℕ) → TypeCanBeSpelled k → is_long k ≡ false → IsValueOf k n → n < 65536
unfolding TypeCanBeSpelled IsValueOf
value_word v.Integer n h s w = w
value_word v.Cardinal n h s w = w
value_word v.LongInteger n h s w = no_lie s
value_word v.LongCardinal n h s w = no_lie s
value_word v.Boolean n h s w = omega (arith, w)
value_word v.Character n h s w = omega (arith, w)
value_word v.String n h s w = absurd w
value_word (v.Enumeration o xs) n h s w = let few : length xs ≤ 65536 = h.2 in omega (arith, w, few)
value_word (v.Subrange k x y) n h s w = value_word k n h.0 (ordinal_not_long k h.2) w.0
value_word (v.Array i e) n h s w = absurd w
value_word (v.Record o ps) n h s w = absurd w

pub long_value : (b : Base) (n : ℕ) → n < 4294967296 → IsValueOf (long_type b) n
unfolding IsValueOf
long_value Signed n h = h
long_value Unsigned n h = h

pub value_long : (b : Base) (n : ℕ) → IsValueOf (long_type b) n → n < 4294967296
unfolding IsValueOf
value_long Signed n h = h
value_long Unsigned n h = h

pub number_value : (b : Base) (n : ℕ) → n < 65536 → IsValueOf (number_type b) n
unfolding IsValueOf
number_value Signed n h = h
number_value Unsigned n h = h

pub letter_value : (n : ℕ) → n < 256 → IsValueOf v.Character n
unfolding IsValueOf
letter_value n h = h

pub truth_value : (b : Bool) → IsValueOf v.Boolean (truth b)
unfolding IsValueOf truth
truth_value true = omega arith
truth_value false = omega arith

pub element_value : (o : Origin) (xs : List (List ℕ)) (n : ℕ) → n < length xs → IsValueOf (v.Enumeration o xs) n
unfolding IsValueOf
element_value o xs n h = h

one_type : {A : Type 0} (a b : A) → Some a ≡ Some b → a ≡ b
one_type a b e = cc

-- a value of a type is one of its base
pub base_value : (k b : PlainType) (n : ℕ) → base_of k ≡ Some b → IsValueOf k n → IsValueOf b n
unfolding base_of IsValueOf
base_value v.Integer b n e h = subst (λ k. IsValueOf k n) (one_type v.Integer b e) h
base_value v.Cardinal b n e h = subst (λ k. IsValueOf k n) (one_type v.Cardinal b e) h
base_value v.LongInteger b n e h = subst (λ k. IsValueOf k n) (one_type v.LongInteger b e) h
base_value v.LongCardinal b n e h = subst (λ k. IsValueOf k n) (one_type v.LongCardinal b e) h
base_value v.Boolean b n e h = subst (λ k. IsValueOf k n) (one_type v.Boolean b e) h
base_value v.Character b n e h = subst (λ k. IsValueOf k n) (one_type v.Character b e) h
base_value v.String b n e h = absurd h
base_value (v.Enumeration o xs) b n e h = subst (λ k. IsValueOf k n) (one_type (v.Enumeration o xs) b e) h
base_value (v.Subrange k x y) b n e h = base_value k b n e h.0
base_value (v.Array i k) b n e h = absurd h
base_value (v.Record o ps) b n e h = absurd h

-- ---- a value that its check lets pass lies between the bounds
pub record LiesBetween (b : Base) (first last n : ℕ) : Type 0 where
  pub above : shifted b first ≤ shifted b n
  pub below : shifted b n ≤ shifted b last

in_range : (b : Base) (first last n : ℕ) → fits (From b first last) n ≡ true → LiesBetween b first last n
unfolding fits
in_range b first last n e = record {
  above = leb-true (shifted b first) (shifted b n) (both_left _ _ e);
  below = leb-true (shifted b n) (shifted b last) (both_right (nat_le (shifted b first) (shifted b n)) _ e);
}

nothing_passes : (b : Base) (n : ℕ) → LiesBetween b 1 0 n → ⊥
unfolding shifted
nothing_passes Signed n h = omega (arith, h.above, h.below)
nothing_passes Unsigned n h = omega (arith, h.above, h.below)

not_below : (x : ℕ) → nat_le 32768 x ≡ false → x < 32768
not_below x d = grind arith

pub between : (from to : Base) (first last n : ℕ) → first < 65536 → last < 65536 → n < 65536 → fits (range_between from to first last) n ≡ true
    → LiesBetween to first last n
unfolding shifted
between Signed Signed first last n f l w e = in_range Signed first last n e
between Unsigned Unsigned first last n f l w e = in_range Unsigned first last n e
between Unsigned Signed first last n f l w e = by (nat_le 32768 last) refl (nat_le 32768 first) refl e
  where
    signed : (low : ℕ) → last < 32768 → (first < 32768 → first ≤ low) → LiesBetween Unsigned low last n → LiesBetween Signed first last n
    signed low s m h = record { above = by (nat_le 32768 first) refl; below = omega (arith, s, h.below) }
      where
        by : (b : Bool) → nat_le 32768 first ≡ b → (first + 32768) % 65536 ≤ (n + 32768) % 65536
        by true d = let big : 32768 ≤ first = leb-true 32768 first d in omega (arith, big, f, s, h.below)
        by false d = omega (arith, s, h.below, h.above, m (not_below first d))

    by : (b : Bool) → nat_le 32768 last ≡ b → (c : Bool) → nat_le 32768 first ≡ c
        → fits (if b then From Unsigned 1 0 else From Unsigned (if c then 0 else first) last) n ≡ true → LiesBetween Signed first last n
    by true d c g e = absurd (nothing_passes Unsigned n (in_range Unsigned 1 0 n e))
    by false d true g e =
        let big : 32768 ≤ first = leb-true 32768 first g in signed 0 (not_below last d) (λ s. absurd (omega (arith, big, s))) (in_range Unsigned 0 last n e)
    by false d false g e = signed first (not_below last d) (λ s. omega arith) (in_range Unsigned first last n e)
between Signed Unsigned first last n f l w e = by (nat_le 32768 first) refl e
  where
    unsigned : first < 32768 → LiesBetween Signed first (min last 32767) n → LiesBetween Unsigned first last n
    unsigned s h = record { above = omega (arith, s, w, h.above, h.below); below = omega (arith, s, w, h.above, h.below) }

    by : (b : Bool) → nat_le 32768 first ≡ b → fits (if b then From Signed 1 0 else From Signed first (min last 32767)) n ≡ true
        → LiesBetween Unsigned first last n
    by true d e = absurd (nothing_passes Signed n (in_range Signed 1 0 n e))
    by false d e = unsigned (not_below first d) (in_range Signed first (min last 32767) n e)

-- a value of the base that passes is one of the type
passes : (from : Base) (k b : PlainType) (n : ℕ) → TypeCanBeSpelled k → base_of k ≡ Some b → IsValueOf b n → n < 65536
    → ((first last : ℕ) → bounds k ≡ Some (first, last) → fits (range_between from (sign_of k) first last) n ≡ true)
    → IsValueOf k n
unfolding base_of IsValueOf TypeCanBeSpelled sign_of
passes from v.Integer b n h e w x f = subst (λ k. IsValueOf k n) (sym (one_type v.Integer b e)) w
passes from v.Cardinal b n h e w x f = subst (λ k. IsValueOf k n) (sym (one_type v.Cardinal b e)) w
passes from v.LongInteger b n h e w x f = subst (λ k. IsValueOf k n) (sym (one_type v.LongInteger b e)) w
passes from v.LongCardinal b n h e w x f = subst (λ k. IsValueOf k n) (sym (one_type v.LongCardinal b e)) w
passes from v.Boolean b n h e w x f = subst (λ k. IsValueOf k n) (sym (one_type v.Boolean b e)) w
passes from v.Character b n h e w x f = subst (λ k. IsValueOf k n) (sym (one_type v.Character b e)) w
passes from v.String b n h e w x f = none_is_no b e
passes from (v.Enumeration o xs) b n h e w x f = subst (λ k. IsValueOf k n) (sym (one_type (v.Enumeration o xs) b e)) w
passes from (v.Subrange c first last) b n h e w x f =
    let r = between from (sign_of c) first last n (value_word c first h.0 (ordinal_not_long c h.2) h.3) (value_word c last h.0 (ordinal_not_long c h.2) h.4) x (f first last refl) in
    (subst (λ k. IsValueOf k n) (sym (one_type c b (sym h.1 ∙ e))) w, r.above, r.below)
passes from (v.Array i k) b n h e w x f = none_is_no b e
passes from (v.Record o ps) b n h e w x f = none_is_no b e

number_of : (b : PlainType) (n : ℕ) → is_number b ≡ true → n < 65536 → IsValueOf b n
unfolding IsValueOf
number_of v.Integer n e h = h
number_of v.Cardinal n e h = h
number_of v.LongInteger n e h = omega (arith, h)
number_of v.LongCardinal n e h = omega (arith, h)
number_of v.Boolean n e h = no_truth e
number_of v.Character n e h = no_truth e
number_of v.String n e h = no_truth e
number_of (v.Enumeration o xs) n e h = no_truth e
number_of (v.Subrange k x y) n e h = no_truth e
number_of (v.Array i k) n e h = no_truth e
number_of (v.Record o ps) n e h = no_truth e

ranged : (j k : PlainType) (n : ℕ) → fits (range_for j k) n ≡ true → (first last : ℕ) → bounds k ≡ Some (first, last)
    → fits (range_between (sign_of j) (sign_of k) first last) n ≡ true
unfolding range_for
ranged j (v.Subrange c x y) n e first last d =
    let same : (x, y) ≡ (first, last) = one_type (x, y) (first, last) d in
    subst (λ b. fits (range_between (sign_of j) (sign_of (v.Subrange c x y)) b.0 b.1) n ≡ true) same e
ranged j v.Integer n e first last d = none_is_no (first, last) d
ranged j v.Cardinal n e first last d = none_is_no (first, last) d
ranged j v.LongInteger n e first last d = none_is_no (first, last) d
ranged j v.LongCardinal n e first last d = none_is_no (first, last) d
ranged j v.Boolean n e first last d = none_is_no (first, last) d
ranged j v.Character n e first last d = none_is_no (first, last) d
ranged j v.String n e first last d = none_is_no (first, last) d
ranged j (v.Enumeration o xs) n e first last d = none_is_no (first, last) d
ranged j (v.Array i k) n e first last d = none_is_no (first, last) d
ranged j (v.Record o ps) n e first last d = none_is_no (first, last) d

pub fitted_value : (j k : PlainType) (n : ℕ) → TypeCanBeSpelled j → TypeCanBeSpelled k → conforms j k ≡ true → is_long j ≡ false → is_long k ≡ false
    → fits (range_for j k) n ≡ true → IsValueOf j n → IsValueOf k n
unfolding conforms
fitted_value j k n h i e s t f w = by (one_of (one_base (base_of j) (base_of k)) (same j k) e)
  where
    of_bases : (o p : Option PlainType) → base_of j ≡ o → base_of k ≡ p → one_base o p ≡ true → IsValueOf k n
    of_bases None p d g e = no_truth e
    of_bases (Some a) None d g e = no_truth e
    of_bases (Some a) (Some b) d g e = passes (sign_of j) k b n i g (one (one_of (is_number a && is_number b) (same a b) e)) (value_word j n h s w)
        (ranged j k n f)
      where
        one : (is_number a && is_number b ≡ true) ⊎ (same a b ≡ true) → IsValueOf b n
        one (inl m) = number_of b n (both_right (is_number a) (is_number b) m) (value_word j n h s w)
        one (inr m) = subst (λ c. IsValueOf c n) (types_same a b m) (base_value j a n d w)

    by : (one_base (base_of j) (base_of k) ≡ true) ⊎ (same j k ≡ true) → IsValueOf k n
    by (inl m) = of_bases (base_of j) (base_of k) refl refl m
    by (inr m) = subst (λ c. IsValueOf c n) (types_same j k m) w

-- ---- the bounds of a subrange, where an open end leaves a bound out
bit_small : (b : Bool) → truth b ≤ 1
unfolding truth
bit_small true = omega arith
bit_small false = omega arith

record Bounds (k : PlainType) (x y : ℕ) : Type 0 where
  first : IsValueOf k x
  last : IsValueOf k y
  order : shifted (sign_of k) x ≤ shifted (sign_of k) y

-- below the same limit, read without a sign
unsigned_bounds : (x y a b : ℕ) → x < 65536 → y < 65536 → a ≤ 1 → b ≤ 1 → (x + 32768) + a + b ≤ y + 32768
    → (wrap (x + a) ≤ wrap (y + 65536 - b)) × (wrap (y + 65536 - b) ≤ y)
unfolding wrap
unsigned_bounds x y a b h i j k l = (omega (arith, h, i, j, k, l), omega (arith, h, i, j, k, l))

signed_bounds : (x y a b : ℕ) → x < 65536 → y < 65536 → a ≤ 1 → b ≤ 1 → (x + 32768) % 65536 + a + b ≤ (y + 32768) % 65536
    → (wrap (x + a) + 32768) % 65536 ≤ (wrap (y + 65536 - b) + 32768) % 65536
unfolding wrap
signed_bounds x y a b h i j k l = omega (arith, h, i, j, k, l)

below_limit : (many : ℕ) (x y a b : ℕ) → many ≤ 65536 → x < many → y < many → a ≤ 1 → b ≤ 1 → (x + 32768) + a + b ≤ y + 32768
    → (wrap (x + a) < many) × (wrap (y + 65536 - b) < many) × (wrap (x + a) + 32768 ≤ wrap (y + 65536 - b) + 32768)
below_limit many x y a b m h i j k l =
    let r = unsigned_bounds x y a b (omega (arith, m, h)) (omega (arith, m, i)) j k l in
    (omega (arith, r.0, r.1, i), omega (arith, r.1, i), omega (arith, r.0))

bounds_of : (k : PlainType) (l h : Bool) (x y : ℕ) → TypeCanBeSpelled k → base_of k ≡ Some k → is_ordinal k ≡ true → IsValueOf k x → IsValueOf k y
    → shifted (sign_of k) x + truth l + truth h ≤ shifted (sign_of k) y
    → Bounds k (wrap (x + truth l)) (wrap (y + 65536 - truth h))
unfolding TypeCanBeSpelled IsValueOf base_of is_ordinal sign_of shifted depth_of
bounds_of v.Integer l h x y k e o f g d = record {
  first = wrapped (x + truth l);
  last = wrapped (y + 65536 - truth h);
  order = signed_bounds x y (truth l) (truth h) f g (bit_small l) (bit_small h) d;
}
bounds_of v.Cardinal l h x y k e o f g d =
    let r = below_limit 65536 x y (truth l) (truth h) (omega arith) f g (bit_small l) (bit_small h) d in record { first = r.0; last = r.1; order = r.2 }
bounds_of v.LongInteger l h x y k e o f g d = no_truth o
bounds_of v.LongCardinal l h x y k e o f g d = no_truth o
bounds_of v.Boolean l h x y k e o f g d =
    let r = below_limit 2 x y (truth l) (truth h) (omega arith) f g (bit_small l) (bit_small h) d in record { first = r.0; last = r.1; order = r.2 }
bounds_of v.Character l h x y k e o f g d =
    let r = below_limit 256 x y (truth l) (truth h) (omega arith) f g (bit_small l) (bit_small h) d in record { first = r.0; last = r.1; order = r.2 }
bounds_of v.String l h x y k e o f g d = absurd f
bounds_of (v.Enumeration m xs) l h x y k e o f g d =
    let r = below_limit (length xs) x y (truth l) (truth h) k.2 f g (bit_small l) (bit_small h) d in record { first = r.0; last = r.1; order = r.2 }
bounds_of (v.Subrange c m n) l h x y k e o f g d =
    let flat : c ≡ v.Subrange c m n = one_type c (v.Subrange c m n) (sym k.1 ∙ e) in absurd (deeper c m n flat)
  where
    deeper : (c : PlainType) (m n : ℕ) → c ≡ v.Subrange c m n → ⊥
    deeper c m n e = let d : depth_of c ≡ depth_of c + 1 = ap depth_of e in omega (arith, d)
bounds_of (v.Array i c) l h x y k e o f g d = absurd f
bounds_of (v.Record m ps) l h x y k e o f g d = absurd f

pub subrange_spelled : (k : PlainType) (l h : Bool) (x y : ℕ) → TypeCanBeSpelled k → base_of k ≡ Some k → is_ordinal k ≡ true → IsValueOf k x → IsValueOf k y
    → nat_le (shifted (sign_of k) x + truth l + truth h) (shifted (sign_of k) y) ≡ true
    → TypeCanBeSpelled (v.Subrange k (wrap (x + truth l)) (wrap (y + 65536 - truth h)))
unfolding TypeCanBeSpelled
subrange_spelled k l h x y i e o f g d =
    let r = bounds_of k l h x y i e o f g (leb-true _ _ d) in (i, e, o, r.first, r.last, r.order)

-- ---- enumerations, arrays and records
pub plain_spelled : TypeCanBeSpelled v.Integer × TypeCanBeSpelled v.Cardinal × TypeCanBeSpelled v.Boolean × TypeCanBeSpelled v.Character × TypeCanBeSpelled v.String
    × TypeCanBeSpelled v.LongInteger × TypeCanBeSpelled v.LongCardinal
unfolding TypeCanBeSpelled
plain_spelled = (tt, tt, tt, tt, tt, tt, tt)

pub names_spelled : (xs : List Identifier) → AllNames xs → All IsName (names_of xs)
names_spelled xs h = All-map IsName (λ (x : Identifier). x.name) xs h

pub enumeration_spelled : (o : Origin) (xs : List Identifier) → OriginCanBeSpelled o → xs ≢ [] → AllNames xs → ((n : List ℕ) → times n (names_of xs) ≤ 1)
    → length xs ≤ ENUMERATION_ELEMENTS → TypeCanBeSpelled (v.Enumeration o (names_of xs))
unfolding TypeCanBeSpelled
enumeration_spelled o xs g s h once few =
    (g, some_name xs s, omega (arith, few, length_of_map (λ (x : Identifier). x.name) xs), names_spelled xs h, none_twice (names_of xs) once)

pub array_spelled : (i e : PlainType) → TypeCanBeSpelled i → TypeCanBeSpelled e → is_index i ≡ true → words_of (v.Array i e) ≤ TYPE_WORDS
    → depth_of (v.Array i e) ≤ TYPE_DEPTH → TypeCanBeSpelled (v.Array i e)
unfolding TypeCanBeSpelled
array_spelled i e h k x w d = (x, h, k, w, d)

-- each type has a word
pub index_some : (k : PlainType) → TypeCanBeSpelled k → is_index k ≡ true → 0 < elements_of k
unfolding is_index is_ordinal base_of TypeCanBeSpelled
index_some v.Integer h e = omega arith
index_some v.Cardinal h e = omega arith
index_some v.LongInteger h e = no_truth e
index_some v.LongCardinal h e = no_truth e
index_some v.Boolean h e = omega arith
index_some v.Character h e = omega arith
index_some v.String h e = no_truth e
index_some (v.Enumeration o xs) h e = h.1
index_some (v.Subrange k m n) h e = omega arith
index_some (v.Array i k) h e = no_truth e
index_some (v.Record o ps) h e = no_truth e

mutual
  unfolding words_of TypeCanBeSpelled HasPart

  has_word : (k : PlainType) → TypeCanBeSpelled k → 0 < words_of k
  has_word v.Integer h = omega arith
  has_word v.Cardinal h = omega arith
  has_word v.LongInteger h = omega arith
  has_word v.LongCardinal h = omega arith
  has_word v.Boolean h = omega arith
  has_word v.Character h = omega arith
  has_word v.String h = omega arith
  has_word (v.Enumeration o xs) h = omega arith
  has_word (v.Subrange k m n) h = omega arith
  has_word (v.Array i e) h = mul-pos (index_some i h.1 h.0) (has_word e h.2)
  has_word (v.Record o ps) h = parts_words ps h.1 h.2

  parts_words : (ps : v.Parts) → HasPart ps → PartsCanBeSpelled ps → 0 < words_of_parts ps
  parts_words v.NoPart s h = absurd s
  parts_words (v.AndPart x k ps) s h = omega (arith, has_word k h.0)

few_parts : (fs : List PlainField) → FieldsHave TypeCanBeSpelled fs → length fs ≤ words_of_parts (parts_of fs)
unfolding FieldsHave parts_of words_of
few_parts [] h = omega arith
few_parts (f ∷ fs) h = omega (arith, has_word f.kind h.0, few_parts fs h.1)

parts_spelled : (fs : List PlainField) → FieldsHave TypeCanBeSpelled fs → PartsCanBeSpelled (parts_of fs)
unfolding FieldsHave TypeCanBeSpelled parts_of
parts_spelled [] h = tt
parts_spelled (f ∷ fs) h = (h.0, parts_spelled fs h.1)

fields_again : (fs : List PlainField) → fields_of_parts (parts_of fs) ≡ fs
unfolding fields_of_parts parts_of
fields_again [] = refl
fields_again (f ∷ fs) = ap (λ gs. f ∷ gs) (fields_again fs)

pub names_among_spelled : (fs : List PlainField) → NamesFine fs → All IsName (names_among fs)
unfolding NamesFine
names_among_spelled [] h = All-nil IsName
names_among_spelled (f ∷ fs) h = by f.name h.0 (names_among_spelled fs h.1)
  where
    by : (o : Option (List ℕ)) → OfSome IsName o → All IsName (names_among fs) → All IsName (with_name o (names_among fs))
    by None n r = r
    by (Some x) n r = All-cons IsName x (names_among fs) n r

pub record_spelled : (o : Origin) (fs : List PlainField) → OriginCanBeSpelled o → FieldsHave TypeCanBeSpelled fs → FieldsMade (Unit {0}) (Unit {0}) fs
    → words_of (v.Record o (parts_of fs)) ≤ TYPE_WORDS → depth_of (v.Record o (parts_of fs)) ≤ TYPE_DEPTH
    → TypeCanBeSpelled (v.Record o (parts_of fs))
unfolding TypeCanBeSpelled words_of
record_spelled o fs g h m w d = let few : words_of_parts (parts_of fs) ≤ 16384 = w in (
  g,
  has_part fs (m.some tt),
  parts_spelled fs h,
  subst NamesCanBeSpelled (sym (fields_again fs)) (record {
    count = omega (arith, few_parts fs h, few);
    all = m.all;
    names = names_among_spelled fs (m.names tt);
    distinct = none_twice (names_among fs) m.once;
  }),
  w,
  d,
)

pub base_spelled : (k : PlainType) (x y : ℕ) → TypeCanBeSpelled (v.Subrange k x y) → TypeCanBeSpelled k
unfolding TypeCanBeSpelled
base_spelled k x y h = h.0

pub base_ordinal : (k : PlainType) (x y : ℕ) → TypeCanBeSpelled (v.Subrange k x y) → is_ordinal k ≡ true
unfolding TypeCanBeSpelled
base_ordinal k x y h = h.2

pub index_spelled : (i e : PlainType) → TypeCanBeSpelled (v.Array i e) → TypeCanBeSpelled i
unfolding TypeCanBeSpelled
index_spelled i e h = h.1

pub element_spelled : (i e : PlainType) → TypeCanBeSpelled (v.Array i e) → TypeCanBeSpelled e
unfolding TypeCanBeSpelled
element_spelled i e h = h.2

fields_spelled : (ps : v.Parts) → PartsCanBeSpelled ps → FieldsHave TypeCanBeSpelled (fields_of_parts ps)
unfolding TypeCanBeSpelled FieldsHave fields_of_parts
fields_spelled v.NoPart h = tt
fields_spelled (v.AndPart x k ps) h = (h.0, fields_spelled ps h.1)

pub record_parts : (o : Origin) (ps : v.Parts) → TypeCanBeSpelled (v.Record o ps) → FieldsHave TypeCanBeSpelled (fields_of_parts ps)
unfolding TypeCanBeSpelled
record_parts o ps h = fields_spelled ps h.2

abbrev pub spelled : TypeLaw
spelled = record {
  Kept = TypeCanBeSpelled;
  Word = λ n. n < 65536;
  Long = λ n. n < 4294967296;
  Worth = IsValueOf;
  Made = OriginCanBeSpelled;
  Written = Unit {0};
  Named = Unit {0};
  integer = plain_spelled.0;
  cardinal = plain_spelled.1;
  long_integer = plain_spelled.5;
  long_cardinal = plain_spelled.6;
  boolean = plain_spelled.2;
  character = plain_spelled.3;
  string = plain_spelled.4;
  enumeration = λ o xs g w n once few. enumeration_spelled o xs g (w tt) (n tt) once few;
  subrange = subrange_spelled;
  array = array_spelled;
  fields = record_spelled;
  base = base_spelled;
  ordinal_base = base_ordinal;
  index = index_spelled;
  element = element_spelled;
  parts = record_parts;
  small = λ n l. l;
  operated = λ o x y h. as_tried (tried o x y) (tried_word o x y h);
  word = value_word;
  number = number_value;
  letter = letter_value;
  truths = truth_value;
  enumerated = λ o xs n h l. element_value o xs n l;
  based = base_value;
  fitted = fitted_value;
  long_small = λ n l. l;
  long_operated = λ o x y h. fine_below_long (tried_long o x y) (tried_long_small o x y h);
  widened = λ from to n w. fine_below_long (widened from to n) (widened_small from to n w);
  long = long_value;
  long_word = value_long;
}
