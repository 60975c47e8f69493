-- What the code finds of a type is what is said of the plain one: its tag, its words, its values and their order.
use Rattle.std.proofs.Common.{◌≡◌, ℕ, ◌+◌, ◌^◌, ◌<◌, ◌≤◌, true, false, length, refl, sym, ap, subst, ◌∙◌, arith}
use Rattle.std.specs.Prelude.{nat_le, nat_lt, not, map, Option, Some, None, is_some}
use Rattle.std.specs.List.{fold}
use Rattle.std.proofs.lemmas.Bool.{leb-true, le-leb, ltb-true, lt-ltb, and_parts, and_from}
use Rattle.std.proofs.lemmas.Bool.Decides.{nat_tests}
use Rattle.mesa_base.specs.declared.limits.TheConstants.{TYPE_WORDS}
use Rattle.mesa_types.specs.Operators.{shifted}
use Rattle.mesa_types.specs.declared.typed_parts.Base.TheVariants.{Unsigned}
use Rattle.mesa_types.specs.Types as types
use Rattle.mesa_types.specs.Types.{Measure, measure_of, measure_step, field_step}
use Rattle.mesa_types.specs.declared.types.TypeTree.{TypeTree, roll-TypeTree}
use Rattle.mesa_types.specs.declared.types.TypeTree.TheVariants as tree
use Rattle.mesa_types.specs.declared.types.TypeTree.TheOpen.{TypeTree-F}
use Rattle.mesa_types.specs.declared.types.TypeTree.TheFolds.{fold-FieldType, map-TypeTree}
use Rattle.mesa_types.specs.declared.types.FieldType.{FieldType, roll-FieldType}
use Rattle.interface_records.specs.PlainTypes as p
use Rattle.interface_records.specs.PlainTypes.{PlainType, Parts, base_of, is_long, is_ordinal, is_ordinal_base, sign_of, elements_of, words_of, words_of_parts, tree_of, trees_of}
use Rattle.interface_records.specs.Sorts as s
use Rattle.interface_records.specs.Sorts.{is_index_by, sort_of, sort_of_base}
use Rattle.interface_records.specs.Spelled.{IsValueOf, TypeCanBeSpelled}
use Rattle.face_rules.specs.Layers.{Values, tag_of, values_step, values_of, value_bytes, signed_le, signed_long_le, below, within, holds, in_order}
use Rattle.face_rules.specs.TypeForms.{is_base, is_index, is_of_constants, is_small}
use Rattle.face_rules.proofs.LayerLaws.{tag_at}
use Rattle.face_rules.proofs.ValueBytes.{integer_width, cardinal_width, long_integer_width, long_cardinal_width, boolean_width, character_width, string_width, enumeration_width, subrange_width, array_width, record_width}
use Rattle.spelled_laws.proofs.Twins.{folded, field_folded}

-- ---- tags

abbrev pub tag_for : PlainType → ℕ
tag_for p.Integer = 1
tag_for p.Cardinal = 2
tag_for p.Boolean = 3
tag_for p.Character = 4
tag_for p.String = 5
tag_for (p.Enumeration o xs) = 6
tag_for (p.Subrange k first last) = 7
tag_for (p.Array i e) = 8
tag_for (p.Record o ps) = 9
tag_for p.LongInteger = 10
tag_for p.LongCardinal = 11

pub tag_same : (k : PlainType) → tag_of (tree_of k) ≡ tag_for k
unfolding tree_of
tag_same p.Integer = tag_at TypeTree-F.Integer tree.Integer tree.rolls-Integer
tag_same p.Cardinal = tag_at TypeTree-F.Cardinal tree.Cardinal tree.rolls-Cardinal
tag_same p.Boolean = tag_at TypeTree-F.Boolean tree.Boolean tree.rolls-Boolean
tag_same p.Character = tag_at TypeTree-F.Character tree.Character tree.rolls-Character
tag_same p.String = tag_at TypeTree-F.String tree.String tree.rolls-String
tag_same (p.Enumeration o xs) = tag_at (TypeTree-F.Enumeration o xs) (tree.Enumeration o xs) (tree.rolls-Enumeration o xs)
tag_same (p.Subrange k m n) = tag_at (TypeTree-F.Subrange (tree_of k) m n) (tree.Subrange (tree_of k) m n) (tree.rolls-Subrange (tree_of k) m n)
tag_same (p.Array i e) = tag_at (TypeTree-F.Array (tree_of i) (tree_of e)) (tree.Array (tree_of i) (tree_of e)) (tree.rolls-Array (tree_of i) (tree_of e))
tag_same (p.Record o ps) = tag_at (TypeTree-F.Record o (trees_of ps)) (tree.Record o (trees_of ps)) (tree.rolls-Record o (trees_of ps))
tag_same p.LongInteger = tag_at TypeTree-F.LongInteger tree.LongInteger tree.rolls-LongInteger
tag_same p.LongCardinal = tag_at TypeTree-F.LongCardinal tree.LongCardinal tree.rolls-LongCardinal

no_type : {P : Type 0} (b : PlainType) → (let o : Option PlainType = None in o) ≡ Some b → P
no_type b e = absurd cc

one_type : (a b : PlainType) → Some a ≡ Some b → a ≡ b
one_type a b e = cc

no_truth : {P : Type 0} → false ≡ true → P
no_truth e = absurd cc

-- what is a base stands for itself
is_base_at : (k b : PlainType) → k ≡ b → is_base (tag_for k) ≡ true → is_base (tag_for b) ≡ true
is_base_at k b e h = subst (λ j. is_base (tag_for j) ≡ true) e h

-- a LONG type is no base
no_long_base : {P : Type 0} (k b : PlainType) → k ≡ b → not (is_long b) ≡ true → is_long k ≡ true → P
no_long_base k b e o h = no_truth (sym (ap not (ap is_long (sym e) ∙ h)) ∙ o)

base_has_tag : (k b : PlainType) → base_of k ≡ Some b → not (is_long b) ≡ true → is_base (tag_for b) ≡ true
unfolding base_of
base_has_tag p.Integer b e o = is_base_at p.Integer b (one_type p.Integer b e) refl
base_has_tag p.Cardinal b e o = is_base_at p.Cardinal b (one_type p.Cardinal b e) refl
base_has_tag p.LongInteger b e o = no_long_base p.LongInteger b (one_type p.LongInteger b e) o refl
base_has_tag p.LongCardinal b e o = no_long_base p.LongCardinal b (one_type p.LongCardinal b e) o refl
base_has_tag p.Boolean b e o = is_base_at p.Boolean b (one_type p.Boolean b e) refl
base_has_tag p.Character b e o = is_base_at p.Character b (one_type p.Character b e) refl
base_has_tag p.String b e o = no_type b e
base_has_tag (p.Enumeration x xs) b e o = is_base_at (p.Enumeration x xs) b (one_type (p.Enumeration x xs) b e) refl
base_has_tag (p.Subrange k m n) b e o = base_has_tag k b e o
base_has_tag (p.Array i j) b e o = no_type b e
base_has_tag (p.Record x ps) b e o = no_type b e

pub base_tag : (k : PlainType) → base_of k ≡ Some k → is_ordinal k ≡ true → is_base (tag_for k) ≡ true
unfolding is_ordinal
base_tag k e o = base_has_tag k k e (sym (ap is_ordinal_base e) ∙ o)

pub tag_base : (k : PlainType) → is_base (tag_for k) ≡ true → base_of k ≡ Some k
unfolding base_of
tag_base p.Integer e = refl
tag_base p.Cardinal e = refl
tag_base p.LongInteger e = no_truth e
tag_base p.LongCardinal e = no_truth e
tag_base p.Boolean e = refl
tag_base p.Character e = refl
tag_base p.String e = no_truth e
tag_base (p.Enumeration o xs) e = refl
tag_base (p.Subrange k m n) e = no_truth e
tag_base (p.Array i j) e = no_truth e
tag_base (p.Record o ps) e = no_truth e

pub tag_base_ordinal : (k : PlainType) → is_base (tag_for k) ≡ true → is_ordinal k ≡ true
unfolding base_of is_ordinal
tag_base_ordinal p.Integer e = refl
tag_base_ordinal p.Cardinal e = refl
tag_base_ordinal p.LongInteger e = no_truth e
tag_base_ordinal p.LongCardinal e = no_truth e
tag_base_ordinal p.Boolean e = refl
tag_base_ordinal p.Character e = refl
tag_base_ordinal p.String e = no_truth e
tag_base_ordinal (p.Enumeration o xs) e = refl
tag_base_ordinal (p.Subrange k m n) e = no_truth e
tag_base_ordinal (p.Array i j) e = no_truth e
tag_base_ordinal (p.Record o ps) e = no_truth e

-- types of indexes
pub index_tag : (k : PlainType) → s.is_index k ≡ true → is_index (tag_for k) ≡ true
unfolding s.is_index base_of sort_of is_ordinal
index_tag p.Integer e = no_truth e
index_tag p.Cardinal e = no_truth e
index_tag p.LongInteger e = no_truth e
index_tag p.LongCardinal e = no_truth e
index_tag p.Boolean e = refl
index_tag p.Character e = refl
index_tag p.String e = no_truth e
index_tag (p.Enumeration o xs) e = refl
index_tag (p.Subrange k m n) e = refl
index_tag (p.Array i j) e = no_truth e
index_tag (p.Record o ps) e = no_truth e

of_a_subrange : (b : Option PlainType) → is_ordinal_base b ≡ true → is_index_by (sort_of_base b) true ≡ true
of_a_subrange None h = no_truth h
of_a_subrange (Some p.Integer) h = refl
of_a_subrange (Some p.Cardinal) h = refl
of_a_subrange (Some p.LongInteger) h = no_truth h
of_a_subrange (Some p.LongCardinal) h = no_truth h
of_a_subrange (Some p.Boolean) h = refl
of_a_subrange (Some p.Character) h = refl
of_a_subrange (Some p.String) h = refl
of_a_subrange (Some (p.Enumeration o xs)) h = refl
of_a_subrange (Some (p.Subrange k m n)) h = refl
of_a_subrange (Some (p.Array i e)) h = refl
of_a_subrange (Some (p.Record o ps)) h = refl

pub tag_index : (k : PlainType) → TypeCanBeSpelled k → is_index (tag_for k) ≡ true → s.is_index k ≡ true
unfolding s.is_index base_of sort_of is_ordinal TypeCanBeSpelled
tag_index p.Integer h e = no_truth e
tag_index p.Cardinal h e = no_truth e
tag_index p.LongInteger h e = no_truth e
tag_index p.LongCardinal h e = no_truth e
tag_index p.Boolean h e = refl
tag_index p.Character h e = refl
tag_index p.String h e = no_truth e
tag_index (p.Enumeration o xs) h e = refl
tag_index (p.Subrange k m n) h e = and_from (is_ordinal_base (base_of k)) _ h.2 (of_a_subrange (base_of k) h.2)
tag_index (p.Array i j) h e = no_truth e
tag_index (p.Record o ps) h e = no_truth e

-- types of constants: those whose values are words in an order, and the LONG types
pub constant_tag : (k : PlainType) → is_some (base_of k) ≡ true → is_of_constants (tag_for k) ≡ true
unfolding base_of
constant_tag p.Integer e = refl
constant_tag p.Cardinal e = refl
constant_tag p.LongInteger e = refl
constant_tag p.LongCardinal e = refl
constant_tag p.Boolean e = refl
constant_tag p.Character e = refl
constant_tag p.String e = no_truth e
constant_tag (p.Enumeration o xs) e = refl
constant_tag (p.Subrange k m n) e = refl
constant_tag (p.Array i j) e = no_truth e
constant_tag (p.Record o ps) e = no_truth e

pub tag_constant : (k : PlainType) → TypeCanBeSpelled k → is_of_constants (tag_for k) ≡ true → is_some (base_of k) ≡ true
unfolding base_of TypeCanBeSpelled
tag_constant p.Integer h e = refl
tag_constant p.Cardinal h e = refl
tag_constant p.LongInteger h e = refl
tag_constant p.LongCardinal h e = refl
tag_constant p.Boolean h e = refl
tag_constant p.Character h e = refl
tag_constant p.String h e = no_truth e
tag_constant (p.Enumeration o xs) h e = refl
tag_constant (p.Subrange k m n) h e = ap is_some h.1
tag_constant (p.Array i j) h e = no_truth e
tag_constant (p.Record o ps) h e = no_truth e

-- ---- words

abbrev measure_for : PlainType → Measure
measure_for k = record { words = words_of k; elements = elements_of k }

abbrev field_words : FieldType → ℕ
field_words = fold-FieldType Measure ℕ measure_step field_step

measured : (y : TypeTree-F TypeTree FieldType) (t : TypeTree) → roll-TypeTree y ≡ t → measure_of t ≡ measure_step (map-TypeTree TypeTree FieldType Measure ℕ measure_of field_words y)
measured y t e = folded Measure ℕ measure_step field_step y t e

array_words : (a b c d : Measure) → a ≡ b → c ≡ d → measure_step (TypeTree-F.Array a c) ≡ measure_step (TypeTree-F.Array b d)
array_words a b c d e f = rw (e, f) refl

one_further : (n a b c : ℕ) → a ≡ b → (n + a) + c ≡ n + (b + c)
one_further n a b c e = omega (arith, e)

from_none : (n : ℕ) → 0 + n ≡ n
from_none n = omega arith

mutual
  unfolding tree_of words_of

  measures : (k : PlainType) → measure_of (tree_of k) ≡ measure_for k
  measures p.Integer = measured TypeTree-F.Integer tree.Integer tree.rolls-Integer
  measures p.Cardinal = measured TypeTree-F.Cardinal tree.Cardinal tree.rolls-Cardinal
  measures p.LongInteger = measured TypeTree-F.LongInteger tree.LongInteger tree.rolls-LongInteger
  measures p.LongCardinal = measured TypeTree-F.LongCardinal tree.LongCardinal tree.rolls-LongCardinal
  measures p.Boolean = measured TypeTree-F.Boolean tree.Boolean tree.rolls-Boolean
  measures p.Character = measured TypeTree-F.Character tree.Character tree.rolls-Character
  measures p.String = measured TypeTree-F.String tree.String tree.rolls-String
  measures (p.Enumeration o xs) = measured (TypeTree-F.Enumeration o xs) (tree.Enumeration o xs) (tree.rolls-Enumeration o xs)
  measures (p.Subrange k m n) = measured (TypeTree-F.Subrange (tree_of k) m n) (tree.Subrange (tree_of k) m n) (tree.rolls-Subrange (tree_of k) m n)
  measures (p.Array i e) =
      measured (TypeTree-F.Array (tree_of i) (tree_of e)) (tree.Array (tree_of i) (tree_of e)) (tree.rolls-Array (tree_of i) (tree_of e))
      ∙ array_words (measure_of (tree_of i)) (measure_for i) (measure_of (tree_of e)) (measure_for e) (measures i) (measures e)
  measures (p.Record o ps) =
      measured (TypeTree-F.Record o (trees_of ps)) (tree.Record o (trees_of ps)) (tree.rolls-Record o (trees_of ps))
      ∙ ap (λ n. record { words = n; elements = 0 }) (part_measures 0 ps ∙ from_none (words_of_parts ps))

  part_measures : (n : ℕ) (ps : Parts) → fold ◌+◌ n (map field_words (trees_of ps)) ≡ n + words_of_parts ps
  part_measures n p.NoPart = omega arith
  part_measures n (p.AndPart x k ps) =
      let here : field_words (roll-FieldType (record { name = x; kind = tree_of k })) ≡ words_of k =
      field_folded Measure ℕ measure_step field_step x (tree_of k) ∙ ap (λ (m : Measure). m.words) (measures k) in
      part_measures (n + field_words (roll-FieldType (record { name = x; kind = tree_of k }))) ps ∙ one_further n _ (words_of k) (words_of_parts ps) here

words_same : (k : PlainType) → types.words_of (tree_of k) ≡ words_of k
words_same k = ap (λ (m : Measure). m.words) (measures k)

pub small_type : (k : PlainType) → words_of k ≤ TYPE_WORDS → is_small (tree_of k) ≡ true
small_type k h = le-leb (types.words_of (tree_of k)) TYPE_WORDS (omega (arith, h, words_same k))

pub type_small : (k : PlainType) → is_small (tree_of k) ≡ true → words_of k ≤ TYPE_WORDS
type_small k e = let h = leb-true (types.words_of (tree_of k)) TYPE_WORDS e in omega (arith, h, words_same k)

-- ---- values

values_for : PlainType → Values
values_for p.Integer = record { holds = λ w. true; in_order = signed_le }
values_for p.Cardinal = below 65536
values_for p.LongInteger = record { holds = λ n. true; in_order = signed_long_le }
values_for p.LongCardinal = below 4294967296
values_for p.Boolean = below 2
values_for p.Character = below 256
values_for p.String = below 0
values_for (p.Enumeration o xs) = below (length xs)
values_for (p.Subrange k first last) = within (values_for k) first last
values_for (p.Array i e) = below 0
values_for (p.Record o ps) = below 0

no_field : FieldType → Unit {0}
no_field = fold-FieldType Values (Unit {0}) values_step (λ field. tt)

valued : (y : TypeTree-F TypeTree FieldType) (t : TypeTree) → roll-TypeTree y ≡ t → values_of t ≡ values_step (map-TypeTree TypeTree FieldType Values (Unit {0}) values_of no_field y)
unfolding no_field
valued y t e = folded Values (Unit {0}) values_step (λ field. tt) y t e

values_same : (k : PlainType) → values_of (tree_of k) ≡ values_for k
unfolding tree_of values_for
values_same p.Integer = valued TypeTree-F.Integer tree.Integer tree.rolls-Integer
values_same p.Cardinal = valued TypeTree-F.Cardinal tree.Cardinal tree.rolls-Cardinal
values_same p.LongInteger = valued TypeTree-F.LongInteger tree.LongInteger tree.rolls-LongInteger
values_same p.LongCardinal = valued TypeTree-F.LongCardinal tree.LongCardinal tree.rolls-LongCardinal
values_same p.Boolean = valued TypeTree-F.Boolean tree.Boolean tree.rolls-Boolean
values_same p.Character = valued TypeTree-F.Character tree.Character tree.rolls-Character
values_same p.String = valued TypeTree-F.String tree.String tree.rolls-String
values_same (p.Enumeration o xs) = valued (TypeTree-F.Enumeration o xs) (tree.Enumeration o xs) (tree.rolls-Enumeration o xs)
values_same (p.Subrange k m n) =
    valued (TypeTree-F.Subrange (tree_of k) m n) (tree.Subrange (tree_of k) m n) (tree.rolls-Subrange (tree_of k) m n)
    ∙ ap (λ b. within b m n) (values_same k)
values_same (p.Array i e) = valued (TypeTree-F.Array (tree_of i) (tree_of e)) (tree.Array (tree_of i) (tree_of e)) (tree.rolls-Array (tree_of i) (tree_of e))
values_same (p.Record o ps) = valued (TypeTree-F.Record o (trees_of ps)) (tree.Record o (trees_of ps)) (tree.rolls-Record o (trees_of ps))

plain_order : (a b : ℕ) → nat_le a b ≡ nat_le (shifted Unsigned a) (shifted Unsigned b)
unfolding shifted
plain_order a b = grind (arith, nat_tests)

-- of an ordinal type
order_for : (k : PlainType) → is_ordinal k ≡ true → (a b : ℕ) → (values_for k).in_order a b ≡ nat_le (shifted (sign_of k) a) (shifted (sign_of k) b)
unfolding values_for sign_of base_of is_ordinal shifted
order_for p.Integer o a b = refl
order_for p.Cardinal o a b = plain_order a b
order_for p.LongInteger o a b = no_truth o
order_for p.LongCardinal o a b = no_truth o
order_for p.Boolean o a b = plain_order a b
order_for p.Character o a b = plain_order a b
order_for p.String o a b = plain_order a b
order_for (p.Enumeration x xs) o a b = plain_order a b
order_for (p.Subrange k m n) o a b = order_for k o a b
order_for (p.Array i e) o a b = plain_order a b
order_for (p.Record x ps) o a b = plain_order a b

put_order : (k : PlainType) → is_ordinal k ≡ true → (a b : ℕ) → shifted (sign_of k) a ≤ shifted (sign_of k) b → (values_for k).in_order a b ≡ true
put_order k o a b h = order_for k o a b ∙ le-leb (shifted (sign_of k) a) (shifted (sign_of k) b) h

got_order : (k : PlainType) → is_ordinal k ≡ true → (a b : ℕ) → (values_for k).in_order a b ≡ true → shifted (sign_of k) a ≤ shifted (sign_of k) b
got_order k o a b e = leb-true (shifted (sign_of k) a) (shifted (sign_of k) b) (sym (order_for k o a b) ∙ e)

put_value : (k : PlainType) → TypeCanBeSpelled k → (n : ℕ) → IsValueOf k n → (values_for k).holds n ≡ true
unfolding values_for IsValueOf TypeCanBeSpelled
put_value p.Integer c n h = refl
put_value p.Cardinal c n h = lt-ltb n 65536 h
put_value p.LongInteger c n h = refl
put_value p.LongCardinal c n h = lt-ltb n 4294967296 h
put_value p.Boolean c n h = lt-ltb n 2 h
put_value p.Character c n h = lt-ltb n 256 h
put_value p.String c n h = absurd h
put_value (p.Enumeration o xs) c n h = lt-ltb n (length xs) h
put_value (p.Subrange k first last) c n h =
    and_from ((values_for k).holds n) _ (put_value k c.0 n h.0)
    (and_from ((values_for k).in_order first n) _ (put_order k c.2 first n h.1) (put_order k c.2 n last h.2))
put_value (p.Array i e) c n h = absurd h
put_value (p.Record o ps) c n h = absurd h

none_below : (n : ℕ) → nat_lt n 0 ≡ true → ⊥
none_below n e = let h = ltb-true n 0 e in omega (arith, h)

-- so many numbers have the bytes of a value
abbrev pub room_for : PlainType → ℕ
room_for p.LongInteger = 4294967296
room_for p.LongCardinal = 4294967296
room_for _ = 65536

words_have_room : (k : PlainType) → 65536 ≤ room_for k
words_have_room p.Integer = omega arith
words_have_room p.Cardinal = omega arith
words_have_room p.LongInteger = omega arith
words_have_room p.LongCardinal = omega arith
words_have_room p.Boolean = omega arith
words_have_room p.Character = omega arith
words_have_room p.String = omega arith
words_have_room (p.Enumeration o xs) = omega arith
words_have_room (p.Subrange k m n) = omega arith
words_have_room (p.Array i e) = omega arith
words_have_room (p.Record o ps) = omega arith

pub ordinal_room : (k : PlainType) → is_ordinal k ≡ true → room_for k ≡ 65536
unfolding base_of is_ordinal
ordinal_room p.Integer o = refl
ordinal_room p.Cardinal o = refl
ordinal_room p.LongInteger o = no_truth o
ordinal_room p.LongCardinal o = no_truth o
ordinal_room p.Boolean o = refl
ordinal_room p.Character o = refl
ordinal_room p.String o = refl
ordinal_room (p.Enumeration x xs) o = refl
ordinal_room (p.Subrange k m n) o = refl
ordinal_room (p.Array i e) o = refl
ordinal_room (p.Record x ps) o = refl

pub room_same : (k : PlainType) → 256 ^ value_bytes (tree_of k) ≡ room_for k
unfolding tree_of
room_same p.Integer = ap (λ n. 256 ^ n) integer_width
room_same p.Cardinal = ap (λ n. 256 ^ n) cardinal_width
room_same p.LongInteger = ap (λ n. 256 ^ n) long_integer_width
room_same p.LongCardinal = ap (λ n. 256 ^ n) long_cardinal_width
room_same p.Boolean = ap (λ n. 256 ^ n) boolean_width
room_same p.Character = ap (λ n. 256 ^ n) character_width
room_same p.String = ap (λ n. 256 ^ n) string_width
room_same (p.Enumeration o xs) = ap (λ n. 256 ^ n) (enumeration_width o xs)
room_same (p.Subrange k m n) = ap (λ n. 256 ^ n) (subrange_width (tree_of k) m n)
room_same (p.Array i e) = ap (λ n. 256 ^ n) (array_width (tree_of i) (tree_of e))
room_same (p.Record o ps) = ap (λ n. 256 ^ n) (record_width o (trees_of ps))

got_value : (k : PlainType) → TypeCanBeSpelled k → (n : ℕ) → n < room_for k → (values_for k).holds n ≡ true → IsValueOf k n
unfolding values_for IsValueOf TypeCanBeSpelled
got_value p.Integer c n few e = few
got_value p.Cardinal c n few e = ltb-true n 65536 e
got_value p.LongInteger c n few e = few
got_value p.LongCardinal c n few e = ltb-true n 4294967296 e
got_value p.Boolean c n few e = ltb-true n 2 e
got_value p.Character c n few e = ltb-true n 256 e
got_value p.String c n few e = absurd (none_below n e)
got_value (p.Enumeration o xs) c n few e = ltb-true n (length xs) e
got_value (p.Subrange k first last) c n few e =
    let a = and_parts ((values_for k).holds n) _ e in
    let b = and_parts ((values_for k).in_order first n) ((values_for k).in_order n last) a.1 in
    (got_value k c.0 n (omega (arith, few, words_have_room k)) a.0, got_order k c.2 first n b.0, got_order k c.2 n last b.1)
got_value (p.Array i j) c n few e = absurd (none_below n e)
got_value (p.Record o ps) c n few e = absurd (none_below n e)

pub value_holds : (k : PlainType) → TypeCanBeSpelled k → (n : ℕ) → IsValueOf k n → holds (tree_of k) n ≡ true
value_holds k c n h = ap (λ (v : Values). v.holds n) (values_same k) ∙ put_value k c n h

pub holds_value : (k : PlainType) → TypeCanBeSpelled k → (n : ℕ) → n < room_for k → holds (tree_of k) n ≡ true → IsValueOf k n
holds_value k c n few e = got_value k c n few (sym (ap (λ (v : Values). v.holds n) (values_same k)) ∙ e)

pub order_holds : (k : PlainType) → is_ordinal k ≡ true → (a b : ℕ) → shifted (sign_of k) a ≤ shifted (sign_of k) b → in_order (tree_of k) a b ≡ true
order_holds k o a b h = ap (λ (v : Values). v.in_order a b) (values_same k) ∙ put_order k o a b h

pub holds_order : (k : PlainType) → is_ordinal k ≡ true → (a b : ℕ) → in_order (tree_of k) a b ≡ true → shifted (sign_of k) a ≤ shifted (sign_of k) b
holds_order k o a b e = got_order k o a b (sym (ap (λ (v : Values). v.in_order a b) (values_same k)) ∙ e)

-- a value has those bytes
pub value_room : (k : PlainType) (n : ℕ) → TypeCanBeSpelled k → IsValueOf k n → n < room_for k
unfolding TypeCanBeSpelled IsValueOf
value_room p.Integer n h w = w
value_room p.Cardinal n h w = w
value_room p.LongInteger n h w = w
value_room p.LongCardinal n h w = w
value_room p.Boolean n h w = omega (arith, w)
value_room p.Character n h w = omega (arith, w)
value_room p.String n h w = absurd w
value_room (p.Enumeration o xs) n h w = let few : length xs ≤ 65536 = h.2 in omega (arith, w, few)
value_room (p.Subrange k x y) n h w = omega (arith, value_room k n h.0 w.0, ordinal_room k h.2)
value_room (p.Array i e) n h w = absurd w
value_room (p.Record o ps) n h w = absurd w
