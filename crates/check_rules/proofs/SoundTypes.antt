-- Types of a checked text: what each keeps, and what sameness, conformity and bases say of their shapes.
use Rattle.std.proofs.Common.{◌≡◌, ℕ, ◌*◌, List, [], ◌∷◌, length, refl, sym, ap, subst, arith, inl, inr, ◌⊎◌}
use Rattle.std.specs.Prelude.{◌≤◌, ◌<◌, Bool, true, false, not, ◌&&◌, ◌||◌, Option, Some, None, is_some}
use Rattle.mesa_types.specs.Typed as t
use Rattle.mesa_types.specs.Shapes.{words_in, words_in_all, HasWords, AllHaveWords}
use Rattle.interface_records.specs.PlainTypes as v
use Rattle.interface_records.specs.PlainTypes.{PlainType, Parts, PlainField, base_of, kind_of, kinds_of, kinds_of_parts, fields_of_parts, elements_of, words_of, words_of_parts, words_of_fields, depth_of, one_base, is_long, is_ordinal, is_ordinal_base, bounds, fields}

-- ---- truth values

pub no_truth : {A : Type 0} → false ≡ true → A
no_truth e = absurd (elim_false e)
  where
    elim_false : false ≡ true → ⊥
    elim_false e = cc

pub both_left : (a b : Bool) → (a && b) ≡ true → a ≡ true
both_left true b e = refl
both_left false b e = no_truth e

pub both_right : (a b : Bool) → (a && b) ≡ true → b ≡ true
both_right true b e = e
both_right false b e = no_truth e

pub one_of : (a b : Bool) → (a || b) ≡ true → (a ≡ true) ⊎ (b ≡ true)
one_of true b e = inl refl
one_of false b e = inr e

pub or_left : (a b : Bool) → a ≡ true → (a || b) ≡ true
or_left true b e = refl
or_left false b e = no_truth e

pub or_right : (a b : Bool) → b ≡ true → (a || b) ≡ true
or_right true b e = refl
or_right false b e = e

pub none_is_no : {A B : Type 0} (a : A) → None ≡ Some a → B
none_is_no a e = absurd (apart a e)
  where
    apart : {A : Type 0} (a : A) → None ≡ Some a → ⊥
    apart a e = cc

-- ---- types

unfoldable pub SomePart : Parts → Type 0
SomePart v.NoPart = ⊥
SomePart (v.AndPart x k ps) = Unit {0}

-- no enumeration, array or record is empty, bounds are words of an ordinal type, and the limits of words, depth and elements hold
unfoldable mutual
  pub TypeIn : PlainType → Type 0
  TypeIn v.Integer = Unit {0}
  TypeIn v.Cardinal = Unit {0}
  TypeIn v.LongInteger = Unit {0}
  TypeIn v.LongCardinal = Unit {0}
  TypeIn v.Boolean = Unit {0}
  TypeIn v.Character = Unit {0}
  TypeIn v.String = Unit {0}
  TypeIn (v.Enumeration o xs) = (0 < length xs) × (length xs ≤ 65536)
  TypeIn (v.Subrange k m n) = TypeIn k × (m < 65536) × (n < 65536) × (depth_of (v.Subrange k m n) ≤ 64) × (is_ordinal k ≡ true)
  TypeIn (v.Array i e) = TypeIn i × TypeIn e × (0 < elements_of i) × (words_of (v.Array i e) ≤ 16384) × (depth_of (v.Array i e) ≤ 64)
  TypeIn (v.Record o ps) = PartsIn ps × SomePart ps × (words_of (v.Record o ps) ≤ 16384) × (depth_of (v.Record o ps) ≤ 64)

  pub PartsIn : Parts → Type 0
  PartsIn v.NoPart = Unit {0}
  PartsIn (v.AndPart x k ps) = TypeIn k × PartsIn ps

unfoldable pub FieldsIn : List PlainField → Type 0
FieldsIn [] = Unit {0}
FieldsIn (f ∷ fs) = TypeIn f.kind × FieldsIn fs

-- the shape of a type has words, as many as the type
mutual
  unfolding TypeIn SomePart HasWords kind_of

  pub has_words : (k : PlainType) → TypeIn k → HasWords (kind_of k)
  has_words v.Integer h = tt
  has_words v.Cardinal h = tt
  has_words v.LongInteger h = tt
  has_words v.LongCardinal h = tt
  has_words v.Boolean h = tt
  has_words v.Character h = tt
  has_words v.String h = tt
  has_words (v.Enumeration o xs) h = tt
  has_words (v.Subrange k m n) h = tt
  has_words (v.Array i e) h = (h.2, has_words e h.1)
  has_words (v.Record o ps) h = record_has_words ps h.1 h.0

  record_has_words : (ps : Parts) → SomePart ps → PartsIn ps → HasWords (t.Record (kinds_of_parts ps))
  record_has_words v.NoPart s h = absurd s
  record_has_words (v.AndPart x k ps) s h = (has_words k h.0, parts_have_words ps h.1)

  parts_have_words : (ps : Parts) → PartsIn ps → AllHaveWords (kinds_of_parts ps)
  parts_have_words v.NoPart h = tt
  parts_have_words (v.AndPart x k ps) h = (has_words k h.0, parts_have_words ps h.1)

pub fields_have_words : (fs : List PlainField) → FieldsIn fs → AllHaveWords (kinds_of fs)
unfolding FieldsIn kinds_of AllHaveWords
fields_have_words [] h = tt
fields_have_words (f ∷ fs) h = (has_words f.kind h.0, fields_have_words fs h.1)

mutual
  unfolding words_of kind_of words_in

  pub words_agree : (k : PlainType) → words_of k ≡ words_in (kind_of k)
  words_agree v.Integer = refl
  words_agree v.Cardinal = refl
  words_agree v.LongInteger = refl
  words_agree v.LongCardinal = refl
  words_agree v.Boolean = refl
  words_agree v.Character = refl
  words_agree v.String = refl
  words_agree (v.Enumeration o xs) = refl
  words_agree (v.Subrange k m n) = refl
  words_agree (v.Array i e) = ap (λ w. elements_of i * w) (words_agree e)
  words_agree (v.Record o ps) = parts_agree ps

  parts_agree : (ps : Parts) → words_of_parts ps ≡ words_in_all (kinds_of_parts ps)
  parts_agree v.NoPart = refl
  parts_agree (v.AndPart x k ps) = omega (arith, words_agree k, parts_agree ps)

pub field_words_agree : (fs : List PlainField) → words_of_fields fs ≡ words_in_all (kinds_of fs)
unfolding words_of_fields kinds_of words_in_all
field_words_agree [] = refl
field_words_agree (f ∷ fs) = omega (arith, words_agree f.kind, field_words_agree fs)

-- the fields of a record are its parts
pub kinds_of_fields : (ps : Parts) → kinds_of (fields_of_parts ps) ≡ kinds_of_parts ps
unfolding kinds_of fields_of_parts kind_of
kinds_of_fields v.NoPart = refl
kinds_of_fields (v.AndPart x k ps) = ap (t.AndKind (kind_of k)) (kinds_of_fields ps)

pub fields_in_parts : (ps : Parts) → PartsIn ps → FieldsIn (fields_of_parts ps)
unfolding FieldsIn fields_of_parts TypeIn
fields_in_parts v.NoPart h = tt
fields_in_parts (v.AndPart x k ps) h = (h.0, fields_in_parts ps h.1)

pub record FieldsOf (k : PlainType) (fs : List PlainField) : Type 0 where
  pub shape : kind_of k ≡ t.Record (kinds_of fs)
  pub types : FieldsIn fs

pub fields_of_type : (k : PlainType) (fs : List PlainField) → TypeIn k → fields k ≡ Some fs → FieldsOf k fs
unfolding kind_of TypeIn
fields_of_type (v.Record o ps) fs h e =
    let same_fields : fields_of_parts ps ≡ fs = some_same (fields_of_parts ps) fs e in
    subst (FieldsOf (v.Record o ps)) same_fields (record { shape = ap t.Record (sym (kinds_of_fields ps)); types = fields_in_parts ps h.0 })
  where
    some_same : (a b : List PlainField) → Some a ≡ Some b → a ≡ b
    some_same a b e = cc
fields_of_type v.Integer fs h e = none_is_no fs e
fields_of_type v.Cardinal fs h e = none_is_no fs e
fields_of_type v.LongInteger fs h e = none_is_no fs e
fields_of_type v.LongCardinal fs h e = none_is_no fs e
fields_of_type v.Boolean fs h e = none_is_no fs e
fields_of_type v.Character fs h e = none_is_no fs e
fields_of_type v.String fs h e = none_is_no fs e
fields_of_type (v.Enumeration o xs) fs h e = none_is_no fs e
fields_of_type (v.Subrange k m n) fs h e = none_is_no fs e
fields_of_type (v.Array i k) fs h e = none_is_no fs e

-- ---- bases

-- an ordinal type has one word
pub ordinal_kind : (k : PlainType) → is_ordinal k ≡ true → kind_of k ≡ t.Ordinal
unfolding is_ordinal base_of kind_of
ordinal_kind v.Integer e = refl
ordinal_kind v.Cardinal e = refl
ordinal_kind v.LongInteger e = no_truth e
ordinal_kind v.LongCardinal e = no_truth e
ordinal_kind v.Boolean e = refl
ordinal_kind v.Character e = refl
ordinal_kind v.String e = no_truth e
ordinal_kind (v.Enumeration o xs) e = refl
ordinal_kind (v.Subrange k m n) e = refl
ordinal_kind (v.Array i k) e = no_truth e
ordinal_kind (v.Record o ps) e = no_truth e

pub no_lie : {A : Type 0} → true ≡ false → A
no_lie e = no_truth (sym e)

-- a type that has a base and is not LONG has one word
pub some_base : (k : PlainType) → is_some (base_of k) ≡ true → is_long k ≡ false → kind_of k ≡ t.Ordinal
unfolding base_of kind_of
some_base v.Integer e f = refl
some_base v.Cardinal e f = refl
some_base v.LongInteger e f = no_lie f
some_base v.LongCardinal e f = no_lie f
some_base v.Boolean e f = refl
some_base v.Character e f = refl
some_base v.String e f = no_truth e
some_base (v.Enumeration o xs) e f = refl
some_base (v.Subrange k m n) e f = refl
some_base (v.Array i k) e f = no_truth e
some_base (v.Record o ps) e f = no_truth e

pub long_cases : (P : PlainType → Type 0) → P v.LongInteger → P v.LongCardinal → (k : PlainType) → is_long k ≡ true → P k
long_cases P x y v.Integer e = no_truth e
long_cases P x y v.Cardinal e = no_truth e
long_cases P x y v.LongInteger e = x
long_cases P x y v.LongCardinal e = y
long_cases P x y v.Boolean e = no_truth e
long_cases P x y v.Character e = no_truth e
long_cases P x y v.String e = no_truth e
long_cases P x y (v.Enumeration o xs) e = no_truth e
long_cases P x y (v.Subrange k m n) e = no_truth e
long_cases P x y (v.Array i k) e = no_truth e
long_cases P x y (v.Record o ps) e = no_truth e

pub long_kind : (k : PlainType) → is_long k ≡ true → kind_of k ≡ t.Longs
unfolding kind_of
long_kind k e = long_cases (λ k. kind_of k ≡ t.Longs) refl refl k e

pub ordinal_not_long : (k : PlainType) → is_ordinal k ≡ true → is_long k ≡ false
unfolding is_ordinal base_of
ordinal_not_long v.Integer e = refl
ordinal_not_long v.Cardinal e = refl
ordinal_not_long v.LongInteger e = no_truth e
ordinal_not_long v.LongCardinal e = no_truth e
ordinal_not_long v.Boolean e = refl
ordinal_not_long v.Character e = refl
ordinal_not_long v.String e = refl
ordinal_not_long (v.Enumeration o xs) e = refl
ordinal_not_long (v.Subrange k m n) e = refl
ordinal_not_long (v.Array i k) e = refl
ordinal_not_long (v.Record o ps) e = refl

-- an ordinal base is none of the LONG types
pub base_is_short : (o : Option PlainType) (b : PlainType) → is_ordinal_base o ≡ true → o ≡ Some b → is_long b ≡ false
base_is_short (Some c) b h e = subst (λ (x : PlainType). is_long x ≡ false) (some_same c b e) (turned (is_long c) h)
  where
    some_same : (a b : PlainType) → Some a ≡ Some b → a ≡ b
    some_same a b e = cc

    turned : (x : Bool) → not x ≡ true → x ≡ false
    turned true h = no_truth h
    turned false h = refl
base_is_short None b h e = no_truth h

-- a type that has a base is LONG where its base is, and has one word where its base is ordinal
pub word_kind : (k b : PlainType) → is_long b ≡ false → base_of k ≡ Some b → kind_of k ≡ t.Ordinal
unfolding is_ordinal
word_kind k b n e = ordinal_kind k (by (base_of k) e)
  where
    flipped : (x : Bool) → x ≡ false → not x ≡ true
    flipped true h = no_lie h
    flipped false h = refl

    by : (o : Option PlainType) → o ≡ Some b → is_ordinal_base o ≡ true
    by o d = subst (λ (x : Option PlainType). is_ordinal_base x ≡ true) (sym d) (flipped (is_long b) n)

pub based_left : (a b : Option PlainType) → one_base a b ≡ true → is_some a ≡ true
based_left (Some a) b e = refl
based_left None b e = no_truth e

pub based_right : (a b : Option PlainType) → one_base a b ≡ true → is_some b ≡ true
based_right (Some a) (Some b) e = refl
based_right (Some a) None e = no_truth e
based_right None b e = no_truth e

pub bounded_kind : (k : PlainType) (b : ℕ × ℕ) → bounds k ≡ Some b → kind_of k ≡ t.Ordinal
unfolding kind_of
bounded_kind (v.Subrange k m n) b e = refl
bounded_kind v.Integer b e = none_is_no b e
bounded_kind v.Cardinal b e = none_is_no b e
bounded_kind v.LongInteger b e = none_is_no b e
bounded_kind v.LongCardinal b e = none_is_no b e
bounded_kind v.Boolean b e = none_is_no b e
bounded_kind v.Character b e = none_is_no b e
bounded_kind v.String b e = none_is_no b e
bounded_kind (v.Enumeration o xs) b e = none_is_no b e
bounded_kind (v.Array i k) b e = none_is_no b e
bounded_kind (v.Record o ps) b e = none_is_no b e

pub record WordBounds (b : ℕ × ℕ) : Type 0 where
  pub first : b.0 < 65536
  pub last : b.1 < 65536

pub word_bounds : (k : PlainType) → TypeIn k → (b : ℕ × ℕ) → bounds k ≡ Some b → WordBounds b
unfolding TypeIn
word_bounds (v.Subrange k m n) h b e = subst WordBounds (some_same (m, n) b e) (record { first = h.1; last = h.2 })
  where
    some_same : (a b : ℕ × ℕ) → Some a ≡ Some b → a ≡ b
    some_same a b e = cc
word_bounds v.Integer h b e = none_is_no b e
word_bounds v.Cardinal h b e = none_is_no b e
word_bounds v.LongInteger h b e = none_is_no b e
word_bounds v.LongCardinal h b e = none_is_no b e
word_bounds v.Boolean h b e = none_is_no b e
word_bounds v.Character h b e = none_is_no b e
word_bounds v.String h b e = none_is_no b e
word_bounds (v.Enumeration o xs) h b e = none_is_no b e
word_bounds (v.Array i k) h b e = none_is_no b e
word_bounds (v.Record o ps) h b e = none_is_no b e
