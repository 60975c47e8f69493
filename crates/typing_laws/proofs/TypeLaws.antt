-- A law on the types that checking meets and on the words of constants: where types as they are made keep it, and types that are
-- taken apart, then all do that checking meets.
use Rattle.std.specs.Prelude.{ℕ, ◌≡◌, ◌≢◌, ◌≤◌, ◌<◌, ◌⊎◌, ◌+◌, ◌-◌, Bool, true, false, Some, List, [], ◌∷◌, length, nat_le}
use Rattle.mesa_base.specs.Name.{IsName}
use Rattle.mesa_base.specs.declared.limits.TheConstants.{TYPE_WORDS, TYPE_DEPTH, ENUMERATION_ELEMENTS}
use Rattle.mesa_base.specs.declared.identifier.Identifier.{Identifier}
use Rattle.mesa_types.specs.declared.types.Origin.{Origin}
use Rattle.mesa_types.specs.Operators.{Tried, Fine, Faulty, fits, shifted, tried, truth, wrap}
use Rattle.check_rules.specs.Typed as t
use Rattle.check_rules.specs.Typed.{Base}
use Rattle.interface_records.specs.PlainTypes as v
use Rattle.interface_records.specs.PlainTypes.{PlainType, PlainField, base_of, conforms, depth_of, fields_of_parts, is_long, is_ordinal, parts_of, sign_of, words_of}
use Rattle.check_rules.specs.Operators.{number_type, long_type}
use Rattle.mesa_types.specs.Longs as longs
use Rattle.mesa_types.specs.Longs.{tried_long}
use Rattle.check_rules.specs.Parts.{names_of}
use Rattle.check_rules.specs.Ranges.{range_for}
use Rattle.interface_records.specs.Spelled.{EachHasName, NoneHasName, names_among}
use Rattle.check_rules.specs.TreeNames.{AllNames}
use Rattle.check_rules.specs.TypeRules.{is_index}
use Rattle.typing_laws.proofs.Distinct.{times}
use Rattle.typing_laws.proofs.Keeping.{OfSome}

-- the type of each field, and its name, if it has one
unfoldable pub FieldsHave : (PlainType → Type 0) → List PlainField → Type 0
FieldsHave P [] = Unit {0}
FieldsHave P (f ∷ fs) = P f.kind × FieldsHave P fs

unfoldable pub NamesFine : List PlainField → Type 0
NamesFine [] = Unit {0}
NamesFine (f ∷ fs) = OfSome IsName f.name × NamesFine fs

-- the fields of a record as they are written
pub record FieldsMade (Written Named : Type 0) (fs : List PlainField) : Type 0 where
  pub some : Written → fs ≢ []
  pub names : Named → NamesFine fs
  pub all : EachHasName fs ⊎ NoneHasName fs
  pub once : (n : List ℕ) → times n (names_among fs) ≤ 1

abbrev pub OfTried : (ℕ → Type 0) → Tried → Type 0
OfTried P (Fine n) = P n
OfTried P (Faulty f) = Unit {0}

pub record TypeLaw : Type 1 where
  -- of a type, of a word, of a LONG number, of a word or number as a value of a type, and of an origin
  pub Kept : PlainType → Type 0
  pub Word : ℕ → Type 0
  pub Long : ℕ → Type 0
  pub Worth : PlainType → ℕ → Type 0
  pub Made : Origin → Type 0
  -- where it is said of a text as it is written, and of one whose names are names
  pub Written : Type 0
  pub Named : Type 0
  -- types as they are made
  pub integer : Kept v.Integer
  pub cardinal : Kept v.Cardinal
  pub long_integer : Kept v.LongInteger
  pub long_cardinal : Kept v.LongCardinal
  pub boolean : Kept v.Boolean
  pub character : Kept v.Character
  pub string : Kept v.String
  pub enumeration : (o : Origin) (xs : List Identifier) → Made o → (Written → xs ≢ []) → (Named → AllNames xs)
      → ((n : List ℕ) → times n (names_of xs) ≤ 1) → length xs ≤ ENUMERATION_ELEMENTS → Kept (v.Enumeration o (names_of xs))
  pub subrange : (k : PlainType) (open_low open_high : Bool) (x y : ℕ) → Kept k → base_of k ≡ Some k → is_ordinal k ≡ true → Worth k x → Worth k y
      → nat_le (shifted (sign_of k) x + truth open_low + truth open_high) (shifted (sign_of k) y) ≡ true
      → Kept (v.Subrange k (wrap (x + truth open_low)) (wrap (y + 65536 - truth open_high)))
  pub array : (i e : PlainType) → Kept i → Kept e → is_index i ≡ true → words_of (v.Array i e) ≤ TYPE_WORDS → depth_of (v.Array i e) ≤ TYPE_DEPTH
      → Kept (v.Array i e)
  pub fields : (o : Origin) (fs : List PlainField) → Made o → FieldsHave Kept fs → FieldsMade Written Named fs
      → words_of (v.Record o (parts_of fs)) ≤ TYPE_WORDS → depth_of (v.Record o (parts_of fs)) ≤ TYPE_DEPTH → Kept (v.Record o (parts_of fs))
  -- types that are taken apart
  pub base : (k : PlainType) (x y : ℕ) → Kept (v.Subrange k x y) → Kept k
  pub ordinal_base : (k : PlainType) (x y : ℕ) → Kept (v.Subrange k x y) → is_ordinal k ≡ true
  pub index : (i e : PlainType) → Kept (v.Array i e) → Kept i
  pub element : (i e : PlainType) → Kept (v.Array i e) → Kept e
  pub parts : (o : Origin) (ps : v.Parts) → Kept (v.Record o ps) → FieldsHave Kept (fields_of_parts ps)
  -- words
  pub small : (n : ℕ) → n < 65536 → Word n
  pub operated : (o : t.Operator) (x y : ℕ) → Word x → OfTried Word (tried o x y)
  pub word : (k : PlainType) (n : ℕ) → Kept k → is_long k ≡ false → Worth k n → Word n
  pub number : (b : Base) (n : ℕ) → Word n → Worth (number_type b) n
  pub letter : (n : ℕ) → n < 256 → Worth v.Character n
  pub truths : (b : Bool) → Worth v.Boolean (truth b)
  pub enumerated : (o : Origin) (xs : List (List ℕ)) (n : ℕ) → Kept (v.Enumeration o xs) → n < length xs → Worth (v.Enumeration o xs) n
  pub based : (k b : PlainType) (n : ℕ) → base_of k ≡ Some b → Worth k n → Worth b n
  pub fitted : (j k : PlainType) (n : ℕ) → Kept j → Kept k → conforms j k ≡ true → is_long j ≡ false → is_long k ≡ false
      → fits (range_for j k) n ≡ true → Worth j n → Worth k n
  -- LONG numbers
  pub long_small : (n : ℕ) → n < 4294967296 → Long n
  pub long_operated : (o : t.Operator) (x y : ℕ) → Long x → OfTried Long (tried_long o x y)
  pub widened : (from to : Base) (n : ℕ) → Word n → OfTried Long (longs.widened from to n)
  pub long : (b : Base) (n : ℕ) → Long n → Worth (long_type b) n
  pub long_word : (b : Base) (n : ℕ) → Worth (long_type b) n → Long n

-- what is known of a part of the text
pub record Text (L : TypeLaw) (W N : Type 0) : Type 0 where
  pub written : L.Written → W
  pub named : L.Named → N

pub less_text : {L : TypeLaw} {W N V M : Type 0} → Text L W N → (W → V) → (N → M) → Text L V M
less_text x f g = record { written = λ l. f (x.written l); named = λ l. g (x.named l) }
