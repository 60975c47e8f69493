-- The checks of values that are given and of mixed operands are ranges of words; what operators take are words, or numbers that are
-- made LONG.
use Rattle.std.proofs.Common.{◌≡◌, ℕ, ◌+◌, refl, sym, ◌∙◌, ap, subst, arith, inl, inr, ◌⊎◌}
use Rattle.std.specs.Prelude.{◌<◌, ◌≤◌, Bool, true, false, ◌||◌, is_some, Option, Some, None, nat_le, min, if◌then◌else◌}
use Rattle.mesa_types.specs.Sound as sound
use Rattle.syntax_trees.specs.declared.syntax.Operator.{Operator}
use Rattle.syntax_trees.specs.declared.syntax.Operator.TheVariants.{Or, And, Add, Subtract, Multiply, Divide, Modulo}
use Rattle.mesa_types.specs.declared.typed_parts.Base.{Base}
use Rattle.mesa_types.specs.declared.typed_parts.Base.TheVariants.{Signed, Unsigned}
use Rattle.mesa_types.specs.declared.typed_parts.Range.{Range}
use Rattle.mesa_types.specs.declared.typed_parts.Range.TheVariants.{Every, From}
use Rattle.mesa_types.specs.declared.typed_parts.Conversion.{Conversion}
use Rattle.mesa_types.specs.declared.typed_parts.Conversion.TheVariants.{Kept, Widened, Narrowed, InCommon}
use Rattle.check_rules.specs.Typed as t
use Rattle.interface_records.specs.PlainTypes as v
use Rattle.interface_records.specs.PlainTypes.{PlainType, base_of, kind_of, bounds, sign_of, same, conforms, is_long, is_ordinal, is_ordinal_base}
use Rattle.check_rules.specs.Ranges.{in_common, range_between, range_by, range_for, is_number_base, crossing, subrange_of, conversion_by, conversion_for}
use Rattle.check_rules.specs.Reached.{range_by_signs, index_range, first_word}
use Rattle.check_rules.specs.Operators.{Sort, Number, LongNumber, Letter, Truth, Other, Meeting, LongMeeting, Fit, AsLiteral, By, Applied, LongApplied, Application, OfWords, OfLongs, Relating, Longs, Words, sort_of_base, sort_of, meet, either_signed, long_base, crossing_of, fit_of, long_meeting, meet_long, longer, by_itself, selecting, selecting_itself, number_type, long_type, arithmetic, on_longs, long_arithmetic, on_letter, word_operation, by_length, operation, of_one_base, related_by, related, relating_by, relating}
use Rattle.check_rules.proofs.SoundTypes.{TypeIn, WordBounds, no_truth, none_is_no, one_of, word_kind, some_base, long_kind, bounded_kind, word_bounds}
use Rattle.check_rules.proofs.SoundSame.{types_same, conforming_kind, conforming_word, word_conforming}

-- ---- ranges

pub every_word : sound.RangeIn Every
unfolding sound.RangeIn
every_word = tt

pub common_words : (b : Base) → sound.RangeIn (in_common b)
unfolding sound.RangeIn sound.IsCheck
common_words b = (omega arith, omega arith)

range_if : (b : Bool) (r q : Range) → sound.RangeIn r → sound.RangeIn q → sound.RangeIn (if b then r else q)
range_if true r q h k = h
range_if false r q h k = k

zero_if : (b : Bool) (n : ℕ) → n < 65536 → (if b then 0 else n) < 65536
zero_if true n h = omega arith
zero_if false n h = h

pub words_between : (a b : Base) (first last : ℕ) → first < 65536 → last < 65536 → sound.RangeIn (range_between a b first last)
unfolding sound.RangeIn sound.IsCheck
words_between Signed Signed first last f l = (f, l)
words_between Unsigned Unsigned first last f l = (f, l)
words_between Unsigned Signed first last f l =
    range_if (nat_le 32768 last) (From Unsigned 1 0) (From Unsigned (if nat_le 32768 first then 0 else first) last)
    (omega arith, omega arith) (zero_if (nat_le 32768 first) first f, l)
words_between Signed Unsigned first last f l =
    range_if (nat_le 32768 first) (From Signed 1 0) (From Signed first (min last 32767)) (omega arith, omega arith) (f, omega arith)

some_bounds : (o : Option (ℕ × ℕ)) → ((b : ℕ × ℕ) → o ≡ Some b → WordBounds b) → (a b : Base) (number : Bool) → sound.RangeIn (range_by o a b number)
some_bounds (Some b) h c d number = words_between c d b.0 b.1 (h b refl).first (h b refl).last
some_bounds None h Signed Unsigned true = common_words Signed
some_bounds None h Unsigned Signed true = common_words Unsigned
some_bounds None h Signed Signed true = every_word
some_bounds None h Unsigned Unsigned true = every_word
some_bounds None h Signed Signed false = every_word
some_bounds None h Unsigned Unsigned false = every_word
some_bounds None h Signed Unsigned false = every_word
some_bounds None h Unsigned Signed false = every_word

-- the check of what is given to a target
pub given_range : (j k : PlainType) → TypeIn k → sound.RangeIn (range_for j k)
unfolding range_for
given_range j k h = some_bounds (bounds k) (word_bounds k h) (sign_of j) (sign_of k) (is_number_base (base_of k))

number_base_kind : (k : PlainType) (o : Option PlainType) → base_of k ≡ o → is_number_base o ≡ true → kind_of k ≡ t.Ordinal
number_base_kind k (Some b) e h = word_kind k b (is_short b h) e
  where
    is_short : (b : PlainType) → is_number_base (Some b) ≡ true → is_long b ≡ false
    is_short v.Integer h = refl
    is_short v.Cardinal h = refl
    is_short v.LongInteger h = no_truth h
    is_short v.LongCardinal h = no_truth h
    is_short v.Boolean h = refl
    is_short v.Character h = refl
    is_short v.String h = refl
    is_short (v.Enumeration o xs) h = refl
    is_short (v.Subrange k m n) h = refl
    is_short (v.Array i k) h = refl
    is_short (v.Record o ps) h = refl
number_base_kind k None e h = no_truth h

-- a check is made of a word alone
unfoldable pub OnlyWords : Range → t.Kind → Type 0
OnlyWords Every k = Unit {0}
OnlyWords (From b first last) k = k ≡ t.Ordinal

only_words : (k : t.Kind) (r : Range) → k ≡ t.Ordinal → OnlyWords r k
unfolding OnlyWords
only_words k Every h = tt
only_words k (From b first last) h = h

checked_kind : (k : t.Kind) (o : Option (ℕ × ℕ)) (a b : Base) (number : Bool) → ((x : ℕ × ℕ) → o ≡ Some x → k ≡ t.Ordinal) → (number ≡ true → k ≡ t.Ordinal)
    → OnlyWords (range_by o a b number) k
unfolding OnlyWords
checked_kind k (Some x) a b number h i = only_words k (range_between a b x.0 x.1) (h x refl)
checked_kind k None Signed Unsigned true h i = i refl
checked_kind k None Unsigned Signed true h i = i refl
checked_kind k None Signed Signed true h i = tt
checked_kind k None Unsigned Unsigned true h i = tt
checked_kind k None Signed Signed false h i = tt
checked_kind k None Unsigned Unsigned false h i = tt
checked_kind k None Signed Unsigned false h i = tt
checked_kind k None Unsigned Signed false h i = tt

pub given_words : (j k : PlainType) → OnlyWords (range_for j k) (kind_of k)
unfolding range_for
given_words j k =
    checked_kind (kind_of k) (bounds k) (sign_of j) (sign_of k) (is_number_base (base_of k)) (bounded_kind k) (number_base_kind k (base_of k) refl)

-- ---- conversions of what is given

abbrev pub ConversionIn : Conversion → t.Kind → t.Kind → Type 0
ConversionIn Kept i j = i ≡ j
ConversionIn (Widened from to) i j = sound.Converts (Widened from to) i j
ConversionIn (Narrowed from to r) i j = sound.Converts (Narrowed from to r) i j
ConversionIn InCommon i j = sound.Converts InCommon i j

subrange_words : (b : Base) (o : Option (ℕ × ℕ)) → ((x : ℕ × ℕ) → o ≡ Some x → WordBounds x) → sound.RangeIn (subrange_of b o)
unfolding sound.RangeIn sound.IsCheck
subrange_words b (Some x) h = ((h x refl).first, (h x refl).last)
subrange_words b None h = tt

crossed : (a b : Base) (i j : t.Kind) → i ≡ t.Longs → j ≡ t.Longs → ConversionIn (crossing a b) i j
unfolding sound.Converts
crossed Signed Signed i j d e = d ∙ sym e
crossed Unsigned Unsigned i j d e = d ∙ sym e
crossed Signed Unsigned i j d e = (d, e)
crossed Unsigned Signed i j d e = (d, e)

conversion_by_in : (j k : PlainType) (a b : Bool) → is_long j ≡ a → is_long k ≡ b → conforms j k ≡ true → TypeIn k
    → ConversionIn (conversion_by a b j k) (kind_of j) (kind_of k)
unfolding sound.Converts
conversion_by_in j k false false d f c i = conforming_kind j k c d f
conversion_by_in j k false true d f c i = (conforming_word j k c d f, long_kind k f)
conversion_by_in j k true false d f c i = (subrange_words (sign_of k) (bounds k) (word_bounds k i), long_kind j d, word_conforming j k c d f)
conversion_by_in j k true true d f c i = crossed (sign_of j) (sign_of k) (kind_of j) (kind_of k) (long_kind j d) (long_kind k f)

pub conversion_in : (j k : PlainType) → conforms j k ≡ true → TypeIn k → ConversionIn (conversion_for j k) (kind_of j) (kind_of k)
unfolding conversion_for
conversion_in j k c i = conversion_by_in j k (is_long j) (is_long k) refl refl c i

signs_range : (a b : Base) (o : Option (ℕ × ℕ)) → ((x : ℕ × ℕ) → o ≡ Some x → WordBounds x) → sound.RangeIn (range_by_signs a b o)
signs_range Signed Unsigned (Some x) h = words_between Signed Unsigned x.0 x.1 (h x refl).first (h x refl).last
signs_range Unsigned Signed (Some x) h = words_between Unsigned Signed x.0 x.1 (h x refl).first (h x refl).last
signs_range Signed Signed o h = every_word
signs_range Unsigned Unsigned o h = every_word
signs_range Signed Unsigned None h = every_word
signs_range Unsigned Signed None h = every_word

-- the check of an index, and the first word of the index type
pub index_words : (j k : PlainType) → TypeIn k → sound.RangeIn (index_range j k)
index_words j k h = signs_range (sign_of j) (sign_of k) (bounds k) (word_bounds k h)

pub first_is_word : (k : PlainType) → TypeIn k → first_word (bounds k) < 65536
first_is_word k h = by (bounds k) (word_bounds k h)
  where
    by : (o : Option (ℕ × ℕ)) → ((x : ℕ × ℕ) → o ≡ Some x → WordBounds x) → first_word o < 65536
    by (Some x) h = (h x refl).first
    by None h = omega arith

-- ---- operators

abbrev pub IsWord : Sort → Type 0
IsWord (Number b) = Unit {0}
IsWord (LongNumber b) = ⊥
IsWord Letter = Unit {0}
IsWord Truth = Unit {0}
IsWord Other = ⊥

-- a number of one word, or a LONG one
abbrev pub IsNumber : Sort → Type 0
IsNumber (Number b) = Unit {0}
IsNumber (LongNumber b) = Unit {0}
IsNumber Letter = ⊥
IsNumber Truth = ⊥
IsNumber Other = ⊥

abbrev pub kind_by : Sort → t.Kind
kind_by (LongNumber b) = t.Longs
kind_by _ = t.Ordinal

sorted_kind : (k : PlainType) (o : Option PlainType) → base_of k ≡ o → IsWord (sort_of_base o) → kind_of k ≡ t.Ordinal
sorted_kind k (Some v.Integer) e h = word_kind k v.Integer refl e
sorted_kind k (Some v.Cardinal) e h = word_kind k v.Cardinal refl e
sorted_kind k (Some v.LongInteger) e h = absurd h
sorted_kind k (Some v.LongCardinal) e h = absurd h
sorted_kind k (Some v.Boolean) e h = word_kind k v.Boolean refl e
sorted_kind k (Some v.Character) e h = word_kind k v.Character refl e
sorted_kind k (Some v.String) e h = absurd h
sorted_kind k (Some (v.Enumeration o xs)) e h = absurd h
sorted_kind k (Some (v.Subrange j m n)) e h = absurd h
sorted_kind k (Some (v.Array i j)) e h = absurd h
sorted_kind k (Some (v.Record o ps)) e h = absurd h
sorted_kind k None e h = absurd h

pub word_sort : (k : PlainType) → IsWord (sort_of k) → kind_of k ≡ t.Ordinal
unfolding sort_of
word_sort k h = sorted_kind k (base_of k) refl h

-- an ordinal base has no LONG sort
ordinal_sort : (o : Option PlainType) → is_ordinal_base o ≡ true → kind_by (sort_of_base o) ≡ t.Ordinal
ordinal_sort (Some v.Integer) h = refl
ordinal_sort (Some v.Cardinal) h = refl
ordinal_sort (Some v.LongInteger) h = no_truth h
ordinal_sort (Some v.LongCardinal) h = no_truth h
ordinal_sort (Some v.Boolean) h = refl
ordinal_sort (Some v.Character) h = refl
ordinal_sort (Some v.String) h = refl
ordinal_sort (Some (v.Enumeration o xs)) h = refl
ordinal_sort (Some (v.Subrange j m n)) h = refl
ordinal_sort (Some (v.Array i j)) h = refl
ordinal_sort (Some (v.Record o ps)) h = refl
ordinal_sort None h = no_truth h

-- a number has the shape of its sort
pub number_kind : (k : PlainType) → TypeIn k → IsNumber (sort_of k) → kind_of k ≡ kind_by (sort_of k)
unfolding TypeIn sort_of base_of kind_of is_ordinal
number_kind v.Integer i h = refl
number_kind v.Cardinal i h = refl
number_kind v.LongInteger i h = refl
number_kind v.LongCardinal i h = refl
number_kind v.Boolean i h = absurd h
number_kind v.Character i h = absurd h
number_kind v.String i h = absurd h
number_kind (v.Enumeration o xs) i h = absurd h
number_kind (v.Subrange k m n) i h = sym (ordinal_sort (base_of k) i.4)
number_kind (v.Array j k) i h = absurd h
number_kind (v.Record o ps) i h = absurd h

pub record Met (x : Meeting) : Type 0 where
  pub left : sound.RangeIn x.left
  pub right : sound.RangeIn x.right

pub met : (a : Base) (la : Bool) (b : Base) (lb : Bool) → Met (meet a la b lb)
unfolding meet
met Signed la Signed lb = record { left = every_word; right = every_word }
met Unsigned la Unsigned lb = record { left = every_word; right = every_word }
met Signed true Unsigned lb = record { left = every_word; right = every_word }
met Signed false Unsigned lb = record { left = every_word; right = common_words Unsigned }
met Unsigned la Signed true = record { left = every_word; right = every_word }
met Unsigned la Signed false = record { left = common_words Unsigned; right = every_word }

pub record Good (x : Applied) : Type 0 where
  pub left : sound.RangeIn x.left
  pub right : sound.RangeIn x.right
  pub word : kind_of x.kind ≡ t.Ordinal
  pub kind : TypeIn x.kind

abbrev IfGood : Option Applied → Type 0
IfGood None = Unit {0}
IfGood (Some x) = Good x

pub number_word : (b : Base) → kind_of (number_type b) ≡ t.Ordinal
unfolding kind_of
number_word Signed = refl
number_word Unsigned = refl

pub number_in : (b : Base) → TypeIn (number_type b)
unfolding TypeIn
number_in Signed = tt
number_in Unsigned = tt

pub plain_words : (kind_of v.Integer ≡ t.Ordinal) × (kind_of v.Character ≡ t.Ordinal) × (kind_of v.Boolean ≡ t.Ordinal) × (kind_of v.Cardinal ≡ t.Ordinal)
unfolding kind_of
plain_words = (refl, refl, refl, refl)

pub plain_types : TypeIn v.Integer × TypeIn v.Character × TypeIn v.Boolean × TypeIn v.Cardinal × TypeIn v.String
unfolding TypeIn
plain_types = (tt, tt, tt, tt, tt)

good_arithmetic : (o : Operator) (x : Meeting) → Met x → IfGood (arithmetic o x)
good_arithmetic Add x h = record { left = h.left; right = h.right; word = number_word x.base; kind = number_in x.base }
good_arithmetic Subtract x h = record { left = h.left; right = h.right; word = number_word x.base; kind = number_in x.base }
good_arithmetic Multiply x h = record { left = h.left; right = h.right; word = number_word x.base; kind = number_in x.base }
good_arithmetic Divide x h = record { left = h.left; right = h.right; word = number_word x.base; kind = number_in x.base }
good_arithmetic Modulo x h = record { left = h.left; right = h.right; word = number_word x.base; kind = number_in x.base }
good_arithmetic Or x h = tt
good_arithmetic And x h = tt

pub record GoodPair (a b : Sort) (x : Applied) : Type 0 where
  pub left : IsWord a
  pub right : IsWord b
  pub good : Good x

abbrev IfPair : Sort → Sort → Option Applied → Type 0
IfPair a b None = Unit {0}
IfPair a b (Some x) = GoodPair a b x

paired : (a b : Sort) (o : Option Applied) → IsWord a → IsWord b → IfGood o → IfPair a b o
paired a b None h k g = tt
paired a b (Some x) h k g = record { left = h; right = k; good = g }

unchecked_good : (k : PlainType) (o : t.Operator) → kind_of k ≡ t.Ordinal → TypeIn k → Good (record { left = Every; operator = o; right = Every; kind = k })
unchecked_good k o e h = record { left = every_word; right = every_word; word = e; kind = h }

good_letter : (o : Operator) (b : Sort) → IfPair Letter b (on_letter o b)
good_letter Add (Number b) = record { left = tt; right = tt; good = unchecked_good v.Character (t.AddToCharacter b) plain_words.1 plain_types.1 }
good_letter Subtract (Number b) = record { left = tt; right = tt; good = unchecked_good v.Character (t.SubtractFromCharacter b) plain_words.1 plain_types.1 }
good_letter Subtract Letter = record { left = tt; right = tt; good = unchecked_good v.Integer t.Subtract plain_words.0 plain_types.0 }
good_letter Add (LongNumber b) = tt
good_letter Subtract (LongNumber b) = tt
good_letter Add Letter = tt
good_letter Add Truth = tt
good_letter Add Other = tt
good_letter Subtract Truth = tt
good_letter Subtract Other = tt
good_letter Multiply b = tt
good_letter Divide b = tt
good_letter Modulo b = tt
good_letter Or b = tt
good_letter And b = tt

good_words : (o : Operator) (a : Sort) (la : Bool) (b : Sort) (lb : Bool) → IfPair a b (word_operation o a la b lb)
unfolding word_operation
good_words o (Number a) la (Number b) lb = paired (Number a) (Number b) (arithmetic o (meet a la b lb)) tt tt
    (good_arithmetic o (meet a la b lb) (met a la b lb))
good_words o (Number a) la (LongNumber b) lb = tt
good_words o (Number a) la Letter lb = tt
good_words o (Number a) la Truth lb = tt
good_words o (Number a) la Other lb = tt
good_words o (LongNumber a) la b lb = tt
good_words o Letter la b lb = good_letter o b
good_words o Truth la b lb = tt
good_words o Other la b lb = tt

-- ---- LONG operations

-- what makes an operand LONG takes what the operand is; only a literal of one word takes the type of the other operand
abbrev pub FitsSort : Fit → Sort → Bool → Type 0
FitsSort AsLiteral (Number b) true = Unit {0}
FitsSort AsLiteral _ l = ⊥
FitsSort (By c) a l = sound.Converts c (kind_by a) t.Longs

-- a literal that takes a LONG type has one word more
abbrev pub extra : Fit → ℕ
extra AsLiteral = 1
extra (By c) = 0

pub record LongMet (a : Sort) (la : Bool) (b : Sort) (lb : Bool) (m : LongMeeting) : Type 0 where
  pub left_number : IsNumber a
  pub right_number : IsNumber b
  pub left : FitsSort m.left a la
  pub right : FitsSort m.right b lb
  pub words : extra m.left + extra m.right ≤ longer a la b lb
  pub right_words : extra m.right ≤ longer a false b lb

abbrev IfLongMet : Sort → Bool → Sort → Bool → Option LongMeeting → Type 0
IfLongMet a la b lb None = Unit {0}
IfLongMet a la b lb (Some m) = LongMet a la b lb m

widened_in : (b to : Base) → sound.Converts (Widened b to) t.Ordinal t.Longs
unfolding sound.Converts
widened_in b to = (refl, refl)

crossing_in : (l : Bool) (b to : Base) → sound.Converts (crossing_of l b to) t.Longs t.Longs
unfolding sound.Converts
crossing_in true b to = (refl, refl)
crossing_in false Signed Signed = (refl, refl)
crossing_in false Unsigned Unsigned = (refl, refl)
crossing_in false Signed Unsigned = (refl, refl)
crossing_in false Unsigned Signed = (refl, refl)

fit_in : (to : Base) (a : Sort) (l : Bool) → IsNumber a → FitsSort (fit_of to a l) a l
fit_in to (Number b) true h = tt
fit_in to (Number b) false h = widened_in b to
fit_in to (LongNumber b) l h = crossing_in l b to
fit_in to Letter l h = absurd h
fit_in to Truth l h = absurd h
fit_in to Other l h = absurd h

both_long : (a : Base) (la : Bool) (b : Base) (lb : Bool) (o : Option Base) → IfLongMet (LongNumber a) la (LongNumber b) lb (long_meeting (LongNumber a) la (LongNumber b) lb o)
both_long a la b lb None = tt
both_long a la b lb (Some to) = record {
  left_number = tt;
  right_number = tt;
  left = fit_in to (LongNumber a) la tt;
  right = fit_in to (LongNumber b) lb tt;
  words = omega arith;
  right_words = omega arith;
}

long_met : (a : Sort) (la : Bool) (b : Sort) (lb : Bool) → IfLongMet a la b lb (meet_long a la b lb)
unfolding meet_long
long_met (Number a) true (Number b) lb = tt
long_met (Number a) false (Number b) lb = tt
long_met (Number a) true (LongNumber b) lb = record {
  left_number = tt;
  right_number = tt;
  left = tt;
  right = fit_in b (LongNumber b) lb tt;
  words = omega arith;
  right_words = omega arith;
}
long_met (Number a) false (LongNumber b) lb = record {
  left_number = tt;
  right_number = tt;
  left = widened_in a (either_signed a b);
  right = fit_in (either_signed a b) (LongNumber b) lb tt;
  words = omega arith;
  right_words = omega arith;
}
long_met (Number a) true Letter lb = tt
long_met (Number a) true Truth lb = tt
long_met (Number a) true Other lb = tt
long_met (Number a) false Letter lb = tt
long_met (Number a) false Truth lb = tt
long_met (Number a) false Other lb = tt
long_met (LongNumber a) la (Number b) true = record {
  left_number = tt;
  right_number = tt;
  left = fit_in a (LongNumber a) la tt;
  right = tt;
  words = omega arith;
  right_words = omega arith;
}
long_met (LongNumber a) la (Number b) false = record {
  left_number = tt;
  right_number = tt;
  left = fit_in (either_signed a b) (LongNumber a) la tt;
  right = widened_in b (either_signed a b);
  words = omega arith;
  right_words = omega arith;
}
long_met (LongNumber a) la (LongNumber b) lb = both_long a la b lb (long_base (LongNumber a) la (LongNumber b) lb)
long_met (LongNumber Signed) true Letter lb = tt
long_met (LongNumber Signed) false Letter lb = tt
long_met (LongNumber Unsigned) la Letter lb = tt
long_met (LongNumber Signed) true Truth lb = tt
long_met (LongNumber Signed) false Truth lb = tt
long_met (LongNumber Unsigned) la Truth lb = tt
long_met (LongNumber Signed) true Other lb = tt
long_met (LongNumber Signed) false Other lb = tt
long_met (LongNumber Unsigned) la Other lb = tt
long_met Letter la b lb = tt
long_met Truth la b lb = tt
long_met Other la b lb = tt

pub long_met_in : (a : Sort) (la : Bool) (b : Sort) (lb : Bool) (m : LongMeeting) → meet_long a la b lb ≡ Some m → LongMet a la b lb m
long_met_in a la b lb m e = by (meet_long a la b lb) (long_met a la b lb) e
  where
    same_one : (x y : LongMeeting) → Some x ≡ Some y → x ≡ y
    same_one x y e = cc

    by : (o : Option LongMeeting) → IfLongMet a la b lb o → o ≡ Some m → LongMet a la b lb m
    by None h e = none_is_no m e
    by (Some y) h e = subst (LongMet a la b lb) (same_one y m e) h

pub record GoodLongs (a : Sort) (la : Bool) (b : Sort) (lb : Bool) (x : LongApplied) : Type 0 where
  pub met : LongMet a la b lb (record { base = Signed; left = x.left; right = x.right })
  pub on_numbers : sound.IsOnNumbers x.operator
  pub long : kind_of x.kind ≡ t.Longs
  pub kind : TypeIn x.kind

abbrev IfGoodLongs : Sort → Bool → Sort → Bool → Option LongApplied → Type 0
IfGoodLongs a la b lb None = Unit {0}
IfGoodLongs a la b lb (Some x) = GoodLongs a la b lb x

pub long_type_kind : (b : Base) → kind_of (long_type b) ≡ t.Longs
unfolding kind_of
long_type_kind Signed = refl
long_type_kind Unsigned = refl

pub long_type_in : (b : Base) → TypeIn (long_type b)
unfolding TypeIn
long_type_in Signed = tt
long_type_in Unsigned = tt

on_longs_in : (a : Sort) (la : Bool) (b : Sort) (lb : Bool) (o : t.Operator) (m : LongMeeting) → sound.IsOnNumbers o → LongMet a la b lb m
    → IfGoodLongs a la b lb (on_longs o m)
on_longs_in a la b lb o m i h = record {
  met = record { left_number = h.left_number; right_number = h.right_number; left = h.left; right = h.right; words = h.words; right_words = h.right_words };
  on_numbers = i;
  long = long_type_kind m.base;
  kind = long_type_in m.base;
}

good_longs : (a : Sort) (la : Bool) (b : Sort) (lb : Bool) (o : Operator) (m : Option LongMeeting) → IfLongMet a la b lb m
    → IfGoodLongs a la b lb (long_arithmetic o m)
unfolding sound.IsOnNumbers
good_longs a la b lb Add (Some m) h = on_longs_in a la b lb t.Add m tt h
good_longs a la b lb Subtract (Some m) h = on_longs_in a la b lb t.Subtract m tt h
good_longs a la b lb Multiply (Some m) h = on_longs_in a la b lb t.Multiply m tt h
good_longs a la b lb Divide (Some m) h = on_longs_in a la b lb (t.Divide m.base) m tt h
good_longs a la b lb Modulo (Some m) h = on_longs_in a la b lb (t.Modulo m.base) m tt h
good_longs a la b lb Or m h = tt
good_longs a la b lb And m h = tt
good_longs a la b lb Add None h = tt
good_longs a la b lb Subtract None h = tt
good_longs a la b lb Multiply None h = tt
good_longs a la b lb Divide None h = tt
good_longs a la b lb Modulo None h = tt

-- over words, or over LONG numbers
abbrev pub GoodFor : Sort → Bool → Sort → Bool → Application → Type 0
GoodFor a la b lb (OfWords x) = GoodPair a b x
GoodFor a la b lb (OfLongs x) = GoodLongs a la b lb x

abbrev IfGoodFor : Sort → Bool → Sort → Bool → Option Application → Type 0
IfGoodFor a la b lb None = Unit {0}
IfGoodFor a la b lb (Some x) = GoodFor a la b lb x

good_lengths : (a : Sort) (la : Bool) (b : Sort) (lb : Bool) (p : Option LongApplied) (q : Option Applied) → IfGoodLongs a la b lb p → IfPair a b q
    → IfGoodFor a la b lb (by_length p q)
good_lengths a la b lb (Some x) q h k = h
good_lengths a la b lb None (Some x) h k = k
good_lengths a la b lb None None h k = tt

pub operation_in : (o : Operator) (a : Sort) (la : Bool) (b : Sort) (lb : Bool) (x : Application) → operation o a la b lb ≡ Some x → GoodFor a la b lb x
unfolding operation
operation_in o a la b lb x e =
    by (operation o a la b lb) (good_lengths a la b lb (long_arithmetic o (meet_long a la b lb)) (word_operation o a la b lb)
    (good_longs a la b lb o (meet_long a la b lb) (long_met a la b lb)) (good_words o a la b lb)) e
  where
    same_one : (x y : Application) → Some x ≡ Some y → x ≡ y
    same_one x y e = cc

    by : (p : Option Application) → IfGoodFor a la b lb p → p ≡ Some x → GoodFor a la b lb x
    by None h e = none_is_no x e
    by (Some y) h e = subst (GoodFor a la b lb) (same_one y x e) h

-- two operands of a relation
pub record Relates (a b : PlainType) (m : Meeting) : Type 0 where
  pub left : kind_of a ≡ t.Ordinal
  pub right : kind_of b ≡ t.Ordinal
  pub met : Met m
  pub numbers : IsNumber (sort_of a) → IsNumber (sort_of b)

abbrev IfRelates : PlainType → PlainType → Option Meeting → Type 0
IfRelates a b None = Unit {0}
IfRelates a b (Some m) = Relates a b m

-- no LONG sort
abbrev pub IsShort : Sort → Type 0
IsShort (LongNumber b) = ⊥
IsShort _ = Unit {0}

short_base : (b : PlainType) → IsShort (sort_of_base (Some b)) → is_long b ≡ false
short_base v.Integer h = refl
short_base v.Cardinal h = refl
short_base v.LongInteger h = absurd h
short_base v.LongCardinal h = absurd h
short_base v.Boolean h = refl
short_base v.Character h = refl
short_base v.String h = refl
short_base (v.Enumeration o xs) h = refl
short_base (v.Subrange k m n) h = refl
short_base (v.Array i k) h = refl
short_base (v.Record o ps) h = refl

one_base_relates : (a b : PlainType) (i j : Option PlainType) → base_of a ≡ i → base_of b ≡ j → IsShort (sort_of_base i) → IsShort (sort_of_base j)
    → IfRelates a b (of_one_base i j)
unfolding sort_of
one_base_relates a b (Some i) (Some j) e d h k = by (same i j) refl
  where
    by : (s : Bool) → same i j ≡ s → IfRelates a b (if s then Some (record { base = Unsigned; left = Every; right = Every }) else None)
    by true q = record {
      left = word_kind a i (short_base i h) e;
      right = word_kind b j (short_base j k) d;
      met = record { left = every_word; right = every_word };
      numbers = λ n. subst IsNumber (ap sort_of_base (e ∙ (ap Some (types_same i j q) ∙ sym d))) n;
    }
    by false q = tt
one_base_relates a b None j e d h k = tt
one_base_relates a b (Some i) None e d h k = tt

by_sorts : (a b : PlainType) (i j : Sort) (la lb : Bool) (o : Option Meeting) → (IsWord i → kind_of a ≡ t.Ordinal) → (IsWord j → kind_of b ≡ t.Ordinal)
    → (IsNumber j → IsNumber (sort_of b)) → (IsShort i → IsShort j → IfRelates a b o) → IfRelates a b (related_by i la j lb o)
by_sorts a b (Number i) (Number j) la lb o h k n r = record { left = h tt; right = k tt; met = met i la j lb; numbers = λ u. n tt }
by_sorts a b (Number i) (LongNumber j) la lb o h k n r = tt
by_sorts a b (Number i) Letter la lb o h k n r = r tt tt
by_sorts a b (Number i) Truth la lb o h k n r = r tt tt
by_sorts a b (Number i) Other la lb o h k n r = r tt tt
by_sorts a b (LongNumber i) j la lb o h k n r = tt
by_sorts a b Letter (LongNumber j) la lb o h k n r = tt
by_sorts a b Letter (Number j) la lb o h k n r = r tt tt
by_sorts a b Letter Letter la lb o h k n r = r tt tt
by_sorts a b Letter Truth la lb o h k n r = r tt tt
by_sorts a b Letter Other la lb o h k n r = r tt tt
by_sorts a b Truth (LongNumber j) la lb o h k n r = tt
by_sorts a b Truth (Number j) la lb o h k n r = r tt tt
by_sorts a b Truth Letter la lb o h k n r = r tt tt
by_sorts a b Truth Truth la lb o h k n r = r tt tt
by_sorts a b Truth Other la lb o h k n r = r tt tt
by_sorts a b Other (LongNumber j) la lb o h k n r = tt
by_sorts a b Other (Number j) la lb o h k n r = r tt tt
by_sorts a b Other Letter la lb o h k n r = r tt tt
by_sorts a b Other Truth la lb o h k n r = r tt tt
by_sorts a b Other Other la lb o h k n r = r tt tt

pub related_in : (a b : PlainType) (la lb : Bool) (m : Meeting) → related a la b lb ≡ Some m → Relates a b m
unfolding related sort_of
related_in a b la lb m e =
    by (related_by (sort_of a) la (sort_of b) lb (of_one_base (base_of a) (base_of b)))
    (by_sorts a b (sort_of a) (sort_of b) la lb (of_one_base (base_of a) (base_of b)) (word_sort a) (word_sort b) (λ n. n)
    (one_base_relates a b (base_of a) (base_of b) refl refl)) e
  where
    same_one : (x y : Meeting) → Some x ≡ Some y → x ≡ y
    same_one x y e = cc

    by : (o : Option Meeting) → IfRelates a b o → o ≡ Some m → Relates a b m
    by None h e = none_is_no m e
    by (Some y) h e = subst (Relates a b) (same_one y m e) h

-- of words, or of numbers that are made LONG
abbrev pub RelatesFor : PlainType → Bool → PlainType → Bool → Relating → Type 0
RelatesFor a la b lb (Words m) = Relates a b m
RelatesFor a la b lb (Longs m) = LongMet (sort_of a) la (sort_of b) lb m

pub relating_in : (a b : PlainType) (la lb : Bool) (x : Relating) → relating a la b lb ≡ Some x → RelatesFor a la b lb x
unfolding relating
relating_in a b la lb x e = by (meet_long (sort_of a) la (sort_of b) lb) (related a la b lb) (long_met_in (sort_of a) la (sort_of b) lb)
    (related_in a b la lb) e
  where
    same_one : (x y : Relating) → Some x ≡ Some y → x ≡ y
    same_one x y e = cc

    by : (p : Option LongMeeting) (q : Option Meeting) → ((m : LongMeeting) → p ≡ Some m → LongMet (sort_of a) la (sort_of b) lb m)
        → ((m : Meeting) → q ≡ Some m → Relates a b m) → relating_by p q ≡ Some x → RelatesFor a la b lb x
    by (Some m) q h k e = subst (RelatesFor a la b lb) (same_one (Longs m) x e) (h m refl)
    by None (Some m) h k e = subst (RelatesFor a la b lb) (same_one (Words m) x e) (k m refl)
    by None None h k e = none_is_no x e

-- what is a number and not LONG is a word
number_base : (o : Option PlainType) → IsNumber (sort_of_base o) → is_some o ≡ true
number_base (Some b) h = refl
number_base None h = absurd h

pub numbers_word : (k : PlainType) → IsNumber (sort_of k) → is_long k ≡ false → kind_of k ≡ t.Ordinal
unfolding sort_of
numbers_word k h f = some_base k (number_base (base_of k) h) f

pub left_word : (a b : PlainType) (la lb : Bool) (x : Relating) → RelatesFor a la b lb x → is_long a ≡ false → kind_of a ≡ t.Ordinal
left_word a b la lb (Words m) r f = r.left
left_word a b la lb (Longs m) r f = numbers_word a r.left_number f

pub right_word : (a b : PlainType) (la lb : Bool) (x : Relating) → RelatesFor a la b lb x → is_long b ≡ false → kind_of b ≡ t.Ordinal
right_word a b la lb (Words m) r f = r.right
right_word a b la lb (Longs m) r f = numbers_word b r.right_number f

-- three that are related, of which one is LONG, are numbers
pub record ThreeNumbers (a b c : PlainType) : Type 0 where
  pub number : IsNumber (sort_of a)
  pub first : IsNumber (sort_of b)
  pub last : IsNumber (sort_of c)

no_word : {A : Type 0} (k : PlainType) → kind_of k ≡ t.Ordinal → is_long k ≡ true → A
no_word k d f = absurd (apart (sym d ∙ long_kind k f))
  where
    apart : t.Ordinal ≡ t.Longs → ⊥
    apart e = cc

pub three_numbers : (a b c : PlainType) (la lb lc : Bool) (x y : Relating) → RelatesFor a la b lb x → RelatesFor a la c lc y
    → (is_long a || (is_long b || is_long c)) ≡ true → ThreeNumbers a b c
three_numbers a b c la lb lc (Longs x) (Longs y) r q e = record { number = r.left_number; first = r.right_number; last = q.right_number }
three_numbers a b c la lb lc (Longs x) (Words y) r q e = record { number = r.left_number; first = r.right_number; last = q.numbers r.left_number }
three_numbers a b c la lb lc (Words x) (Longs y) r q e = record { number = q.left_number; first = r.numbers q.left_number; last = q.right_number }
three_numbers a b c la lb lc (Words x) (Words y) r q e = by (one_of (is_long a) (is_long b || is_long c) e)
  where
    by : (is_long a ≡ true) ⊎ ((is_long b || is_long c) ≡ true) → ThreeNumbers a b c
    by (inl h) = no_word a r.left h
    by (inr h) = next (one_of (is_long b) (is_long c) h)
      where
        next : (is_long b ≡ true) ⊎ (is_long c ≡ true) → ThreeNumbers a b c
        next (inl h) = no_word b r.right h
        next (inr h) = no_word c q.right h

-- a selector is made LONG for each test
pub selecting_in : (to : Base) (a : Sort) (l : Bool) → IsNumber a → sound.Converts (selecting to a l) (kind_by a) t.Longs
selecting_in to (Number b) true h = widened_in Unsigned to
selecting_in to (Number b) false h = widened_in b to
selecting_in to (LongNumber b) l h = crossing_in l b to
selecting_in to Letter l h = absurd h
selecting_in to Truth l h = absurd h
selecting_in to Other l h = absurd h

pub selecting_itself_in : (a : Sort) → IsNumber a → sound.Converts (selecting_itself a) (kind_by a) t.Longs
unfolding sound.Converts
selecting_itself_in (Number b) h = (refl, refl)
selecting_itself_in (LongNumber b) h = (refl, refl)
selecting_itself_in Letter h = absurd h
selecting_itself_in Truth h = absurd h
selecting_itself_in Other h = absurd h

-- IN makes a number LONG by its own base
pub itself_in : (a : Sort) (l : Bool) → IsNumber a → FitsSort (by_itself a l) a l
unfolding sound.Converts
itself_in (Number b) true h = tt
itself_in (Number b) false h = widened_in b b
itself_in (LongNumber b) l h = (refl, refl)
itself_in Letter l h = absurd h
itself_in Truth l h = absurd h
itself_in Other l h = absurd h

-- a word's sort is that of no LONG type
pub short_sort : (k : PlainType) → IsWord (sort_of k) → is_long k ≡ false
unfolding sort_of base_of
short_sort v.Integer h = refl
short_sort v.Cardinal h = refl
short_sort v.LongInteger h = absurd h
short_sort v.LongCardinal h = absurd h
short_sort v.Boolean h = refl
short_sort v.Character h = refl
short_sort v.String h = refl
short_sort (v.Enumeration o xs) h = refl
short_sort (v.Subrange k m n) h = refl
short_sort (v.Array i k) h = refl
short_sort (v.Record o ps) h = refl
