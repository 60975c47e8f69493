-- The value of a sound constant is a word, or a LONG number, as its kind says.
use Rattle.std.proofs.Common.{◌≡◌, ℕ, zero, suc, ◌+◌, refl, sym, subst, arith}
use Rattle.std.specs.Prelude.{◌≤◌, ◌<◌, ◌/◌, ◌%◌, ◌-◌, ◌*◌, Bool, true, false, ◌&&◌, not, nat_le, nat_lt, if◌then◌else◌, Option, Some, None}
use Rattle.std.proofs.Math.Nat.{mod-lt, mod-le, div-le_self}
use Rattle.std.proofs.lemmas.Bool.{leb-true, ltb-true, lt-ltb}
use Rattle.interface_records.specs.PlainTypes as v
use Rattle.interface_records.specs.PlainTypes.{PlainType, kind_of, is_long}
use Rattle.check_rules.proofs.SoundTypes.{no_lie, both_right}
use Rattle.mesa_types.specs.Sound as sound
use Rattle.mesa_types.specs.Shapes.{one}
use Rattle.check_rules.specs.Typed as t
use Rattle.mesa_types.specs.Constants.{as_word, converted_constant, constant, constant_run, constant_long_run, all_true, some_true, fine, ◌>>=◌}
use Rattle.mesa_types.specs.Operators.{Tried, Fine, Faulty, opposite, truth, is_true, related, lies_in, checked, tried, wrap, fine_if, fits, by_divisor, quotient, remainder, magnitude, magnitude_if, is_negative, with_sign, character, shifted}
use Rattle.mesa_types.specs.Longs.{less_of, opposite_long, related_long, lies_in_long, tried_long, extended_if, extended, is_in_common, widened, narrowed, on_fine, converted}
use Rattle.mesa_types.proofs.LongLaws.{less_small, wrap_long_small, FineBelow, tried_long_small}
use Rattle.check_rules.specs.Interfaces.{ConstantFits}
use Rattle.mesa_types.specs.declared.typed_parts.Operator.{Operator}

abbrev IsWord : Option ℕ → Type 0
IsWord None = Unit {0}
IsWord (Some n) = n < 65536

and_so : {A : Type 0} (P : A → Type 0) (o : Option A) (k : A → Option ℕ) → ((a : A) → P a → IsWord (k a)) → ((a : A) → o ≡ Some a → P a) → IsWord (o >>= k)
and_so P None k h i = tt
and_so P (Some a) k h i = h a (i a refl)

pub wrapped : (n : ℕ) → wrap n < 65536
unfolding wrap
wrapped n = mod-lt n (omega arith)

pub truth_word : (b : Bool) → truth b < 65536
unfolding truth
truth_word true = omega arith
truth_word false = omega arith

abbrev pub IsFineWord : Tried → Type 0
IsFineWord (Fine n) = n < 65536
IsFineWord (Faulty f) = Unit {0}

fine_word : (x : Tried) → IsFineWord x → IsWord (fine x)
fine_word (Fine n) h = h
fine_word (Faulty f) h = tt

fine_if_word : (b : Bool) (n : ℕ) → (b ≡ true → n < 65536) → IsFineWord (fine_if b n)
unfolding fine_if
fine_if_word true n h = h refl
fine_if_word false n h = tt

checked_word : (r : t.Range) (n : ℕ) → n < 65536 → IsFineWord (checked r n)
unfolding checked
checked_word r n h = fine_if_word (fits r n) n (λ e. h)

opposite_word : (n : ℕ) → opposite n < 65536
unfolding opposite
opposite_word n = wrapped (65536 - n)

signed_word : (b : Bool) (n : ℕ) → n < 65536 → with_sign b n < 65536
unfolding with_sign
signed_word true n h = opposite_word n
signed_word false n h = h

size_word : (n : ℕ) → n < 65536 → magnitude n < 65536
unfolding magnitude is_negative magnitude_if
size_word n h = by (nat_le 32768 n) refl
  where
    by : (b : Bool) → nat_le 32768 n ≡ b → magnitude_if b n < 65536
    by true e = let small : 32768 ≤ n = leb-true 32768 n e in omega (arith, small)
    by false e = h

quotient_word : (b : t.Base) (x y : ℕ) → x < 65536 → quotient b x y < 65536
unfolding quotient
quotient_word t.Unsigned x y h = omega (arith, h, div-le_self x y)
quotient_word t.Signed x y h = signed_word _ (magnitude x / magnitude y) (omega (arith, size_word x h, div-le_self (magnitude x) (magnitude y)))

remainder_word : (b : t.Base) (x y : ℕ) → x < 65536 → remainder b x y < 65536
unfolding remainder
remainder_word t.Unsigned x y h = omega (arith, h, mod-le x y)
remainder_word t.Signed x y h = signed_word _ (magnitude x % magnitude y) (omega (arith, size_word x h, mod-le (magnitude x) (magnitude y)))

by_divisor_word : (y n : ℕ) → n < 65536 → IsFineWord (by_divisor y n)
unfolding by_divisor
by_divisor_word zero n h = tt
by_divisor_word (suc y) n h = h

character_word : (n : ℕ) → IsFineWord (character n)
unfolding character
character_word n = fine_if_word (nat_le 32768 n && nat_lt n 33024) (n - 32768) (λ e. let small : n < 33024 = leb-true (suc n) 33024
    (both_right (nat_le 32768 n) (nat_lt n 33024) e) in omega (arith, small))

pub tried_word : (o : Operator) (x y : ℕ) → x < 65536 → IsFineWord (tried o x y)
unfolding tried
tried_word t.Add x y h = wrapped (x + y)
tried_word t.Subtract x y h = wrapped (x + (65536 - y))
tried_word t.Multiply x y h = wrapped (x * y)
tried_word (t.Divide b) x y h = by_divisor_word y (quotient b x y) (quotient_word b x y h)
tried_word (t.Modulo b) x y h = by_divisor_word y (remainder b x y) (remainder_word b x y h)
tried_word (t.AddToCharacter b) x y h = character_word (x + shifted b y)
tried_word (t.SubtractFromCharacter b) x y h = character_word (x + 65536 - shifted b y)

if_word : (o : Option ℕ) (n : ℕ) → o ≡ Some n → IsWord o → n < 65536
if_word o n e h = subst IsWord e h

truths : (o : Option Bool) → IsWord (o >>= λ b. Some (truth b))
truths (Some b) = truth_word b
truths None = tt

-- ---- LONG numbers

extended_if_small : (b : Bool) (w : ℕ) → w < 65536 → extended_if b w < 4294967296
unfolding extended_if
extended_if_small true w h = omega arith
extended_if_small false w h = omega arith

extended_small : (b : t.Base) (w : ℕ) → w < 65536 → extended b w < 4294967296
unfolding extended
extended_small t.Signed w h = extended_if_small (is_negative w) w h
extended_small t.Unsigned w h = omega arith

fine_if_below : (bound : ℕ) (b : Bool) (n : ℕ) → n < bound → FineBelow bound (fine_if b n)
unfolding fine_if FineBelow
fine_if_below bound true n h = h
fine_if_below bound false n h = tt

pub widened_small : (from to : t.Base) (w : ℕ) → w < 65536 → FineBelow 4294967296 (widened from to w)
unfolding widened FineBelow
widened_small t.Signed t.Unsigned w h = fine_if_below 4294967296 _ (extended t.Signed w) (extended_small t.Signed w h)
widened_small t.Signed t.Signed w h = extended_small t.Signed w h
widened_small t.Unsigned to w h = extended_small t.Unsigned w h

-- what is checked after it was made a word
narrowed_small : (x : Tried) (r : t.Range) → FineBelow 65536 x → FineBelow 65536 (on_fine x (checked r))
unfolding on_fine FineBelow checked
narrowed_small (Fine n) r h = fine_if_below 65536 (fits r n) n h
narrowed_small (Faulty f) r h = tt

-- a value of a kind
abbrev IsValue : t.Kind → Option ℕ → Type 0
IsValue k None = Unit {0}
IsValue k (Some n) = ConstantFits k n

-- a word is a value of one word
pub word_fits : (k : t.Kind) (n : ℕ) → k ≡ t.Ordinal → n < 65536 → ConstantFits k n
unfolding ConstantFits
word_fits k n e h = subst (λ j. ConstantFits j n) (sym e) (fits_word n h)
  where
    fits_word : (n : ℕ) → n < 65536 → ConstantFits t.Ordinal n
    fits_word n h = h

word_is_value : (k : t.Kind) (o : Option ℕ) → k ≡ t.Ordinal → IsWord o → IsValue k o
word_is_value k None e h = tt
word_is_value k (Some n) e h = word_fits k n e h

abbrev IsLong : Option ℕ → Type 0
IsLong None = Unit {0}
IsLong (Some n) = n < 4294967296

long_is_value : (k : t.Kind) (o : Option ℕ) → k ≡ t.Longs → IsLong o → IsValue k o
unfolding ConstantFits
long_is_value k None e h = tt
long_is_value k (Some n) e h = subst (λ j. ConstantFits j n) (sym e) (fits_long n h)
  where
    fits_long : (n : ℕ) → n < 4294967296 → ConstantFits t.Longs n
    fits_long n h = h

pub value_is_word : (k : t.Kind) (n : ℕ) → k ≡ t.Ordinal → ConstantFits k n → n < 65536
unfolding ConstantFits
value_is_word k n e h = as_is (subst (λ j. ConstantFits j n) e h)
  where
    as_is : ConstantFits t.Ordinal n → n < 65536
    as_is h = h

pub value_is_long : (k : t.Kind) (n : ℕ) → k ≡ t.Longs → ConstantFits k n → n < 4294967296
unfolding ConstantFits
value_is_long k n e h = as_is (subst (λ j. ConstantFits j n) e h)
  where
    as_is : ConstantFits t.Longs n → n < 4294967296
    as_is h = h

-- a constant of a type that is not LONG is a word
pub constant_kind : (k : PlainType) (n : ℕ) → ConstantFits (kind_of k) n → is_long k ≡ false → kind_of k ≡ t.Ordinal
unfolding ConstantFits kind_of
constant_kind v.Integer n h f = refl
constant_kind v.Cardinal n h f = refl
constant_kind v.LongInteger n h f = no_lie f
constant_kind v.LongCardinal n h f = no_lie f
constant_kind v.Boolean n h f = refl
constant_kind v.Character n h f = refl
constant_kind v.String n h f = absurd h
constant_kind (v.Enumeration o xs) n h f = refl
constant_kind (v.Subrange k x y) n h f = refl
constant_kind (v.Array i k) n h f = absurd h
constant_kind (v.Record o ps) n h f = absurd h

kind_of_one : (j k : t.Kind) → one j ≡ one k → j ≡ k
unfolding one
kind_of_one j k e = cc

word_of_one : (k : t.Kind) → one k ≡ sound.a_word → k ≡ t.Ordinal
unfolding sound.a_word
word_of_one k e = kind_of_one k t.Ordinal e

long_of_one : (k : t.Kind) → one k ≡ sound.a_long → k ≡ t.Longs
unfolding sound.a_long
long_of_one k e = kind_of_one k t.Longs e

fine_below : (bound : ℕ) (x : Tried) (P : Option ℕ → Type 0) → P None → ((n : ℕ) → n < bound → P (Some n)) → FineBelow bound x → P (fine x)
unfolding FineBelow
fine_below bound (Fine n) P none some h = some n h
fine_below bound (Faulty f) P none some h = none

fine_long : (x : Tried) → FineBelow 4294967296 x → IsLong (fine x)
fine_long x h = fine_below 4294967296 x IsLong tt (λ n h. h) h

converted_is : (c : t.Conversion) (i k : t.Kind) (n : ℕ) → sound.IsConversion c → sound.Converts c i k → ConstantFits i n → IsValue k (fine (converted c n))
unfolding sound.IsConversion sound.Converts converted narrowed
converted_is t.Kept i k n c h f = absurd c
converted_is (t.Widened from to) i k n c h f =
    long_is_value k _ h.1 (fine_long (widened from to n) (widened_small from to n (value_is_word i n h.0 f)))
converted_is (t.Narrowed from to r) i k n c h f =
    word_is_value k _ h.2 (fine_below 65536 (on_fine (narrowed from to n) (checked r)) IsWord tt (λ n h. h) (narrowed_small (narrowed from to n) r (cut from to n)))
  where
    cut : (from to : t.Base) (n : ℕ) → FineBelow 65536 (narrowed from to n)
    cut from to n = fine_if_below 65536 _ (less_of n) (less_small n)
converted_is t.InCommon i k n c h f = long_is_value k _ h.1 (fine_long (fine_if (is_in_common n) n) (fine_if_below 4294967296 (is_in_common n) n (value_is_long i n h.0 f)))

-- an operand on words has a value that is a word
word_value : (o : Option ℕ) (x : ℕ) → o >>= as_word ≡ Some x → x < 65536
word_value None x e = absurd (cc)
word_value (Some n) x e = by (nat_lt n 65536) refl e
  where
    by : (b : Bool) → nat_lt n 65536 ≡ b → (if b then Some n else None) ≡ Some x → x < 65536
    by true h d =
        let small : n < 65536 = ltb-true n 65536 h in
        let same : n ≡ x = cc in
        omega arith
    by false h d = absurd (cc)

as_word_is : (n : ℕ) → n < 65536 → as_word n ≡ Some n
as_word_is n h = rw (lt-ltb n 65536 h) refl

converted_value : (c : t.Conversion) (i k : t.Kind) (n : ℕ) → sound.IsConversion c → sound.Converts c i k → ConstantFits i n → IsValue k (converted_constant c n)
unfolding sound.Converts
converted_value t.Kept i k n c h f = converted_is t.Kept i k n c h f
converted_value (t.Widened from to) i k n c h f =
    subst (λ o. IsValue k (o >>= λ w. fine (converted (t.Widened from to) w))) (sym (as_word_is n (value_is_word i n (from_word h) f)))
    (converted_is (t.Widened from to) i k n c h f)
  where
    from_word : sound.Converts (t.Widened from to) i k → i ≡ t.Ordinal
    from_word h = h.0
converted_value (t.Narrowed from to r) i k n c h f = converted_is (t.Narrowed from to r) i k n c h f
converted_value t.InCommon i k n c h f = converted_is t.InCommon i k n c h f

for_long : {A : Type 0} (P : A → Type 0) (o : Option A) (k : A → Option ℕ) → ((a : A) → P a → IsLong (k a)) → ((a : A) → o ≡ Some a → P a) → IsLong (o >>= k)
for_long P None k h i = tt
for_long P (Some a) k h i = h a (i a refl)

if_long : (o : Option ℕ) (n : ℕ) → o ≡ Some n → IsLong o → n < 4294967296
if_long o n e h = subst IsLong e h

opposite_small : (n : ℕ) → opposite_long n < 4294967296
unfolding opposite_long
opposite_small n = wrap_long_small (4294967296 - n)

for_value : {A : Type 0} (j : t.Kind) (P : A → Type 0) (o : Option A) (k : A → Option ℕ) → ((a : A) → P a → IsValue j (k a)) → ((a : A) → o ≡ Some a → P a)
    → IsValue j (o >>= k)
for_value j P None k h i = tt
for_value j P (Some a) k h i = h a (i a refl)

if_value : (k : t.Kind) (o : Option ℕ) (n : ℕ) → o ≡ Some n → IsValue k o → ConstantFits k n
if_value k o n e h = subst (IsValue k) e h

module _ (Γ : sound.Scope) where
  mutual
    unfolding constant constant_run constant_long_run sound.ExprIn sound.a_word sound.a_long

    values : (e : t.Expr) (k : t.Kind) → sound.ExprIn Γ e (one k) → IsValue k (constant e)
    values (t.Number n) k h = word_is_value k (Some n) (word_of_one k h.1) h.0
    values (t.LongNumber n) k h = long_is_value k (Some n) (long_of_one k h.1) h.0
    values (t.Checked r e) k h = word_is_value k _ (word_of_one k h.2) (and_so (λ x. x < 65536) (constant e >>= as_word) (λ x. fine (checked r x))
        (λ x i. fine_word (checked r x) (checked_word r x i)) (λ x d. word_value (constant e) x d))
    values (t.Converted c e) k h = for_value k (λ x. ConstantFits h.1 x) (constant e) (converted_constant c)
        (λ x i. converted_value c h.1 k x h.0 (subst (sound.Converts c h.1) (sym (kind_of_one k h.2 h.5)) h.3) i) (λ x d. if_value h.1 (constant e) x d (values e h.1 h.4))
    values (t.Operate e os) k h = word_is_value k _ (word_of_one k h.2) (and_so (λ x. x < 65536) (constant e >>= as_word) (constant_run os) (λ x i. run_words os x h.1 i)
        (λ x d. word_value (constant e) x d))
    values (t.OperateLong e os) k h = long_is_value k _ (long_of_one k h.2) (for_long (λ x. x < 4294967296) (constant e) (constant_long_run os)
        (λ x i. run_longs os x h.1 i) (λ x d. value_is_long t.Longs x refl (if_value t.Longs (constant e) x d (values e t.Longs h.0))))
    values (t.Negate e) k h = word_is_value k _ (word_of_one k h.1) (and_so (λ x. Unit {0}) (constant e >>= as_word) (λ x. Some (opposite x)) (λ x i. opposite_word x) (λ x d. tt))
    values (t.NegateLong e) k h = long_is_value k _ (long_of_one k h.1) (for_long (λ x. Unit {0}) (constant e) (λ x. Some (opposite_long x)) (λ x i. opposite_small x)
        (λ x d. tt))
    values (t.Relate b o d e) k h = word_is_value k _ (word_of_one k h.2) (and_so (λ x. Unit {0}) (constant d >>= as_word) _
        (λ x i. and_so (λ x. Unit {0}) (constant e >>= as_word) _ (λ y j. truth_word (related o b x y)) (λ x d. tt)) (λ x d. tt))
    values (t.RelateLong b o d e) k h = word_is_value k _ (word_of_one k h.2) (and_so (λ x. Unit {0}) (constant d) _
        (λ x i. and_so (λ x. Unit {0}) (constant e) _ (λ y j. truth_word (related_long o b x y)) (λ x d. tt)) (λ x d. tt))
    values (t.Within b e (t.Between f p g q)) k h = word_is_value k _ (word_of_one k h.2) (and_so (λ x. Unit {0}) (constant e >>= as_word) _
        (λ x i. and_so (λ x. Unit {0}) (constant f >>= as_word) _ (λ y j. and_so (λ x. Unit {0}) (constant g >>= as_word) _ (λ z l. truth_word (lies_in b x p y q z)) (λ x d. tt))
        (λ x d. tt)) (λ x d. tt))
    values (t.WithinLong b e (t.Between f p g q)) k h = word_is_value k _ (word_of_one k h.2) (and_so (λ x. Unit {0}) (constant e) _
        (λ x i. and_so (λ x. Unit {0}) (constant f) _ (λ y j. and_so (λ x. Unit {0}) (constant g) _ (λ z l. truth_word (lies_in_long b x p y q z)) (λ x d. tt))
        (λ x d. tt)) (λ x d. tt))
    values (t.Not e) k h = word_is_value k _ (word_of_one k h.1) (and_so (λ x. Unit {0}) (constant e >>= as_word) _ (λ x i. truth_word (not (is_true x))) (λ x d. tt))
    values (t.AllOf es) k h = word_is_value k _ (word_of_one k h.2) (truths (all_true es))
    values (t.SomeOf es) k h = word_is_value k _ (word_of_one k h.2) (truths (some_true es))
    values (t.Literal n) k h = tt
    values (t.Variable v s w) k h = tt
    values (t.FieldOf e ps) k h = tt
    values (t.LengthOf e) k h = tt
    values (t.ByteOf e i) k h = tt
    values (t.Construct places es) k h = tt
    values (t.Call c places es w ph) k h = tt
    values (t.Raise r places es w ph) k h = tt

    run_words : (os : t.Operations) (x : ℕ) → sound.OperationsIn Γ os → x < 65536 → IsWord (constant_run os x)
    run_words t.NoOperation x h i = i
    run_words (t.Then r o e os) x h i =
        and_so (λ x. x < 65536) (fine (checked r x)) _ (λ x i. and_so (λ y. Unit {0}) (constant e >>= as_word) _
        (λ y j. and_so (λ z. z < 65536) (fine (tried o x y)) _ (λ z k. run_words os z h.2 k)
        (λ z d. if_word (fine (tried o x y)) z d (fine_word (tried o x y) (tried_word o x y i)))) (λ y d. tt))
        (λ y d. if_word (fine (checked r x)) y d (fine_word (checked r x) (checked_word r x i)))

    run_longs : (os : t.Operations) (x : ℕ) → sound.LongOperationsIn Γ os → x < 4294967296 → IsLong (constant_long_run os x)
    run_longs t.NoOperation x h i = i
    run_longs (t.Then r o e os) x h i =
        for_long (λ y. Unit {0}) (constant e) _
        (λ y j. for_long (λ z. z < 4294967296) (fine (tried_long o x y)) _ (λ z k. run_longs os z h.3 k)
        (λ z d. if_long (fine (tried_long o x y)) z d (fine_long (tried_long o x y) (tried_long_small o x y i)))) (λ y d. tt)

pub constant_value_in : (Γ : sound.Scope) (e : t.Expr) (k : t.Kind) (n : ℕ) → sound.ExprIn Γ e (one k) → constant e ≡ Some n → ConstantFits k n
constant_value_in Γ e k n h d = if_value k (constant e) n d (values Γ e k h)
