-- What operators, relations, conversions and intervals make of LONG numbers at their edges. As LONG INTEGER -1 is 4294967295, and
-- -2147483648 is 2147483648; -1 is the word 65535.
use Rattle.std.specs.Prelude.{◌≡◌, refl, ℕ, List, [], ◌∷◌, Bool, true, false}
use Rattle.mesa_types.specs.declared.typed_parts.Base.{Base}
use Rattle.mesa_types.specs.declared.typed_parts.Base.TheVariants.{Signed, Unsigned}
use Rattle.mesa_types.specs.declared.typed_parts.Range.TheVariants.{Every, From}
use Rattle.mesa_types.specs.declared.typed_parts.Operator.{Operator}
use Rattle.mesa_types.specs.declared.typed_parts.Operator.TheVariants.{Add, Subtract, Multiply, Divide, Modulo}
use Rattle.mesa_types.specs.declared.typed_parts.Conversion.{Conversion}
use Rattle.mesa_types.specs.declared.typed_parts.Conversion.TheVariants.{Kept, Widened, Narrowed, InCommon}
use Rattle.mesa_base.specs.declared.relation.Relation.{Relation}
use Rattle.mesa_base.specs.declared.relation.Relation.TheVariants.{Equal, NotEqual, Less, AtMost, Greater, AtLeast}
use Rattle.mesa_types.specs.Operators.{wrap, shifted, is_negative, differ, past, fits, fine_if, checked, by_divisor, OutOfBounds, DividedByZero, Tried, Fine, Faulty}
use Rattle.mesa_types.specs.Longs.{more_of, less_of, two_words, wrap_long, shifted_long, opposite_long, is_negative_long, long_magnitude_if, long_magnitude, with_sign_long, quotient_long, remainder_long, tried_long, related_long, lies_in_long, extended_if, extended, is_in_common, widened, is_word_of, narrowed, on_fine, converted}

of : Operator → ℕ → ℕ → Tried
unfolding differ by_divisor wrap_long opposite_long is_negative_long long_magnitude_if long_magnitude with_sign_long quotient_long remainder_long tried_long
of o x y = tried_long o x y

by : Conversion → ℕ → Tried
unfolding wrap shifted is_negative fits fine_if checked less_of shifted_long extended_if extended is_in_common widened is_word_of narrowed on_fine converted
by c n = converted c n

holds : Relation → Base → ℕ → ℕ → Bool
unfolding shifted_long related_long
holds o b x y = related_long o b x y

words : ℕ → List ℕ
unfolding more_of less_of two_words
words n = two_words n

-- the more significant word is the first
spelled : words 0 ∷ words 65536 ∷ words 2147483648 ∷ words 4294967294 ∷ []
    ≡ (0 ∷ 0 ∷ []) ∷ (1 ∷ 0 ∷ []) ∷ (32768 ∷ 0 ∷ []) ∷ (65535 ∷ 65534 ∷ []) ∷ []
unfolding words
spelled = refl

-- 4294967295 + 1, 2147483647 + 1, 65535 + 1, 0 - 1, -2147483648 - 1, 65535 * 65535, 65536 * 65536, -1 * -1, 100000 * 100000
wraps : of Add 4294967295 1 ∷ of Add 2147483647 1 ∷ of Add 65535 1 ∷ of Subtract 0 1 ∷ of Subtract 2147483648 1 ∷ of Multiply 65535 65535
    ∷ of Multiply 65536 65536 ∷ of Multiply 4294967295 4294967295 ∷ of Multiply 100000 100000 ∷ []
    ≡ Fine 0 ∷ Fine 2147483648 ∷ Fine 65536 ∷ Fine 4294967295 ∷ Fine 2147483647 ∷ Fine 4294836225
    ∷ Fine 0 ∷ Fine 1 ∷ Fine 1410065408 ∷ []
unfolding of
wraps = refl

-- -2147483648 / -1 is -2147483648; -7 / 2 is -3, 7 / -2 is -3, -7 / -2 is 3; the LONG CARDINAL 4294967289 / 2 is 2147483644
quotients : of (Divide Signed) 2147483648 4294967295 ∷ of (Divide Signed) 4294967289 2 ∷ of (Divide Signed) 7 4294967294
    ∷ of (Divide Signed) 4294967289 4294967294 ∷ of (Divide Unsigned) 4294967289 2 ∷ of (Divide Unsigned) 4294967295 65536 ∷ []
    ≡ Fine 2147483648 ∷ Fine 4294967293 ∷ Fine 4294967293 ∷ Fine 3 ∷ Fine 2147483644 ∷ Fine 65535 ∷ []
unfolding of
quotients = refl

-- -7 MOD 3 is -1, 7 MOD -3 is 1, -2147483648 MOD -1 is 0; 4294967289 MOD 10 as a LONG CARDINAL is 9, as a LONG INTEGER -7
remainders : of (Modulo Signed) 4294967289 3 ∷ of (Modulo Signed) 7 4294967293 ∷ of (Modulo Signed) 2147483648 4294967295
    ∷ of (Modulo Unsigned) 4294967289 10 ∷ of (Modulo Signed) 4294967289 10 ∷ []
    ≡ Fine 4294967295 ∷ Fine 1 ∷ Fine 0 ∷ Fine 9 ∷ Fine 4294967289 ∷ []
unfolding of
remainders = refl

zero_divisors : of (Divide Signed) 1 0 ∷ of (Divide Unsigned) 0 0 ∷ of (Modulo Signed) 1 0 ∷ of (Modulo Unsigned) 4294967295 0 ∷ []
    ≡ Faulty DividedByZero ∷ Faulty DividedByZero ∷ Faulty DividedByZero ∷ Faulty DividedByZero ∷ []
unfolding of
zero_divisors = refl

-- 65535 * 65535 is -131071, of which / 1000 is -131 and MOD 1000 is -71
thousands : of (Divide Signed) 4294836225 1000 ∷ of (Modulo Signed) 4294836225 1000 ∷ [] ≡ Fine 4294967165 ∷ Fine 4294967225 ∷ []
unfolding of
thousands = refl

opposites : opposite_long 0 ∷ opposite_long 1 ∷ opposite_long 4294967295 ∷ opposite_long 2147483648 ∷ [] ≡ 0 ∷ 4294967295 ∷ 1 ∷ 2147483648 ∷ []
unfolding wrap_long opposite_long
opposites = refl

-- -1 and 0, 2147483647 and 2147483648, by both bases
relations : holds Less Signed 4294967295 0 ∷ holds Less Unsigned 4294967295 0 ∷ holds Less Signed 2147483647 2147483648
    ∷ holds Less Unsigned 2147483647 2147483648 ∷ holds AtMost Signed 5 5 ∷ holds Greater Unsigned 65536 65535 ∷ holds AtLeast Signed 0 4294967295
    ∷ holds Equal Signed 65536 0 ∷ holds NotEqual Unsigned 65536 0 ∷ []
    ≡ true ∷ false ∷ false ∷ true ∷ true ∷ true ∷ true ∷ false ∷ true ∷ []
unfolding holds
relations = refl

-- words become numbers: 32767, -32768, -1 of INTEGER, and 0, 65535 of CARDINAL
widening : by (Widened Signed Signed) 32767 ∷ by (Widened Signed Signed) 32768 ∷ by (Widened Signed Signed) 65535 ∷ by (Widened Unsigned Signed) 65535
    ∷ by (Widened Unsigned Unsigned) 65535 ∷ by (Widened Signed Unsigned) 32767 ∷ by (Widened Signed Unsigned) 65535 ∷ []
    ≡ Fine 32767 ∷ Fine 4294934528 ∷ Fine 4294967295 ∷ Fine 65535 ∷ Fine 65535 ∷ Fine 32767 ∷ Faulty OutOfBounds ∷ []
unfolding by
widening = refl

-- LONG INTEGER for an INTEGER: -32769, -32768, -1, 32767, 32768
narrowing_to_integer : by (Narrowed Signed Signed Every) 4294934527 ∷ by (Narrowed Signed Signed Every) 4294934528
    ∷ by (Narrowed Signed Signed Every) 4294967295 ∷ by (Narrowed Signed Signed Every) 32767 ∷ by (Narrowed Signed Signed Every) 32768 ∷ []
    ≡ Faulty OutOfBounds ∷ Fine 32768 ∷ Fine 65535 ∷ Fine 32767 ∷ Faulty OutOfBounds ∷ []
unfolding by
narrowing_to_integer = refl

-- LONG INTEGER for a CARDINAL: -1, 0, 65535, 65536; LONG CARDINAL for a CARDINAL: 65535, 65536, 4294967295
narrowing_to_cardinal : by (Narrowed Signed Unsigned Every) 4294967295 ∷ by (Narrowed Signed Unsigned Every) 0 ∷ by (Narrowed Signed Unsigned Every) 65535
    ∷ by (Narrowed Signed Unsigned Every) 65536 ∷ by (Narrowed Unsigned Unsigned Every) 65535 ∷ by (Narrowed Unsigned Unsigned Every) 65536
    ∷ by (Narrowed Unsigned Unsigned Every) 4294967295 ∷ []
    ≡ Faulty OutOfBounds ∷ Fine 0 ∷ Fine 65535 ∷ Faulty OutOfBounds ∷ Fine 65535 ∷ Faulty OutOfBounds ∷ Faulty OutOfBounds ∷ []
unfolding by
narrowing_to_cardinal = refl

-- LONG CARDINAL for an INTEGER: 32767, 32768, 4294967295, which is not -1
narrowing_without_a_sign : by (Narrowed Unsigned Signed Every) 32767 ∷ by (Narrowed Unsigned Signed Every) 32768
    ∷ by (Narrowed Unsigned Signed Every) 4294967295 ∷ []
    ≡ Fine 32767 ∷ Faulty OutOfBounds ∷ Faulty OutOfBounds ∷ []
unfolding by
narrowing_without_a_sign = refl

-- for INTEGER [-3..9]: -4, -3, 9, 10, 65533, which is no -3
narrowing_to_a_subrange : by (Narrowed Signed Signed (From Signed 65533 9)) 4294967292 ∷ by (Narrowed Signed Signed (From Signed 65533 9)) 4294967293
    ∷ by (Narrowed Signed Signed (From Signed 65533 9)) 9 ∷ by (Narrowed Signed Signed (From Signed 65533 9)) 10
    ∷ by (Narrowed Signed Signed (From Signed 65533 9)) 65533 ∷ []
    ≡ Faulty OutOfBounds ∷ Fine 65533 ∷ Fine 9 ∷ Faulty OutOfBounds ∷ Faulty OutOfBounds ∷ []
unfolding by
narrowing_to_a_subrange = refl

-- from one LONG type to the other
in_common : by InCommon 0 ∷ by InCommon 2147483647 ∷ by InCommon 2147483648 ∷ by InCommon 4294967295 ∷ by Kept 4294967295 ∷ []
    ≡ Fine 0 ∷ Fine 2147483647 ∷ Faulty OutOfBounds ∷ Faulty OutOfBounds ∷ Fine 4294967295 ∷ []
unfolding by
in_common = refl

-- whether 3000000000 lies between -1 and 4000000000, where it is LONG CARDINAL, the first bound LONG INTEGER and the last LONG CARDINAL;
-- and the same words with all three LONG INTEGER
inside : lies_in_long (record { number = Unsigned; first = Signed; last = Unsigned }) 3000000000 false 4294967295 false 4000000000
    ∷ lies_in_long (record { number = Signed; first = Signed; last = Signed }) 3000000000 false 4294967295 false 4000000000
    ∷ lies_in_long (record { number = Unsigned; first = Unsigned; last = Unsigned }) 4294967295 false 0 true 4294967295
    ∷ lies_in_long (record { number = Unsigned; first = Unsigned; last = Unsigned }) 4294967295 true 4294967294 false 4294967295 ∷ []
    ≡ true ∷ false ∷ false ∷ true ∷ []
unfolding past shifted_long lies_in_long
inside = refl
