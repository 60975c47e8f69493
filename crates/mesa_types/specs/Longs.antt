-- What operators, relations and conversions make of LONG numbers: a number, a word, or the fault that is raised in its place.
-- LONG INTEGER is -2147483648 to 2147483647, LONG CARDINAL 0 to 4294967295 (rule of this project, beside Operators, which has
-- the same of words). A LONG number stands here as what its two words spell, the more significant one first: below 4294967296.
use Rattle.std.specs.Prelude.{ℕ, zero, suc, ◌+◌, ◌-◌, ◌*◌, ◌/◌, ◌%◌, List, [], ◌∷◌, Bool, true, false, not, ◌&&◌, nat_eq, nat_lt, nat_le}
use Rattle.mesa_types.specs.declared.typed_parts.Base.{Base}
use Rattle.mesa_types.specs.declared.typed_parts.Base.TheVariants.{Signed, Unsigned}
use Rattle.mesa_types.specs.declared.typed_parts.Bases.{Bases}
use Rattle.mesa_types.specs.declared.typed_parts.Range.{Range}
use Rattle.mesa_types.specs.declared.typed_parts.Operator.{Operator}
use Rattle.mesa_types.specs.declared.typed_parts.Operator.TheVariants.{Add, Subtract, Multiply, Divide, Modulo, AddToCharacter, SubtractFromCharacter}
use Rattle.mesa_types.specs.declared.typed_parts.Conversion.{Conversion}
use Rattle.mesa_types.specs.declared.typed_parts.Conversion.TheVariants.{Kept, Widened, Narrowed, InCommon}
use Rattle.held_trees.specs.mesa_base.specs.declared.relation.Relation.{Relation}
use Rattle.held_trees.specs.mesa_base.specs.declared.relation.Relation.TheVariants.{Equal, NotEqual, Less, AtMost, Greater, AtLeast}
use Rattle.mesa_types.specs.Operators.{Tried, Fine, Faulty, differ, past, fine_if, by_divisor, checked, wrap, is_negative}

-- the two words of a LONG number, the more significant one first; and the number of two words
unfoldable pub more_of : ℕ → ℕ
more_of n = n / 65536

unfoldable pub less_of : ℕ → ℕ
less_of n = n % 65536

unfoldable pub two_words : ℕ → List ℕ
two_words n = more_of n ∷ less_of n ∷ []

unfoldable pub long_of : (more less : ℕ) → ℕ
long_of more less = more * 65536 + less

-- a number as a LONG one
unfoldable pub wrap_long : ℕ → ℕ
wrap_long n = n % 4294967296

-- a LONG number as a plain number, plus 2147483648
unfoldable pub shifted_long : Base → ℕ → ℕ
shifted_long Signed n = (n + 2147483648) % 4294967296
shifted_long Unsigned n = n + 2147483648

-- the number with the other sign
unfoldable pub opposite_long : ℕ → ℕ
opposite_long n = wrap_long (4294967296 - n)

unfoldable pub is_negative_long : ℕ → Bool
is_negative_long n = nat_le 2147483648 n

unfoldable pub long_magnitude_if : Bool → ℕ → ℕ
long_magnitude_if true n = 4294967296 - n
long_magnitude_if false n = n

unfoldable pub long_magnitude : ℕ → ℕ
long_magnitude n = long_magnitude_if (is_negative_long n) n

unfoldable pub with_sign_long : Bool → ℕ → ℕ
with_sign_long true n = opposite_long n
with_sign_long false n = n

-- by a divisor other than 0; a quotient is truncated toward zero
unfoldable pub quotient_long : Base → ℕ → ℕ → ℕ
quotient_long Unsigned x y = x / y
quotient_long Signed x y = with_sign_long (differ (is_negative_long x) (is_negative_long y)) (long_magnitude x / long_magnitude y)

unfoldable pub remainder_long : Base → ℕ → ℕ → ℕ
remainder_long Unsigned x y = x % y
remainder_long Signed x y = with_sign_long (is_negative_long x) (long_magnitude x % long_magnitude y)

-- sums, differences, products and quotients are taken modulo 2^32; in no text is one of them a character
unfoldable pub tried_long : Operator → ℕ → ℕ → Tried
tried_long Add x y = Fine (wrap_long (x + y))
tried_long Subtract x y = Fine (wrap_long (x + (4294967296 - y)))
tried_long Multiply x y = Fine (wrap_long (x * y))
tried_long (Divide b) x y = by_divisor y (quotient_long b x y)
tried_long (Modulo b) x y = by_divisor y (remainder_long b x y)
tried_long (AddToCharacter b) x y = Fine (wrap_long (x + y))
tried_long (SubtractFromCharacter b) x y = Fine (wrap_long (x + (4294967296 - y)))

unfoldable pub related_long : Relation → Base → ℕ → ℕ → Bool
related_long Equal b x y = nat_eq x y
related_long NotEqual b x y = not (nat_eq x y)
related_long Less b x y = nat_lt (shifted_long b x) (shifted_long b y)
related_long AtMost b x y = nat_le (shifted_long b x) (shifted_long b y)
related_long Greater b x y = nat_lt (shifted_long b y) (shifted_long b x)
related_long AtLeast b x y = nat_le (shifted_long b y) (shifted_long b x)

-- whether the number lies between the two, as plain numbers
unfoldable pub lies_in_long : Bases → ℕ → (open_first : Bool) → ℕ → (open_last : Bool) → ℕ → Bool
lies_in_long b x open_first y open_last z =
    nat_le (past open_first (shifted_long b.first y)) (shifted_long b.number x)
    && nat_lt (shifted_long b.number x) (past (not open_last) (shifted_long b.last z))

-- Conversions.

-- a word as a LONG number: with a sign, a negative one has ones in its more significant word
unfoldable pub extended_if : Bool → ℕ → ℕ
extended_if true w = w + 4294901760
extended_if false w = w

unfoldable pub extended : Base → ℕ → ℕ
extended Signed w = extended_if (is_negative w) w
extended Unsigned w = w

-- 0 to 2147483647, which both LONG types have
unfoldable pub is_in_common : ℕ → Bool
is_in_common n = nat_lt n 2147483648

-- every word is a number of LONG INTEGER, and a CARDINAL is one of LONG CARDINAL
unfoldable pub widened : (from to : Base) → ℕ → Tried
widened Signed Unsigned w = fine_if (is_in_common (extended Signed w)) (extended Signed w)
widened Signed Signed w = Fine (extended Signed w)
widened Unsigned to w = Fine (extended Unsigned w)

-- a plain number, plus 2147483648, is one of INTEGER, or one of CARDINAL
unfoldable pub is_word_of : Base → ℕ → Bool
is_word_of Signed p = nat_le 2147450880 p && nat_lt p 2147516416
is_word_of Unsigned p = nat_le 2147483648 p && nat_lt p 2147549184

unfoldable pub narrowed : (from to : Base) → ℕ → Tried
narrowed from to n = fine_if (is_word_of to (shifted_long from n)) (less_of n)

unfoldable pub on_fine : Tried → (ℕ → Tried) → Tried
on_fine (Fine n) k = k n
on_fine (Faulty f) k = Faulty f

-- what a conversion makes of a number; the number that it takes is a word where it widens, else a LONG one
unfoldable pub converted : Conversion → ℕ → Tried
converted Kept n = Fine n
converted (Widened from to) w = widened from to w
converted (Narrowed from to r) n = on_fine (narrowed from to n) (checked r)
converted InCommon n = fine_if (is_in_common n) n
