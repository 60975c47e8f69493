-- What operators, checks, indexes and bytes of strings make of words: a word, or the fault that is raised in its place.
-- INTEGER is -32768 to 32767, CARDINAL 0 to 65535 (Language Manual, chapter 2; where a word stands for no value of its type,
-- the rows are rules of this project).
use Rattle.std.specs.Prelude.{ℕ, zero, suc, ◌+◌, ◌-◌, ◌*◌, ◌/◌, ◌%◌, List, Bool, true, false, not, ◌&&◌, nat_eq, nat_lt, nat_le, Option, Some, None, slice_get}
use Rattle.mesa_types.specs.declared.typed_parts.Base.{Base}
use Rattle.mesa_types.specs.declared.typed_parts.Base.TheVariants.{Signed, Unsigned}
use Rattle.mesa_types.specs.declared.typed_parts.Bases.{Bases}
use Rattle.mesa_types.specs.declared.typed_parts.Range.{Range}
use Rattle.mesa_types.specs.declared.typed_parts.Range.TheVariants.{Every, From}
use Rattle.mesa_types.specs.declared.typed_parts.Operator.{Operator}
use Rattle.mesa_types.specs.declared.typed_parts.Operator.TheVariants.{Add, Subtract, Multiply, Divide, Modulo, AddToCharacter, SubtractFromCharacter}
use Rattle.held_trees.specs.mesa_base.specs.declared.relation.Relation.{Relation}
use Rattle.held_trees.specs.mesa_base.specs.declared.relation.Relation.TheVariants.{Equal, NotEqual, Less, AtMost, Greater, AtLeast}

-- a number as a word
unfoldable pub wrap : ℕ → ℕ
wrap n = n % 65536

-- a word as a plain number, plus 32768; and back
unfoldable pub shifted : Base → ℕ → ℕ
shifted Signed w = (w + 32768) % 65536
shifted Unsigned w = w + 32768

unfoldable pub unshifted : ℕ → ℕ
unshifted p = wrap (p + 32768)

-- the word of the number with the other sign
unfoldable pub opposite : ℕ → ℕ
opposite w = wrap (65536 - w)

unfoldable pub is_negative : ℕ → Bool
is_negative w = nat_le 32768 w

unfoldable pub magnitude_if : Bool → ℕ → ℕ
magnitude_if true w = 65536 - w
magnitude_if false w = w

unfoldable pub magnitude : ℕ → ℕ
magnitude w = magnitude_if (is_negative w) w

unfoldable pub with_sign : Bool → ℕ → ℕ
with_sign true n = opposite n
with_sign false n = n

unfoldable pub differ : Bool → Bool → Bool
differ true b = not b
differ false b = b

-- by a divisor other than 0; a quotient is truncated toward zero
unfoldable pub quotient : Base → ℕ → ℕ → ℕ
quotient Unsigned x y = x / y
quotient Signed x y = with_sign (differ (is_negative x) (is_negative y)) (magnitude x / magnitude y)

unfoldable pub remainder : Base → ℕ → ℕ → ℕ
remainder Unsigned x y = x % y
remainder Signed x y = with_sign (is_negative x) (magnitude x % magnitude y)

unfoldable pub related : Relation → Base → ℕ → ℕ → Bool
related Equal b x y = nat_eq x y
related NotEqual b x y = not (nat_eq x y)
related Less b x y = nat_lt (shifted b x) (shifted b y)
related AtMost b x y = nat_le (shifted b x) (shifted b y)
related Greater b x y = nat_lt (shifted b y) (shifted b x)
related AtLeast b x y = nat_le (shifted b y) (shifted b x)

-- an interval's first number and the one past its last, both plus 32768
unfoldable pub past : Bool → ℕ → ℕ
past true n = suc n
past false n = n

unfoldable pub first_of : Base → (is_open : Bool) → ℕ → ℕ
first_of b is_open x = past is_open (shifted b x)

unfoldable pub beyond : Base → (is_open : Bool) → ℕ → ℕ
beyond b is_open y = past (not is_open) (shifted b y)

-- whether the number lies between the two, as plain numbers
unfoldable pub lies_in : Bases → ℕ → (open_first : Bool) → ℕ → (open_last : Bool) → ℕ → Bool
lies_in b x open_first y open_last z =
    nat_le (first_of b.first open_first y) (shifted b.number x) && nat_lt (shifted b.number x) (beyond b.last open_last z)

unfoldable pub truth : Bool → ℕ
truth true = 1
truth false = 0

unfoldable pub is_true : ℕ → Bool
is_true zero = false
is_true (suc n) = true

-- what is raised in a word's place
pub data WordFault : Type 0 where
  OutOfBounds : WordFault
  DividedByZero : WordFault

pub data Tried : Type 0 where
  Fine : ℕ → Tried
  Faulty : WordFault → Tried

unfoldable pub fits : Range → ℕ → Bool
fits Every w = true
fits (From b first last) w = nat_le (shifted b first) (shifted b w) && nat_le (shifted b w) (shifted b last)

unfoldable pub fine_if : Bool → ℕ → Tried
fine_if true n = Fine n
fine_if false n = Faulty OutOfBounds

unfoldable pub checked : Range → ℕ → Tried
checked r w = fine_if (fits r w) w

unfoldable pub by_divisor : ℕ → ℕ → Tried
by_divisor zero n = Faulty DividedByZero
by_divisor (suc y) n = Fine n

-- a character, given as its code plus 32768
unfoldable pub character : ℕ → Tried
character p = fine_if (nat_le 32768 p && nat_lt p 33024) (p - 32768)

-- sums, differences and products are taken modulo 2^16; a character plus or minus a number is a plain number from 0 to 255
unfoldable pub tried : Operator → ℕ → ℕ → Tried
tried Add x y = Fine (wrap (x + y))
tried Subtract x y = Fine (wrap (x + (65536 - y)))
tried Multiply x y = Fine (wrap (x * y))
tried (Divide b) x y = by_divisor y (quotient b x y)
tried (Modulo b) x y = by_divisor y (remainder b x y)
tried (AddToCharacter b) x y = character (x + shifted b y)
tried (SubtractFromCharacter b) x y = character (x + 65536 - shifted b y)

-- an index, as the number of its element, counted upward from the index type's first word
unfoldable pub element : (first : ℕ) → ℕ → ℕ
element first i = wrap (i + (65536 - first))

-- the index is in the range, and its element is there
unfoldable pub indexed : Range → (first elements : ℕ) → ℕ → Tried
indexed r first n i = fine_if (fits r i && nat_lt (element first i) n) (element first i)

unfoldable pub fine_or : Option ℕ → Tried
fine_or None = Faulty OutOfBounds
fine_or (Some b) = Fine b

unfoldable pub byte_at : List ℕ → ℕ → Tried
byte_at text i = fine_or (slice_get text i)
