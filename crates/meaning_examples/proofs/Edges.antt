-- What operators, checks, indexes and intervals make of words at their edges; -1 is the word 65535, -32768 the word 32768.
use Rattle.std.specs.Prelude.{◌≡◌, refl, ℕ, List, [], ◌∷◌, map, codes, Bool, true, false}
use Rattle.mesa_types.specs.declared.typed_parts.Base.{Base}
use Rattle.mesa_types.specs.declared.typed_parts.Base.TheVariants.{Signed, Unsigned}
use Rattle.mesa_types.specs.declared.typed_parts.Range.{Range}
use Rattle.mesa_types.specs.declared.typed_parts.Range.TheVariants.{Every, From}
use Rattle.mesa_types.specs.declared.typed_parts.Operator.{Operator}
use Rattle.mesa_types.specs.declared.typed_parts.Operator.TheVariants.{Add, Subtract, Multiply, Divide, Modulo, AddToCharacter, SubtractFromCharacter}
use Rattle.mesa_base.specs.declared.relation.Relation.{Relation}
use Rattle.mesa_base.specs.declared.relation.Relation.TheVariants.{Equal, NotEqual, Less, AtMost, Greater, AtLeast}
use Rattle.mesa_types.specs.Operators.{wrap, shifted, opposite, is_negative, magnitude_if, magnitude, with_sign, differ, quotient, remainder, related, past, first_of, beyond, lies_in, fits, fine_if, checked, by_divisor, character, tried, element, indexed, fine_or, byte_at, OutOfBounds, DividedByZero, Tried, Fine, Faulty}

of : Operator → ℕ → ℕ → Tried
unfolding wrap shifted opposite is_negative magnitude_if magnitude with_sign differ quotient remainder fine_if by_divisor character tried
of o x y = tried o x y

check : Range → ℕ → Tried
unfolding shifted fits fine_if checked
check r x = checked r x

index : Range → ℕ → ℕ → ℕ → Tried
unfolding wrap shifted fits fine_if element indexed
index r first n i = indexed r first n i

-- sums, differences, products
wraps : of Add 65535 1 ∷ of Add 32767 1 ∷ of Subtract 0 1 ∷ of Subtract 32768 1 ∷ of Multiply 256 256 ∷ of Multiply 32768 65535 ∷ []
    ≡ Fine 0 ∷ Fine 32768 ∷ Fine 65535 ∷ Fine 32767 ∷ Fine 0 ∷ Fine 32768 ∷ []
unfolding of
wraps = refl

-- -32768 / -1 is -32768; 7 / -2 is -3, -7 / 2 is -3, -7 / -2 is 3; the CARDINAL 65529 / 2 is 32764
quotients : of (Divide Signed) 32768 65535 ∷ of (Divide Signed) 7 65534 ∷ of (Divide Signed) 65529 2 ∷ of (Divide Signed) 65529 65534 ∷ of (Divide Unsigned) 65529 2 ∷ []
    ≡ Fine 32768 ∷ Fine 65533 ∷ Fine 65533 ∷ Fine 3 ∷ Fine 32764 ∷ []
unfolding of
quotients = refl

-- -7 MOD 3 is -1, 7 MOD -3 is 1, -32768 MOD -1 is 0; the CARDINAL 65529 MOD 3 is 0
remainders : of (Modulo Signed) 65529 3 ∷ of (Modulo Signed) 7 65533 ∷ of (Modulo Signed) 32768 65535 ∷ of (Modulo Unsigned) 65529 3 ∷ []
    ≡ Fine 65535 ∷ Fine 1 ∷ Fine 0 ∷ Fine 0 ∷ []
unfolding of
remainders = refl

-- by zero
zero_divisors : of (Divide Signed) 1 0 ∷ of (Divide Unsigned) 0 0 ∷ of (Modulo Signed) 1 0 ∷ of (Modulo Unsigned) 65535 0 ∷ []
    ≡ Faulty DividedByZero ∷ Faulty DividedByZero ∷ Faulty DividedByZero ∷ Faulty DividedByZero ∷ []
unfolding of
zero_divisors = refl

-- 'a + 1, 377C + 1, 377C + (-255), 0C + (-1), 0C + 65535 as a CARDINAL, 'a - 1, 0C - 1, 0C - (-255), 0C - (-256)
characters : of (AddToCharacter Signed) 97 1 ∷ of (AddToCharacter Signed) 255 1 ∷ of (AddToCharacter Signed) 255 65281 ∷ of (AddToCharacter Signed) 0 65535
    ∷ of (AddToCharacter Unsigned) 0 65535 ∷ of (SubtractFromCharacter Signed) 97 1 ∷ of (SubtractFromCharacter Unsigned) 0 1
    ∷ of (SubtractFromCharacter Signed) 0 65281 ∷ of (SubtractFromCharacter Signed) 0 65280 ∷ []
    ≡ Fine 98 ∷ Faulty OutOfBounds ∷ Fine 0 ∷ Faulty OutOfBounds
    ∷ Faulty OutOfBounds ∷ Fine 96 ∷ Faulty OutOfBounds
    ∷ Fine 255 ∷ Faulty OutOfBounds ∷ []
unfolding of
characters = refl

-- a CARDINAL that is given to an INTEGER, an INTEGER that is given to a CARDINAL, one that is given to [-3..3], and a range
-- that takes nothing
checks : check (From Unsigned 0 32767) 32767 ∷ check (From Unsigned 0 32767) 32768 ∷ check (From Signed 0 32767) 65535 ∷ check (From Signed 65533 3) 65533
    ∷ check (From Signed 65533 3) 4 ∷ check (From Signed 1 0) 0 ∷ check Every 65535 ∷ []
    ≡ Fine 32767 ∷ Faulty OutOfBounds ∷ Faulty OutOfBounds ∷ Fine 65533 ∷ Faulty OutOfBounds ∷ Faulty OutOfBounds ∷ Fine 65535 ∷ []
unfolding check
checks = refl

-- an ARRAY [-3..3]: -3 is element 0, 3 is element 6; 4 and -4 are outside, and so is the CARDINAL 65533
indexes : index Every 65533 7 65533 ∷ index Every 65533 7 3 ∷ index Every 65533 7 4 ∷ index Every 65533 7 65532 ∷ index (From Unsigned 0 3) 65533 7 65533 ∷ []
    ≡ Fine 0 ∷ Fine 6 ∷ Faulty OutOfBounds ∷ Faulty OutOfBounds ∷ Faulty OutOfBounds ∷ []
unfolding index
indexes = refl

bytes : byte_at (codes "ab") 0 ∷ byte_at (codes "ab") 1 ∷ byte_at (codes "ab") 2 ∷ byte_at [] 0 ∷ [] ≡ Fine 97 ∷ Fine 98 ∷ Faulty OutOfBounds ∷ Faulty OutOfBounds ∷ []
unfolding byte_at fine_or
bytes = refl

abbrev in_bases : Base → Base → Base → ℕ → Bool → ℕ → Bool → ℕ → Bool
in_bases a b c x p y q z = lies_in (record { number = a; first = b; last = c }) x p y q z

-- IN compares plain numbers, whatever their bases: -1 does not lie in [0..65535] of CARDINALs, and 65535 does; -1 lies in
-- [-1..65535]; 40000 lies in (39999..40001); 3 does not lie in [3..3), and does in [3..3]
intervals : in_bases Signed Unsigned Unsigned 65535 false 0 false 65535 ∷ in_bases Unsigned Unsigned Unsigned 65535 false 0 false 65535
    ∷ in_bases Signed Signed Unsigned 65535 false 65535 false 65535 ∷ in_bases Unsigned Signed Unsigned 40000 true 32767 true 40001
    ∷ in_bases Signed Signed Signed 3 false 3 true 3 ∷ in_bases Signed Signed Signed 3 false 3 false 3 ∷ in_bases Signed Signed Signed 3 true 3 false 4 ∷ []
    ≡ false ∷ true ∷ true ∷ true ∷ false ∷ true ∷ false ∷ []
unfolding lies_in first_of beyond past shifted
intervals = refl

-- -1 and 1 as INTEGERs, and their words as CARDINALs
in_order : Base → List Bool
in_order b = map (λ (r : Relation). related r b 65535 1) (Equal ∷ NotEqual ∷ Less ∷ AtMost ∷ Greater ∷ AtLeast ∷ [])

relations : in_order Signed ≡ false ∷ true ∷ true ∷ true ∷ false ∷ false ∷ []
unfolding in_order related shifted
relations = refl

relations_of_cardinals : in_order Unsigned ≡ false ∷ true ∷ false ∷ false ∷ true ∷ true ∷ []
unfolding in_order related shifted
relations_of_cardinals = refl
