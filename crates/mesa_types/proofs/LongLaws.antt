-- What conversions and operators make of LONG numbers are LONG numbers, or words; two words and their number lead to each other.
use Rattle.std.proofs.Common.{◌≡◌, ℕ, zero, suc, ◌+◌, ◌-◌, ◌*◌, ◌/◌, ◌%◌, ◌<◌, ◌≤◌, Bool, true, false, refl, ap, arith}
use Rattle.std.specs.Prelude.{◌&&◌, nat_lt, nat_le}
use Rattle.std.proofs.Math.Nat.{div-le_self, mod-le}
use Rattle.std.proofs.lemmas.Bool.Decides.{nat_tests}
use Rattle.mesa_types.specs.declared.typed_parts.Base.{Base}
use Rattle.mesa_types.specs.declared.typed_parts.Base.TheVariants.{Signed, Unsigned}
use Rattle.mesa_types.specs.declared.typed_parts.Operator.{Operator}
use Rattle.mesa_types.specs.declared.typed_parts.Operator.TheVariants.{Add, Subtract, Multiply, Divide, Modulo, AddToCharacter, SubtractFromCharacter}
use Rattle.mesa_types.specs.Operators.{Tried, Fine, Faulty, differ, by_divisor, is_negative, fine_if}
use Rattle.mesa_types.specs.Longs.{more_of, less_of, long_of, wrap_long, shifted_long, opposite_long, is_negative_long, long_magnitude_if, long_magnitude, with_sign_long, quotient_long, remainder_long, tried_long, extended_if, extended, is_word_of, narrowed}

-- Words.

pub more_small : (n : ℕ) → n < 4294967296 → more_of n < 65536
unfolding more_of
more_small n lt = omega (arith, lt)

pub less_small : (n : ℕ) → less_of n < 65536
unfolding less_of
less_small n = omega arith

pub joined : (n : ℕ) → long_of (more_of n) (less_of n) ≡ n
unfolding long_of more_of less_of
joined n = omega arith

pub long_small : (more less : ℕ) → more < 65536 → less < 65536 → long_of more less < 4294967296
unfolding long_of
long_small more less m l = omega (arith, m, l)

pub more_again : (more less : ℕ) → less < 65536 → more_of (long_of more less) ≡ more
unfolding more_of long_of
more_again more less l = omega (arith, l)

pub less_again : (more less : ℕ) → less < 65536 → less_of (long_of more less) ≡ less
unfolding less_of long_of
less_again more less l = omega (arith, l)

-- Operators.

pub wrap_long_small : (n : ℕ) → wrap_long n < 4294967296
unfolding wrap_long
wrap_long_small n = omega arith

with_sign_small : (b : Bool) (n : ℕ) → n < 4294967296 → with_sign_long b n < 4294967296
unfolding with_sign_long opposite_long
with_sign_small true n lt = wrap_long_small (4294967296 - n)
with_sign_small false n lt = lt

magnitude_small : (x : ℕ) → x < 4294967296 → long_magnitude x < 4294967296
unfolding long_magnitude long_magnitude_if is_negative_long
magnitude_small x lt = by_sign (nat_le 2147483648 x) refl
  where
    by_sign : (b : Bool) → nat_le 2147483648 x ≡ b → long_magnitude_if b x < 4294967296
    by_sign true e = let l : 2147483648 ≤ x = grind (arith, nat_tests) in omega (arith, l)
    by_sign false e = lt

pub quotient_long_small : (b : Base) (x y : ℕ) → x < 4294967296 → quotient_long b x y < 4294967296
unfolding quotient_long
quotient_long_small Unsigned x y lt = let e = div-le_self x y in omega (arith, e, lt)
quotient_long_small Signed x y lt =
    let e = div-le_self (long_magnitude x) (long_magnitude y) in
    let d = magnitude_small x lt in
    with_sign_small (differ (is_negative_long x) (is_negative_long y)) (long_magnitude x / long_magnitude y) (omega (arith, e, d))

pub remainder_long_small : (b : Base) (x y : ℕ) → x < 4294967296 → remainder_long b x y < 4294967296
unfolding remainder_long
remainder_long_small Unsigned x y lt = let e = mod-le x y in omega (arith, e, lt)
remainder_long_small Signed x y lt =
    let e = mod-le (long_magnitude x) (long_magnitude y) in
    let d = magnitude_small x lt in with_sign_small (is_negative_long x) (long_magnitude x % long_magnitude y) (omega (arith, e, d))

unfoldable pub FineBelow : ℕ → Tried → Type 0
FineBelow bound (Fine n) = n < bound
FineBelow bound (Faulty f) = Unit {0}

divided : (y n : ℕ) → n < 4294967296 → FineBelow 4294967296 (by_divisor y n)
unfolding by_divisor FineBelow
divided zero n lt = tt
divided (suc y) n lt = lt

pub tried_long_small : (o : Operator) (x y : ℕ) → x < 4294967296 → FineBelow 4294967296 (tried_long o x y)
unfolding tried_long FineBelow
tried_long_small Add x y lt = wrap_long_small (x + y)
tried_long_small Subtract x y lt = wrap_long_small (x + (4294967296 - y))
tried_long_small Multiply x y lt = wrap_long_small (x * y)
tried_long_small (Divide b) x y lt = divided y (quotient_long b x y) (quotient_long_small b x y lt)
tried_long_small (Modulo b) x y lt = divided y (remainder_long b x y) (remainder_long_small b x y lt)
tried_long_small (AddToCharacter b) x y lt = wrap_long_small (x + y)
tried_long_small (SubtractFromCharacter b) x y lt = wrap_long_small (x + (4294967296 - y))

-- Conversions.

-- a number without a sign is one of CARDINAL also where it is read with a sign
pub cardinal_either_way : (n : ℕ) → n < 4294967296 → is_word_of Unsigned (shifted_long Unsigned n) ≡ is_word_of Unsigned (shifted_long Signed n)
unfolding is_word_of shifted_long
cardinal_either_way n lt = by_size (nat_lt n 65536) refl
  where
    by_size : (b : Bool) → nat_lt n 65536 ≡ b
        → nat_le 2147483648 (n + 2147483648) && nat_lt (n + 2147483648) 2147549184
        ≡ nat_le 2147483648 ((n + 2147483648) % 4294967296) && nat_lt ((n + 2147483648) % 4294967296) 2147549184
    by_size true e = grind (arith, nat_tests)
    by_size false e = grind (arith, nat_tests)
