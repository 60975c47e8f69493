-- Literals by their size.
use Rattle.std.proofs.Common.{◌≡◌, ◌≤◌, ◌<◌, ℕ, true, false, None, refl, ap, arith}
use Rattle.std.specs.Prelude.{nat_le, min}
use Rattle.check_rules.specs.Typed as t
use Rattle.check_rules.specs.interface_records.specs.PlainTypes as v
use Rattle.check_rules.specs.Ranges.{typed}
use Rattle.check_rules.specs.Values.{number, literal_of, letter}

is_small : (n m : ℕ) → n ≤ m → nat_le n m ≡ true
is_small n m h = grind arith

is_large : (n m : ℕ) → m < n → nat_le n m ≡ false
is_large n m h = grind arith

pub integer_number : (n : ℕ) → n ≤ 32767 → number n ≡ literal_of v.Integer (t.Number n)
unfolding number
integer_number n h = rw (is_small n 32767 h) refl

pub cardinal_number : (n : ℕ) → 32767 < n → n ≤ 65535 → number n ≡ literal_of v.Cardinal (t.Number n)
unfolding number
cardinal_number n h k = rw (is_large n 32767 h, is_small n 65535 k) refl

pub long_integer_number : (n : ℕ) → 65535 < n → n ≤ 2147483647 → number n ≡ literal_of v.LongInteger (t.LongNumber n)
unfolding number
long_integer_number n h k =
    let past : 32767 < n = omega arith in
    rw (is_large n 32767 past, is_large n 65535 h, is_small n 2147483647 k) refl

pub long_cardinal_number : (n : ℕ) → 2147483647 < n → n < 4294967296 → number n ≡ typed v.LongCardinal (t.LongNumber n)
unfolding number
long_cardinal_number n h k =
    let past : 32767 < n = omega arith in
    let far : 65535 < n = omega arith in
    let same : min n 4294967295 ≡ n = omega arith in
    rw (is_large n 32767 past, is_large n 65535 far, is_large n 2147483647 h) (ap (λ m. typed v.LongCardinal (t.LongNumber m)) same)

pub small_letter : (n : ℕ) → n < 256 → letter n ≡ typed v.Character (t.Number n)
unfolding letter
small_letter n h = let same : min n 255 ≡ n = omega (arith, h) in ap (λ m. typed v.Character (t.Number m)) same
