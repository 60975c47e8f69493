-- What operators try.
use Rattle.std.proofs.Common.{◌≡◌, ℕ, ◌<◌, zero, suc, refl, ap, arith}
use Rattle.mesa_types.specs.Operators.{Fine, Faulty, DividedByZero, by_divisor}

pub by_some : (divisor word : ℕ) → 0 < divisor → by_divisor divisor word ≡ Fine word
unfolding by_divisor
by_some zero word some = absurd (omega (arith, some))
by_some (suc n) word some = refl

pub by_none : (divisor word : ℕ) → divisor ≡ 0 → by_divisor divisor word ≡ Faulty DividedByZero
unfolding by_divisor
by_none divisor word none = ap (λ n. by_divisor n word) none
