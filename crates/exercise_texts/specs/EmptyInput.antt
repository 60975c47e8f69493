-- An input that is at its end, of which no call fails (rule of this project).
use Rattle.std.specs.Prelude.{ℕ}

-- how many calls were made
pub record EmptyInput : Type 0 where
  pub calls : ℕ
