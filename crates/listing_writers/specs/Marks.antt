-- The mark that stands between texts, as it is written: before each text but the first (rule of this project).
use Rattle.std.specs.Prelude.{ℕ, zero, suc, List, []}

unfoldable pub mark_before : List ℕ → (at : ℕ) → List ℕ
mark_before mark zero = []
mark_before mark (suc before) = mark
