-- Ranges one behind the other, apart.
use Rattle.std.specs.Prelude.{ℕ, ◌+◌, ◌*◌, List, [], map}
use Rattle.std.specs.List.{range_with_len}
use Rattle.code_forms.specs.declared.module_code.Phrase.{Phrase}

-- range k is from 10 k + 2 to 10 k + 8
abbrev pub range_at : ℕ → Phrase
range_at k = record { from = 10 * k + 2; to = 10 * k + 8; arms = [] }

abbrev pub apart : ℕ → List Phrase
apart count = map range_at (range_with_len 0 count)
