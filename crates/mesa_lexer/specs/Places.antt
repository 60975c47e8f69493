-- Places: lines and columns (rule of this project).
use Rattle.std.specs.Prelude.{ℕ, ◌+◌, ◌&&◌, ◌||◌, ◌==◌, not, if◌then◌else◌, List, [], ◌∷◌, reverse}
use Rattle.std.specs.List.{prefix_len}
use Rattle.mesa_base.specs.declared.place.Place.{Place}
use Rattle.mesa_lexer.specs.Blanks.{ends_line, begins_with}

-- how many line ends these bytes have: each line feed, and each carriage return that no line feed follows
abbrev pub line_ends : List ℕ → ℕ
line_ends [] = 0
line_ends (b ∷ rest) = (if (b == 10) || ((b == 13) && not (begins_with 10 rest)) then 1 else 0) + line_ends rest

-- how many bytes stand behind the last line end
abbrev pub in_last_line : List ℕ → ℕ
in_last_line bytes = prefix_len (λ b. not (ends_line b)) (reverse bytes)

-- the place behind these bytes, of which `tokens` are tokens: lines and columns count from 1, columns in bytes
unfoldable pub place_after : List ℕ → ℕ → Place
place_after before tokens = record { token = tokens; line = 1 + line_ends before; column = 1 + in_last_line before }
