-- A line and a column, as the scanner keeps them.
use Rattle.std.specs.Prelude.{◌≡◌, ℕ, ◌+◌, Bool, false, ◌&&◌, ◌==◌, if◌then◌else◌, List, [], ◌∷◌, fold}
use Rattle.mesa_lexer.specs.Blanks.{ends_line}
use Rattle.mesa_lexer.specs.Places.{line_ends, in_last_line}
use Rattle.mesa_base.specs.declared.place.Place.{Place}
use Rattle.mesa_lexer.specs.declared.position.Position.{Position}

-- this byte stands last
abbrev pub ends_with : ℕ → List ℕ → Bool
ends_with b [] = false
ends_with b (a ∷ []) = a == b
ends_with b (a ∷ c ∷ rest) = ends_with b (c ∷ rest)

-- the position is that behind these bytes
pub record IsBehind (position : Position) (before : List ℕ) : Type 0 where
  pub line_is : position.line ≡ 1 + line_ends before
  pub column_is : position.column ≡ 1 + in_last_line before
  pub return_is : position.after_return ≡ ends_with 13 before

abbrev pub step_over : Position → ℕ → Position
step_over position b =
    if ends_line b
    then record { line = if (b == 10) && position.after_return then position.line else position.line + 1; column = 1; after_return = b == 13 }
    else record { line = position.line; column = position.column + 1; after_return = false }

abbrev pub passed : Position → List ℕ → Position
passed position bytes = fold step_over position bytes

-- the place at a position, behind so many tokens
abbrev pub place_of : Position → ℕ → Place
place_of position tokens = record { token = tokens; line = position.line; column = position.column }
