-- The lines of a listing (rule of this project): a line's words have blanks between them, and a line feed ends it. Numbers are decimal.
use Rattle.std.specs.Prelude.{ℕ, ◌^◌, List, [], ◌∷◌, ◌++◌, map, flat_map, codes}
use Rattle.line_pieces.specs.Texts.{digit_at}

-- the first, and each other with the mark before it
unfoldable pub between : List ℕ → List (List ℕ) → List ℕ
between mark [] = []
between mark (text ∷ more) = text ++ flat_map (λ other. mark ++ other) more

unfoldable pub line : List (List ℕ) → List ℕ
line words = between (codes " ") words ++ codes "\n"

-- an offset in bytes: 8 hexadecimal digits, upper case
unfoldable pub offset_text : ℕ → List ℕ
offset_text n = map (digit_at n) (16 ^ 7 ∷ 16 ^ 6 ∷ 16 ^ 5 ∷ 16 ^ 4 ∷ 16 ^ 3 ∷ 16 ^ 2 ∷ 16 ∷ 1 ∷ [])
