-- The marks, each with its spelling (Language Manual, chapter 2 and its grammar). The arrow is `_`, or U+2190 as UTF-8.
use Rattle.std.specs.Prelude.{ℕ, List, [], ◌∷◌, Option, codes}
use Rattle.mesa_lexer.specs.Words.{spelled}
use Rattle.mesa_lexer.specs.declared.mark.Mark.{Mark}
use Rattle.mesa_lexer.specs.declared.mark.Mark.TheVariants.{Arrow, Semicolon, Colon, Comma, Dot, DotDot, LeftBracket, RightBracket, LeftParenthesis, RightParenthesis, LeftBrace, RightBrace, Equal, Sharp, Less, Greater, AtMost, AtLeast, Plus, Minus, Star, Slash, Bang, DoubleArrow, Tilde}

-- U+2190
abbrev pub arrow : List ℕ
arrow = 226 ∷ 134 ∷ 144 ∷ []

unfoldable pub marks : List (List ℕ × Mark)
marks = (codes "_", Arrow)
    ∷ (arrow, Arrow)
    ∷ (codes ";", Semicolon)
    ∷ (codes ":", Colon)
    ∷ (codes ",", Comma)
    ∷ (codes ".", Dot)
    ∷ (codes "..", DotDot)
    ∷ (codes "[", LeftBracket)
    ∷ (codes "]", RightBracket)
    ∷ (codes "(", LeftParenthesis)
    ∷ (codes ")", RightParenthesis)
    ∷ (codes "{", LeftBrace)
    ∷ (codes "}", RightBrace)
    ∷ (codes "=", Equal)
    ∷ (codes "#", Sharp)
    ∷ (codes "<", Less)
    ∷ (codes ">", Greater)
    ∷ (codes "<=", AtMost)
    ∷ (codes ">=", AtLeast)
    ∷ (codes "+", Plus)
    ∷ (codes "-", Minus)
    ∷ (codes "*", Star)
    ∷ (codes "/", Slash)
    ∷ (codes "!", Bang)
    ∷ (codes "=>", DoubleArrow)
    ∷ (codes "~", Tilde)
    ∷ []

-- the mark with this spelling, if there is one
unfoldable pub mark_of : List ℕ → Option Mark
mark_of bytes = spelled marks bytes
