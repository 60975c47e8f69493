-- How the scanner goes on at a place: it passes what stands there, or finds a fault.
use Rattle.std.specs.Prelude.{ℕ, List, [], ◌∷◌, ◌++◌, length, take}
use Rattle.mesa_lexer.specs.Blanks.{IsGap}
use Rattle.mesa_lexer.specs.Tokens.{IsToken}
use Rattle.mesa_lexer.specs.Lexed.{Stands}
use Rattle.mesa_lexer.specs.Positions.{passed, place_of}
use Rattle.mesa_lexer.specs.declared.token.Kind.{Kind}
use Rattle.mesa_lexer.specs.declared.token.Token.{Token}
use Rattle.mesa_lexer.specs.declared.position.Position.{Position}
use Rattle.mesa_lexer.specs.declared.fault.LexFault.{LexFault}
use Rattle.mesa_lexer.specs.declared.fault.LexFault.TheVariants as f
use Rattle.mesa_lexer.specs.declared.lexed.Lexed.TheVariants as p

-- the first n bytes are a gap, or a token that is put behind the others
pub data Advances (rest : List ℕ) (position : Position) (before : List Token) : ℕ → List Token → Type 0 where
  gap : {n : ℕ} → IsGap rest n → Advances rest position before n before
  token : {n : ℕ} {kind : Kind} → IsToken rest n kind
      → Advances rest position before n (before ++ record { kind = kind; place = place_of position (length before) } ∷ [])

-- what stands first is this fault
pub data Refuses (rest : List ℕ) (position : Position) (tokens : ℕ) : LexFault → Type 0 where
  nothing : Stands rest p.NoToken → Refuses rest position tokens (f.BadByte (place_of position tokens))
  stray : {n : ℕ} → Stands rest (p.Stray n) → Refuses rest position tokens (f.BadByte (place_of (passed position (take n rest)) tokens))
  cut : Stands rest p.Open → Refuses rest position tokens (f.OpenString (place_of position tokens))
  large : Stands rest p.TooLarge → Refuses rest position tokens (f.NumberTooLarge (place_of position tokens))
  long : Stands rest p.TooLong → Refuses rest position tokens (f.TokenTooLong (place_of position tokens))
