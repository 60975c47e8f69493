-- The tokens of a text, and its first lexical fault (rule of this project over the forms of the Language Manual).
use Rattle.std.specs.Prelude.{◌≡◌, ℕ, ◌+◌, ◌<◌, ◌≤◌, List, [], ◌∷◌, ◌++◌, length, take, drop}
use Rattle.mesa_base.specs.declared.place.Place.{Place}
use Rattle.mesa_base.specs.declared.limits.TheConstants.{TEXT_BYTES}
use Rattle.mesa_lexer.specs.Blanks.{IsGap}
use Rattle.mesa_lexer.specs.Forms.{Whole, Unended, Longest, NothingBegins, IsTooLarge, IsTooLong}
use Rattle.mesa_lexer.specs.Places.{place_after}
use Rattle.mesa_lexer.specs.declared.token.Kind.{Kind}
use Rattle.mesa_lexer.specs.declared.token.Token.{Token}
use Rattle.mesa_lexer.specs.declared.token.Tokens.{Tokens}
use Rattle.mesa_lexer.specs.declared.fault.LexFault.{LexFault}
use Rattle.mesa_lexer.specs.declared.fault.LexFault.TheVariants as f

-- what stands at a place of a text that is not its end and at which no blank or comment begins
abbrev pub NoGap : List ℕ → Type 0
NoGap rest = (n : ℕ) → ¬ IsGap rest n

-- the first n of these bytes are the longest form of this token, which is within its limits
pub record IsToken (rest : List ℕ) (n : ℕ) (kind : Kind) : Type 0 where
  pub no_gap : NoGap rest
  pub longest : Longest rest n (Whole kind)
  pub not_large : ¬ IsTooLarge kind
  pub not_long : ¬ IsTooLong kind

-- the place at a byte of a text, before which these tokens stand
abbrev pub place_in : List ℕ → ℕ → List Token → Place
place_in text at tokens = place_after (take at text) (length tokens)

-- the first `at` bytes of the text are a list of blanks, comments and these tokens, each with its value and place
pub data Reaches (text : List ℕ) : ℕ → List Token → Type 0 where
  start : Reaches text 0 []
  gap : {at n : ℕ} {tokens : List Token} → Reaches text at tokens → IsGap (drop at text) n → Reaches text (at + n) tokens
  token : {at n : ℕ} {tokens : List Token} {kind : Kind} → Reaches text at tokens → IsToken (drop at text) n kind
      → Reaches text (at + n) (tokens ++ record { kind = kind; place = place_in text at tokens } ∷ [])

-- the text is a list of blanks, comments and these tokens, and its end is the place past the last byte
pub record HasTokens (text : List ℕ) (tokens : Tokens) : Type 0 where
  pub not_long : length text ≤ TEXT_BYTES
  pub all : Reaches text (length text) tokens.items
  pub end_is : tokens.end ≡ place_in text (length text) tokens.items

-- the text before this byte is such a list, and here begins what is neither a blank nor a comment
pub record Stops (text : List ℕ) (at : ℕ) (tokens : List Token) : Type 0 where
  pub not_long : length text ≤ TEXT_BYTES
  pub before : Reaches text at tokens
  pub is_there : at < length text
  pub no_gap : NoGap (drop at text)

-- the first fault of a text. A string that is begun and goes no further ends at the text's end, or at a byte that may not stand in it
pub data HasLexFault (text : List ℕ) : LexFault → Type 0 where
  text_too_long : TEXT_BYTES < length text → HasLexFault text f.TextTooLong
  no_token : {at : ℕ} {tokens : List Token} → Stops text at tokens → NothingBegins (drop at text)
      → HasLexFault text (f.BadByte (place_in text at tokens))
  not_in_text : {at n : ℕ} {tokens : List Token} → Stops text at tokens → Longest (drop at text) n Unended → at + n < length text
      → HasLexFault text (f.BadByte (place_in text (at + n) tokens))
  open_text : {at n : ℕ} {tokens : List Token} → Stops text at tokens → Longest (drop at text) n Unended → at + n ≡ length text
      → HasLexFault text (f.OpenString (place_in text at tokens))
  too_large : {at n : ℕ} {tokens : List Token} {kind : Kind} → Stops text at tokens → Longest (drop at text) n (Whole kind) → IsTooLarge kind
      → HasLexFault text (f.NumberTooLarge (place_in text at tokens))
  too_long : {at n : ℕ} {tokens : List Token} {kind : Kind} → Stops text at tokens → Longest (drop at text) n (Whole kind) → IsTooLong kind
      → HasLexFault text (f.TokenTooLong (place_in text at tokens))
