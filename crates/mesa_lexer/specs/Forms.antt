-- The forms of tokens (Language Manual, chapter 2: names, numbers, characters and strings).
use Rattle.std.specs.Prelude.{◌≡◌, ℕ, ◌+◌, ◌-◌, ◌*◌, ◌<◌, ◌≤◌, Bool, false, ◌&&◌, ◌||◌, ◌==◌, not, List, [], ◌∷◌, ◌++◌, length, take, fold, codes, nat_le, IsTrue, Some, None}
use Rattle.std.specs.List.{list_all}
use Rattle.mesa_base.specs.declared.limits.TheConstants.{GREATEST_CHARACTER, GREATEST_NUMBER, IDENTIFIER_BYTES, STRING_BYTES}
use Rattle.mesa_base.specs.Name.{is_digit, is_letter_or_digit, begins_with_letter}
use Rattle.mesa_lexer.specs.Words.{word_of}
use Rattle.mesa_lexer.specs.Marks.{arrow, mark_of}
use Rattle.mesa_lexer.specs.declared.word.Word.{Word}
use Rattle.mesa_lexer.specs.declared.mark.Mark.{Mark}
use Rattle.mesa_lexer.specs.declared.token.Kind.{Kind}
use Rattle.mesa_lexer.specs.declared.token.Kind.TheVariants as k

-- a letter, then letters and digits
abbrev pub is_identifier : List ℕ → Bool
is_identifier bytes = begins_with_letter bytes && list_all is_letter_or_digit bytes

abbrev pub is_octal_digit : ℕ → Bool
is_octal_digit b = nat_le 48 b && nat_le b 55

-- one byte or more, each of which passes
abbrev pub one_or_more : (ℕ → Bool) → List ℕ → Bool
one_or_more test [] = false
one_or_more test (b ∷ bytes) = list_all test (b ∷ bytes)

-- the number that these digits stand for
abbrev pub number_in : ℕ → List ℕ → ℕ
number_in base digits = fold (λ n digit. n * base + (digit - 48)) 0 digits

-- the bytes 32 to 126
abbrev pub is_printed : ℕ → Bool
is_printed b = nat_le 32 b && nat_le b 126

-- what stands for itself in a string: the bytes 9, 10, 13 and 32 to 126, but for the quote
abbrev pub is_plain : ℕ → Bool
is_plain b = not (b == 34) && ((b == 9) || ((b == 10) || ((b == 13) || is_printed b)))

-- one byte of a string's value, as it is written: two quotes are one quote, and U+2190 is the byte 137 octal
pub data Writes : List ℕ → ℕ → Type 0 where
  plain : {b : ℕ} → IsTrue (is_plain b) → Writes (b ∷ []) b
  quote : Writes (34 ∷ 34 ∷ []) 34
  an_arrow : Writes arrow 95

-- the inside of a string, with its value
pub data Inside : List ℕ → List ℕ → Type 0 where
  empty : Inside [] []
  more : {item bytes value : List ℕ} {b : ℕ} → Writes item b → Inside bytes value → Inside (item ++ bytes) (b ∷ value)

-- a token, or the beginning of a string up to some place inside it. Such beginnings count for the longest form, so that a
-- string that two quotes carry on is one string, also where the text's end then cuts it
pub data Lexeme : Type 0 where
  Whole : Kind → Lexeme
  Unended : Lexeme

-- these bytes are a form of this token
pub data Form : List ℕ → Lexeme → Type 0 where
  name : {bytes : List ℕ} → IsTrue (is_identifier bytes) → word_of bytes ≡ None → Form bytes (Whole (k.Name bytes))
  word : {bytes : List ℕ} {w : Word} → IsTrue (is_identifier bytes) → word_of bytes ≡ Some w → Form bytes (Whole (k.Word w))
  decimal : {digits : List ℕ} → IsTrue (one_or_more is_digit digits) → Form digits (Whole (k.Number (number_in 10 digits)))
  decimal_d : (digits : List ℕ) → IsTrue (one_or_more is_digit digits) → Form (digits ++ codes "D") (Whole (k.Number (number_in 10 digits)))
  octal_b : (digits : List ℕ) → IsTrue (one_or_more is_octal_digit digits) → Form (digits ++ codes "B") (Whole (k.Number (number_in 8 digits)))
  octal_c : (digits : List ℕ) → IsTrue (one_or_more is_octal_digit digits) → Form (digits ++ codes "C") (Whole (k.Char (number_in 8 digits)))
  character : {b : ℕ} → IsTrue (is_printed b) → Form (39 ∷ b ∷ []) (Whole (k.Char b))
  arrow_character : Form (39 ∷ arrow) (Whole (k.Char 95))
  text : {bytes value : List ℕ} → Inside bytes value → Form (34 ∷ (bytes ++ 34 ∷ [])) (Whole (k.Text value))
  unended_text : {bytes value : List ℕ} → Inside bytes value → Form (34 ∷ bytes) Unended
  mark : {bytes : List ℕ} {m : Mark} → mark_of bytes ≡ Some m → Form bytes (Whole (k.Mark m))

-- the first n of these bytes are a form of this token, and no more of them are a form of any: the longest one
pub record Longest (bytes : List ℕ) (n : ℕ) (token : Lexeme) : Type 0 where
  pub is_there : n ≤ length bytes
  pub is_form : Form (take n bytes) token
  pub no_longer : (m : ℕ) (other : Lexeme) → n < m → m ≤ length bytes → ¬ Form (take m bytes) other

-- no token begins here
abbrev pub NothingBegins : List ℕ → Type 0
NothingBegins bytes = (m : ℕ) (other : Lexeme) → m ≤ length bytes → ¬ Form (take m bytes) other

-- a number or a character code above its limit
abbrev pub IsTooLarge : Kind → Type 0
IsTooLarge (k.Name bytes) = ⊥
IsTooLarge (k.Word w) = ⊥
IsTooLarge (k.Number n) = GREATEST_NUMBER < n
IsTooLarge (k.Char code) = GREATEST_CHARACTER < code
IsTooLarge (k.Text value) = ⊥
IsTooLarge (k.Mark m) = ⊥

-- an identifier or a string's value of more bytes than its limit
abbrev pub IsTooLong : Kind → Type 0
IsTooLong (k.Name bytes) = IDENTIFIER_BYTES < length bytes
IsTooLong (k.Word w) = ⊥
IsTooLong (k.Number n) = ⊥
IsTooLong (k.Char code) = ⊥
IsTooLong (k.Text value) = STRING_BYTES < length value
IsTooLong (k.Mark m) = ⊥
