-- What stands at a place, as the scanner answers it, and the parts from which it finds it.
use Rattle.std.specs.Prelude.{◌≡◌, ℕ, zero, suc, ◌+◌, ◌<◌, ◌≤◌, Bool, false, ◌&&◌, ◌==◌, nat_lt, if◌then◌else◌, List, [], ◌∷◌, length, take, drop, Option, Some, None}
use Rattle.std.specs.List.{list_all, prefix_len}
use Rattle.mesa_base.specs.declared.limits.TheConstants.{GREATEST_CHARACTER, GREATEST_NUMBER, IDENTIFIER_BYTES, STRING_BYTES}
use Rattle.mesa_base.specs.Name.{is_digit, is_letter_or_digit}
use Rattle.mesa_lexer.specs.Blanks.{IsGap, ends_line, begins_with, begins_with_hyphens}
use Rattle.mesa_lexer.specs.Words.{word_of}
use Rattle.mesa_lexer.specs.Marks.{mark_of}
use Rattle.mesa_lexer.specs.Forms.{Whole, Unended, Inside, Longest, NothingBegins, IsTooLarge, IsTooLong, is_octal_digit, is_plain, is_printed, number_in}
use Rattle.mesa_lexer.specs.Tokens.{NoGap, IsToken}
use Rattle.mesa_lexer.specs.declared.word.Word.{Word}
use Rattle.mesa_lexer.specs.declared.mark.Mark.{Mark}
use Rattle.mesa_lexer.specs.declared.token.Kind.{Kind}
use Rattle.mesa_lexer.specs.declared.token.Kind.TheVariants as k
use Rattle.mesa_lexer.specs.declared.lexed.Lexed.{Lexed}
use Rattle.mesa_lexer.specs.declared.lexed.Lexed.TheVariants.{Gap, Token, NoToken, Stray, Open, TooLarge, TooLong}

-- the first bytes are the longest form of a token that passes its limit
pub record Passes (Limit : Kind → Type 0) (rest : List ℕ) : Type 0 where
  pub n : ℕ
  pub kind : Kind
  pub longest : Longest rest n (Whole kind)
  pub passed : Limit kind

-- this is what stands first
abbrev pub Stands : List ℕ → Lexed → Type 0
Stands rest (Gap n) = IsGap rest n
Stands rest (Token n kind) = IsToken rest n kind
Stands rest NoToken = NoGap rest × NothingBegins rest
Stands rest (Stray n) = NoGap rest × Longest rest n Unended × (n < length rest)
Stands rest Open = NoGap rest × Longest rest (length rest) Unended
Stands rest TooLarge = NoGap rest × Passes IsTooLarge rest
Stands rest TooLong = NoGap rest × Passes IsTooLong rest

-- how many bytes a comment has behind its first two hyphens
abbrev pub comment_len : List ℕ → ℕ
comment_len [] = 0
comment_len (b ∷ rest) = if ends_line b then 0 else (if begins_with_hyphens (b ∷ rest) then 2 else suc (comment_len rest))

-- the kind of an identifier
abbrev pub named : Option Word → List ℕ → Kind
named None bytes = k.Name bytes
named (Some w) bytes = k.Word w

abbrev pub identified : List ℕ → Lexed
identified bytes = if nat_lt IDENTIFIER_BYTES (length bytes) then TooLong else Token (length bytes) (named (word_of bytes) bytes)

abbrev pub identifier_lexed : List ℕ → Lexed
identifier_lexed rest = identified (take (prefix_len is_letter_or_digit rest) rest)

abbrev pub numbered : ℕ → ℕ → Lexed
numbered n value = if nat_lt GREATEST_NUMBER value then TooLarge else Token n (k.Number value)

abbrev pub coded : ℕ → ℕ → Lexed
coded n code = if nat_lt GREATEST_CHARACTER code then TooLarge else Token n (k.Char code)

-- a number by its digits and what follows them
abbrev pub suffixed : List ℕ → List ℕ → Lexed
suffixed digits [] = numbered (length digits) (number_in 10 digits)
suffixed digits (s ∷ rest) =
    if s == 68 then numbered (length digits + 1) (number_in 10 digits)
    else (if (s == 66) && list_all is_octal_digit digits then numbered (length digits + 1) (number_in 8 digits)
    else (if (s == 67) && list_all is_octal_digit digits then coded (length digits + 1) (number_in 8 digits)
    else numbered (length digits) (number_in 10 digits)))

abbrev pub number_lexed : List ℕ → Lexed
number_lexed rest = suffixed (take (prefix_len is_digit rest) rest) (drop (prefix_len is_digit rest) rest)

-- the bytes of U+2190 stand first
abbrev pub begins_with_arrow : List ℕ → Bool
begins_with_arrow (a ∷ b ∷ c ∷ rest) = (a == 226) && ((b == 134) && (c == 144))
begins_with_arrow _ = false

-- a character by what follows its apostrophe
abbrev pub character_lexed : List ℕ → Lexed
character_lexed [] = NoToken
character_lexed (b ∷ rest) = if is_printed b then Token 2 (k.Char b) else (if begins_with_arrow (b ∷ rest) then Token 4 (k.Char 95) else NoToken)

-- this mark of n bytes, or else the other
abbrev pub marked : Option Mark → ℕ → Lexed → Lexed
marked None n other = other
marked (Some m) n other = Token n (k.Mark m)

-- the longest mark of at most n bytes
abbrev pub mark_within : ℕ → List ℕ → Lexed
mark_within zero rest = NoToken
mark_within (suc n) rest = marked (mark_of (take (suc n) rest)) (length (take (suc n) rest)) (mark_within n rest)

-- one byte of a string's value: how many bytes write it, and which it is
abbrev pub item_at : List ℕ → Option (ℕ × ℕ)
item_at [] = None
item_at (b ∷ rest) =
    if is_plain b then Some (1, b)
    else (if (b == 34) && begins_with 34 rest then Some (2, 34)
    else (if begins_with_arrow (b ∷ rest) then Some (3, 95) else None))

-- the inside of a string goes on for n bytes, with this value, and no further
pub record Runs (rest : List ℕ) (n : ℕ) (value : List ℕ) : Type 0 where
  pub is_there : n ≤ length rest
  pub inside : Inside (take n rest) value
  pub ends : item_at (drop n rest) ≡ None

abbrev pub texted : ℕ → List ℕ → Lexed
texted n value = if nat_lt STRING_BYTES (length value) then TooLong else Token n (k.Text value)

-- a string by what follows its first quote, whose first n bytes are the inside
abbrev pub ended : List ℕ → ℕ → List ℕ → Lexed
ended rest n value = if begins_with 34 (drop n rest) then texted (n + 2) value else (if nat_lt n (length rest) then Stray (n + 1) else Open)
