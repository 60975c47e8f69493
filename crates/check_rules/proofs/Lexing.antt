-- A small reader of texts for the examples: tokens with their places, on one line.
use Rattle.std.specs.Prelude.{ℕ, zero, suc, ◌+◌, ◌*◌, ◌-◌, Bool, true, false, ◌&&◌, ◌||◌, List, [], ◌∷◌, length, if◌then◌else◌, bytes_eq, nat_eq, nat_le, codes}
use Rattle.mesa_base.specs.declared.place.Place.{Place}

-- a word or mark of a text, or a literal
pub data Kind : Type 0 where
  Word : Kind
  Mark : Kind
  Number : ℕ → Kind
  Letter : ℕ → Kind
  Text : List ℕ → Kind
  End : Kind

pub record Token : Type 0 where
  pub kind : Kind
  pub text : List ℕ
  pub place : Place

abbrev pub within : ℕ → ℕ → ℕ → Bool
within a b n = nat_le a n && nat_le n b

abbrev pub is_digit : ℕ → Bool
is_digit n = within 48 57 n

abbrev pub is_letter : ℕ → Bool
is_letter n = within 97 122 n || within 65 90 n

abbrev pub is_inner : ℕ → Bool
is_inner n = is_letter n || is_digit n

abbrev pub is_blank : ℕ → Bool
is_blank n = nat_eq n 32

pub record Split : Type 0 where
  pub piece : List ℕ
  pub rest : List ℕ

abbrev pub before : ℕ → Split → Split
before c s = record { piece = c ∷ s.piece; rest = s.rest }

abbrev pub split_if : Bool → ℕ → List ℕ → Split → Split
split_if true c cs s = before c s
split_if false c cs s = record { piece = []; rest = c ∷ cs }

unfoldable pub split : (ℕ → Bool) → List ℕ → Split
split p [] = record { piece = []; rest = [] }
split p (c ∷ cs) = split_if (p c) c cs (split p cs)

unfoldable pub digits : ℕ → ℕ → List ℕ → ℕ
digits base n [] = n
digits base n (c ∷ cs) = digits base (n * base + (c - 48)) cs

abbrev pub two : List ℕ → List (List ℕ) → Bool
two x [] = false
two x (y ∷ ys) = bytes_eq x y || two x ys

abbrev pub doubles : List (List ℕ)
doubles = codes ".." ∷ codes "<=" ∷ codes ">=" ∷ codes "=>" ∷ []

abbrev pub head_two : List ℕ → List ℕ
head_two (c ∷ d ∷ cs) = c ∷ d ∷ []
head_two _ = []

abbrev pub tail : List ℕ → List ℕ
tail [] = []
tail (c ∷ cs) = cs

abbrev pub head : List ℕ → ℕ
head [] = 0
head (c ∷ cs) = c

abbrev pub token : Kind → List ℕ → ℕ → ℕ → Token
token k text n column = record { kind = k; text = text; place = record { token = n; line = 1; column = column } }

-- what stands next, and how many bytes it takes
pub record Lexeme : Type 0 where
  pub kind : Kind
  pub text : List ℕ
  pub size : ℕ
  pub rest : List ℕ

abbrev pub lexeme : Kind → List ℕ → ℕ → List ℕ → Lexeme
lexeme k text size rest = record { kind = k; text = text; size = size; rest = rest }

-- digits, with B for octal, C for a character's code, D for decimal
abbrev pub number_by : ℕ → Split → Lexeme
number_by suffix s =
    if nat_eq suffix 66 then lexeme (Number (digits 8 0 s.piece)) [] (length s.piece + 1) (tail s.rest)
    else (if nat_eq suffix 67 then lexeme (Letter (digits 8 0 s.piece)) [] (length s.piece + 1) (tail s.rest)
    else (if nat_eq suffix 68 then lexeme (Number (digits 10 0 s.piece)) [] (length s.piece + 1) (tail s.rest)
    else lexeme (Number (digits 10 0 s.piece)) [] (length s.piece) s.rest))

abbrev pub number : Split → Lexeme
number s = number_by (head s.rest) s

abbrev pub word : Split → Lexeme
word s = lexeme Word s.piece (length s.piece) s.rest

abbrev pub string : Split → Lexeme
string s = lexeme (Text s.piece) [] (length s.piece + 2) (tail s.rest)

abbrev pub not_quote : ℕ → Bool
not_quote c = if nat_eq c 34 then false else true

abbrev pub letter : List ℕ → Lexeme
letter cs = lexeme (Letter (head cs)) [] 2 (tail cs)

abbrev pub mark : ℕ → List ℕ → Lexeme
mark c cs =
    if two (head_two (c ∷ cs)) doubles then lexeme Mark (head_two (c ∷ cs)) 2 (tail cs) else lexeme Mark (c ∷ []) 1 cs

abbrev pub next : ℕ → List ℕ → Lexeme
next c cs =
    if is_letter c then word (split is_inner (c ∷ cs))
    else (if is_digit c then number (split is_digit (c ∷ cs))
    else (if nat_eq c 34 then string (split not_quote cs)
    else (if nat_eq c 39 then letter cs else mark c cs)))

-- the tokens of a text; the first number is above the text's length
unfoldable pub lex : ℕ → ℕ → ℕ → List ℕ → List Token
lex zero n column cs = []
lex (suc more) n column [] = token End [] n column ∷ []
lex (suc more) n column (c ∷ cs) = elim (is_blank c) [
  | true ↦ lex more n (column + 1) cs
  | false ↦ let x = next c cs in token x.kind x.text n column ∷ lex more (n + 1) (column + x.size) x.rest
]

unfoldable pub tokens : List ℕ → List Token
tokens cs = lex (length cs + 1) 0 1 cs
