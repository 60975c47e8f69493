-- The lexer's side: the tokens of a text are within their limits.
use Rattle.std.proofs.Common.{◌≡◌, ℕ, ◌<◌, ◌≤◌, ◌&&◌, true, List, [], ◌∷◌, ◌++◌, length, nat_le, ⊎_elim}
use Rattle.std.specs.List.{list_all}
use Rattle.std.proofs.lemmas.Bool.{and_from, and_parts, cases_lt, le-leb}
use Rattle.mesa_base.specs.declared.limits.TheConstants.{IDENTIFIER_BYTES, STRING_BYTES}
use Rattle.mesa_base.specs.Name.{IsName, begins_with_letter, is_letter_or_digit}
use Rattle.mesa_lexer.specs.declared.token.Kind.{Kind}
use Rattle.mesa_lexer.specs.declared.token.Kind.TheVariants as k
use Rattle.mesa_lexer.specs.declared.token.Token.{Token}
use Rattle.mesa_lexer.specs.Forms as f
use Rattle.mesa_lexer.specs.Forms.{Form, Lexeme, Whole, IsTooLong, is_identifier}
use Rattle.mesa_lexer.specs.Tokens.{Reaches, start, gap, token}
use Rattle.written_trees.specs.Limits.{IsWithin, AreWithin}
use Rattle.written_trees.specs.Laws.{TokensAreWithin}

-- a name has the form of an identifier
abbrev IsSpelled : Lexeme → Type 0
IsSpelled (Whole (k.Name bytes)) = is_identifier bytes ≡ true
IsSpelled _ = Unit {0}

spelled_by : {bytes : List ℕ} {l : Lexeme} → Form bytes l → IsSpelled l
spelled_by (f.name h _) = h
spelled_by (f.word _ _) = tt
spelled_by (f.decimal _) = tt
spelled_by (f.decimal_d _ _) = tt
spelled_by (f.octal_b _ _) = tt
spelled_by (f.octal_c _ _) = tt
spelled_by (f.character _) = tt
spelled_by f.arrow_character = tt
spelled_by (f.text _) = tt
spelled_by (f.unended_text _) = tt
spelled_by (f.mark _) = tt

at_most : (limit n : ℕ) → ¬ (limit < n) → n ≤ limit
at_most limit n h = ⊎_elim (λ over. absurd (h over)) (λ within. within) (cases_lt limit n)

is_name_by : (bytes : List ℕ) → is_identifier bytes ≡ true → length bytes ≤ IDENTIFIER_BYTES → IsName bytes
is_name_by bytes h short =
    let parts = and_parts (begins_with_letter bytes) (list_all is_letter_or_digit bytes) h in
    and_from (begins_with_letter bytes) (list_all is_letter_or_digit bytes && nat_le (length bytes) IDENTIFIER_BYTES) parts.0
    (and_from (list_all is_letter_or_digit bytes) (nat_le (length bytes) IDENTIFIER_BYTES) parts.1 (le-leb (length bytes) IDENTIFIER_BYTES short))

kind_within : (kind : Kind) → IsSpelled (Whole kind) → ¬ IsTooLong kind → IsWithin kind
kind_within (k.Name bytes) h short = is_name_by bytes h (at_most IDENTIFIER_BYTES (length bytes) short)
kind_within (k.Text value) h short = at_most STRING_BYTES (length value) short
kind_within (k.Word w) h short = tt
kind_within (k.Number n) h short = tt
kind_within (k.Char code) h short = tt
kind_within (k.Mark m) h short = tt

within_push : (ts : List Token) (t : Token) → AreWithin ts → IsWithin t.kind → AreWithin (ts ++ t ∷ [])
within_push [] t h k = (k, tt)
within_push (x ∷ xs) t h k = (h.0, within_push xs t h.1 k)

reached : {text : List ℕ} {at : ℕ} {tokens : List Token} → Reaches text at tokens → AreWithin tokens
reached start = tt
reached (gap d _) = reached d
reached (token {tokens = tokens} {kind = kind} d t) =
    within_push tokens _ (reached d) (kind_within kind (spelled_by (t.longest).is_form) t.not_long)

pub tokens_are_within : TokensAreWithin
tokens_are_within text tokens h = reached h.all
