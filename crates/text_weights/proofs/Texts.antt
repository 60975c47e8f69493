-- What the names and the string literals of a text weigh: no more than its bytes, and between two names stands a byte.
use Rattle.std.proofs.Common.{◌≡◌, ℕ, zero, suc, ◌+◌, ◌*◌, ◌<◌, ◌≤◌, true, Option, Some, None, List, [], ◌∷◌, ◌++◌, length, take, drop, get_or, arith, refl, sym, ap, subst, ◌∙◌}
use Rattle.std.specs.List.{list_all}
use Rattle.std.proofs.lemmas.Bool.{and_from, and_parts}
use Rattle.std.proofs.lemmas.List.{length-append, length-take-le, drop-drop, get_or-drop, length-drop, take_more}
use Rattle.mesa_base.specs.Name.{is_letter, is_letter_or_digit, begins_with_letter}
use Rattle.mesa_lexer.specs.Blanks.{IsGap, blank, comment}
use Rattle.mesa_lexer.specs.Forms as f
use Rattle.mesa_lexer.specs.Forms.{Form, Inside, Writes, Lexeme, Whole, Unended, is_identifier}
use Rattle.mesa_lexer.specs.Tokens.{IsToken, Reaches, start, gap, token, place_in}
use Rattle.mesa_lexer.specs.Words.{word_of}
use Rattle.mesa_lexer.specs.declared.word.Word.{Word}
use Rattle.mesa_lexer.specs.declared.token.Kind.{Kind}
use Rattle.mesa_lexer.specs.declared.token.Kind.TheVariants as k
use Rattle.mesa_lexer.specs.declared.token.Token.{Token}
use Rattle.mesa_lexer.proofs.Same.{token_some}
use Rattle.checking_laws.specs.Weights.{Weights, one_each, in_bytes}
use Rattle.text_weights.specs.Tokens.{kind_weight, tokens_weight}

weight_push : (w : Weights) (ts : List Token) (t : Token) → tokens_weight w (ts ++ t ∷ []) ≡ tokens_weight w ts + kind_weight w t.kind
unfolding tokens_weight
weight_push w [] t = omega arith
weight_push w (x ∷ xs) t = omega (arith, weight_push w xs t)

-- ---- bytes

-- the value of a string has no more bytes than it is written with
writes_some : {item : List ℕ} {b : ℕ} → Writes item b → 1 ≤ length item
writes_some (f.plain _) = omega arith
writes_some f.quote = omega arith
writes_some f.an_arrow = omega arith

inside_short : {bytes value : List ℕ} → Inside bytes value → length value ≤ length bytes
inside_short f.empty = omega arith
inside_short (f.more {item = item} {bytes = bytes} writes inside) = omega (arith, length-append item bytes, writes_some writes, inside_short inside)

abbrev lexeme_bytes : Lexeme → ℕ
lexeme_bytes (Whole kind) = kind_weight in_bytes kind
lexeme_bytes Unended = 0

form_short : {bytes : List ℕ} {y : Lexeme} → Form bytes y → lexeme_bytes y ≤ length bytes
form_short (f.name _ _) = omega arith
form_short (f.word _ _) = omega arith
form_short (f.decimal _) = omega arith
form_short (f.decimal_d _ _) = omega arith
form_short (f.octal_b _ _) = omega arith
form_short (f.octal_c _ _) = omega arith
form_short (f.character _) = omega arith
form_short f.arrow_character = omega arith
form_short (f.text {bytes = bytes} inside) = omega (arith, length-append bytes (34 ∷ []), inside_short inside)
form_short (f.unended_text _) = omega arith
form_short (f.mark _) = omega arith

token_short : {rest : List ℕ} {n : ℕ} {kind : Kind} → IsToken rest n kind → kind_weight in_bytes kind ≤ n
token_short {rest} {n} t = omega (arith, length-take-le n rest (t.longest).is_there, form_short (t.longest).is_form)

pub bytes_reached : {text : List ℕ} {at : ℕ} {tokens : List Token} → Reaches text at tokens → tokens_weight in_bytes tokens ≤ at
unfolding tokens_weight
bytes_reached start = omega arith
bytes_reached (gap d g) = let before = bytes_reached d in omega arith
bytes_reached {text = text} (token {at = at} {n = n} {tokens = tokens} {kind = kind} d t) =
    omega (arith, bytes_reached d, token_short t, weight_push in_bytes tokens (record { kind = kind; place = place_in text at tokens }))

-- ---- names

-- a name has the form of an identifier
abbrev Spelled : List ℕ → Lexeme → Type 0
Spelled bytes (Whole (k.Name x)) = is_identifier bytes ≡ true
Spelled bytes _ = Unit {0}

spelled_by : {bytes : List ℕ} {y : Lexeme} → Form bytes y → Spelled bytes y
spelled_by (f.name h _) = h
spelled_by (f.word _ _) = tt
spelled_by (f.decimal _) = tt
spelled_by (f.decimal_d _ _) = tt
spelled_by (f.octal_b _ _) = tt
spelled_by (f.octal_c _ _) = tt
spelled_by (f.character _) = tt
spelled_by f.arrow_character = tt
spelled_by (f.text _) = tt
spelled_by (f.unended_text _) = tt
spelled_by (f.mark _) = tt

all_more : (xs : List ℕ) (c : ℕ) → list_all is_letter_or_digit xs ≡ true → is_letter_or_digit c ≡ true → list_all is_letter_or_digit (xs ++ c ∷ []) ≡ true
all_more [] c h k = and_from (is_letter_or_digit c) true k refl
all_more (x ∷ xs) c h k =
    let parts = and_parts (is_letter_or_digit x) (list_all is_letter_or_digit xs) h in
    and_from (is_letter_or_digit x) (list_all is_letter_or_digit (xs ++ c ∷ [])) parts.0 (all_more xs c parts.1 k)

begins_more : (xs : List ℕ) (c : ℕ) → begins_with_letter xs ≡ true → begins_with_letter (xs ++ c ∷ []) ≡ true
begins_more [] c h = cc
begins_more (x ∷ xs) c h = h

letter_is : (c : ℕ) → is_letter c ≡ true → is_letter_or_digit c ≡ true
letter_is c h = rw h refl

identifier_more : (xs : List ℕ) (c : ℕ) → is_identifier xs ≡ true → is_letter c ≡ true → is_identifier (xs ++ c ∷ []) ≡ true
identifier_more xs c h k =
    let parts = and_parts (begins_with_letter xs) (list_all is_letter_or_digit xs) h in
    and_from (begins_with_letter (xs ++ c ∷ [])) (list_all is_letter_or_digit (xs ++ c ∷ [])) (begins_more xs c parts.0) (all_more xs c parts.1 (letter_is c k))

-- the bytes of an identifier are a name or a word
identified : (bytes : List ℕ) (o : Option Word) → word_of bytes ≡ o → is_identifier bytes ≡ true → (y : Lexeme) × Form bytes y
identified bytes None e h = (Whole (k.Name bytes), f.name h e)
identified bytes (Some w) e h = (Whole (k.Word w), f.word h e)

first_letter : (n : ℕ) (ys : List ℕ) → begins_with_letter (take n ys) ≡ true → (0 < length ys) × (is_letter (get_or ys 0 0) ≡ true)
first_letter zero ys h = absurd cc
first_letter (suc n) [] h = absurd cc
first_letter (suc n) (y ∷ ys) h = (omega arith, h)

-- no name begins where one ends
apart : {rest : List ℕ} {m n : ℕ} {a b : List ℕ} → IsToken rest m (k.Name a) → IsToken (drop m rest) n (k.Name b) → ⊥
apart {rest} {m} {n} one two =
    let here : is_identifier (take m rest) ≡ true = spelled_by (one.longest).is_form in
    let there : is_identifier (take n (drop m rest)) ≡ true = spelled_by (two.longest).is_form in
    let letter = first_letter n (drop m rest) (and_parts (begins_with_letter (take n (drop m rest))) (list_all is_letter_or_digit (take n (drop m rest))) there).0 in
    let more : m < length rest = omega (arith, length-drop m rest, letter.0) in
    let plus : m + 0 ≡ m = omega arith in
    let byte : is_letter (get_or rest m 0) ≡ true = subst (λ c. is_letter c ≡ true) (get_or-drop m rest 0 0 ∙ ap (λ i. get_or rest i 0) plus) letter.1 in
    let longer : is_identifier (take (m + 1) rest) ≡ true =
    subst (λ l. is_identifier l ≡ true) (sym (take_more rest m 0 more)) (identifier_more (take m rest) (get_or rest m 0) here byte) in
    let form = identified (take (m + 1) rest) (word_of (take (m + 1) rest)) refl longer in
    (one.longest).no_longer (m + 1) form.0 (omega arith) (omega arith) form.1

abbrev is_name : Kind → ℕ
is_name (k.Name bytes) = 1
is_name _ = 0

-- one where a name ends here
ends : {text : List ℕ} {at : ℕ} {tokens : List Token} → Reaches text at tokens → ℕ
ends start = 0
ends (gap d g) = 0
ends (token {kind = kind} d t) = is_name kind

kind_at_most_one : (kind : Kind) → is_name kind ≤ 1
kind_at_most_one (k.Name b) = omega arith
kind_at_most_one (k.Word b) = omega arith
kind_at_most_one (k.Number b) = omega arith
kind_at_most_one (k.Char b) = omega arith
kind_at_most_one (k.Text b) = omega arith
kind_at_most_one (k.Mark b) = omega arith

at_most_one : {text : List ℕ} {at : ℕ} {tokens : List Token} (d : Reaches text at tokens) → ends d ≤ 1
unfolding ends
at_most_one start = omega arith
at_most_one (gap d g) = omega arith
at_most_one (token {kind = kind} d t) = kind_at_most_one kind

none_before : {text : List ℕ} {at : ℕ} {tokens : List Token} (d : Reaches text at tokens) {n : ℕ} {a : List ℕ} → IsToken (drop at text) n (k.Name a) → ends d ≡ 0
unfolding ends
none_before start t = refl
none_before (gap d g) t = refl
none_before {text} (token {at = at} {n = m} {kind = k.Name b} d s) {n} {a} t = absurd (apart s (subst (λ l. IsToken l n (k.Name a)) (sym (drop-drop m at text)) t))
none_before (token {kind = k.Word w} d s) t = refl
none_before (token {kind = k.Number w} d s) t = refl
none_before (token {kind = k.Char w} d s) t = refl
none_before (token {kind = k.Text w} d s) t = refl
none_before (token {kind = k.Mark w} d s) t = refl

gap_some : {rest : List ℕ} {n : ℕ} → IsGap rest n → 1 ≤ n
gap_some (blank _) = omega arith
gap_some (comment _ _) = omega arith

name_or_none : (kind : Kind) → kind_weight one_each kind ≡ is_name kind
name_or_none (k.Name b) = refl
name_or_none (k.Word b) = refl
name_or_none (k.Number b) = refl
name_or_none (k.Char b) = refl
name_or_none (k.Text b) = refl
name_or_none (k.Mark b) = refl

token_counts : {text : List ℕ} {at : ℕ} {tokens : List Token} (d : Reaches text at tokens) (kind : Kind) {n : ℕ} → IsToken (drop at text) n kind → 1 ≤ n
    → 2 * tokens_weight one_each tokens ≤ at + ends d → 2 * (tokens_weight one_each tokens + is_name kind) ≤ at + n + is_name kind
token_counts d (k.Name b) t some h = let none = none_before d t in omega arith
token_counts d (k.Word b) t some h = let less = at_most_one d in omega arith
token_counts d (k.Number b) t some h = let less = at_most_one d in omega arith
token_counts d (k.Char b) t some h = let less = at_most_one d in omega arith
token_counts d (k.Text b) t some h = let less = at_most_one d in omega arith
token_counts d (k.Mark b) t some h = let less = at_most_one d in omega arith

names_reached : {text : List ℕ} {at : ℕ} {tokens : List Token} (d : Reaches text at tokens) → 2 * tokens_weight one_each tokens ≤ at + ends d
unfolding tokens_weight ends
names_reached start = omega arith
names_reached (gap d g) = omega (arith, names_reached d, at_most_one d, gap_some g)
names_reached {text = text} (token {at = at} {n = n} {tokens = tokens} {kind = kind} d t) =
    omega (
      arith,
      weight_push one_each tokens (record { kind = kind; place = place_in text at tokens }),
      name_or_none kind,
      token_counts d kind t (token_some (drop at text) n (Whole kind) t.longest) (names_reached d),
    )

pub names_are_apart : {text : List ℕ} {at : ℕ} {tokens : List Token} → Reaches text at tokens → 2 * tokens_weight one_each tokens ≤ at + 1
names_are_apart d = omega (arith, names_reached d, at_most_one d)
