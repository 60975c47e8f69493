-- A form's bytes give its token back: the forms by their first byte, but for strings.
use Rattle.std.proofs.Common.{◌≡◌, ℕ, Bool, true, false, ◌&&◌, ◌==◌, not, cond, List, [], ◌∷◌, ◌++◌, length, take, drop, Option, Some, None, arith, refl, sym, ap, ◌∙◌, codes, option_map, if◌then◌else◌}
use Rattle.std.specs.List.{list_all, prefix_len}
use Rattle.std.proofs.lemmas.Bool.{and_parts, and_from, cond-true, not-true}
use Rattle.std.proofs.lemmas.Bool.Decides.{nat_tests}
use Rattle.std.proofs.lemmas.List.{append-nil, take_at, drop_at}
use Rattle.mesa_base.specs.Name.{is_letter, is_digit, is_letter_or_digit}
use Rattle.mesa_lexer.specs.Blanks.{begins_with}
use Rattle.mesa_lexer.specs.Words.{word_of}
use Rattle.mesa_lexer.specs.Marks.{mark_of, marks}
use Rattle.mesa_lexer.specs.Forms.{Form, name, word, decimal, decimal_d, octal_b, octal_c, character, arrow_character, text, unended_text, mark, Lexeme, Whole, is_identifier, is_octal_digit, one_or_more, number_in, is_printed}
use Rattle.mesa_lexer.specs.Lexed.{named}
use Rattle.mesa_lexer.specs.declared.mark.Mark.{Mark}
use Rattle.mesa_lexer.specs.declared.token.Kind.TheVariants as k
use Rattle.mesa_lexer.proofs.Rows.{spelled_passes}
use Rattle.mesa_lexer.proofs.Prefixes.{prefix_of_append}

-- a number by its digits and its last byte
abbrev pub decode_suffix : List ℕ → List ℕ → Option Lexeme
decode_suffix digits [] = Some (Whole (k.Number (number_in 10 digits)))
decode_suffix digits (s ∷ []) =
    if s == 68 then Some (Whole (k.Number (number_in 10 digits)))
    else (if (s == 66) && list_all is_octal_digit digits then Some (Whole (k.Number (number_in 8 digits)))
    else (if (s == 67) && list_all is_octal_digit digits then Some (Whole (k.Char (number_in 8 digits))) else None))
decode_suffix digits (s ∷ t ∷ rest) = None

abbrev pub decode_number : List ℕ → Option Lexeme
decode_number bytes = decode_suffix (take (prefix_len is_digit bytes) bytes) (drop (prefix_len is_digit bytes) bytes)

abbrev pub decode_character : List ℕ → Option Lexeme
decode_character [] = None
decode_character (a ∷ []) = if is_printed a then Some (Whole (k.Char a)) else None
decode_character (a ∷ b ∷ []) = None
decode_character (a ∷ b ∷ c ∷ []) = if (a == 226) && ((b == 134) && (c == 144)) then Some (Whole (k.Char 95)) else None
decode_character (a ∷ b ∷ c ∷ d ∷ rest) = None

abbrev pub decode_mark : List ℕ → Option Lexeme
decode_mark bytes = option_map (λ m. Whole (k.Mark m)) (mark_of bytes)

abbrev pub decode : List ℕ → Option Lexeme
decode [] = None
decode (b ∷ bytes) =
    if is_letter b then (if list_all is_letter_or_digit bytes then Some (Whole (named (word_of (b ∷ bytes)) (b ∷ bytes))) else None)
    else (if is_digit b then decode_number (b ∷ bytes) else (if b == 39 then decode_character bytes else decode_mark (b ∷ bytes)))

pub digit_is_no_letter : (b : ℕ) → is_digit b ≡ true → is_letter b ≡ false
digit_is_no_letter b d = grind (arith, nat_tests)

pub octal_is_digit : (b : ℕ) → is_octal_digit b ≡ true → is_digit b ≡ true
octal_is_digit b d = grind (arith, nat_tests)

pub octals_are_digits : (bytes : List ℕ) → list_all is_octal_digit bytes ≡ true → list_all is_digit bytes ≡ true
octals_are_digits [] all = refl
octals_are_digits (b ∷ bytes) all =
    let parts = and_parts (is_octal_digit b) (list_all is_octal_digit bytes) all in
    and_from (is_digit b) (list_all is_digit bytes) (octal_is_digit b parts.0) (octals_are_digits bytes parts.1)

decode_identifier : (bytes : List ℕ) → is_identifier bytes ≡ true → decode bytes ≡ Some (Whole (named (word_of bytes) bytes))
decode_identifier [] all = cc
decode_identifier (b ∷ bytes) all =
    let parts = and_parts (is_letter b) (is_letter_or_digit b && list_all is_letter_or_digit bytes) all in
    let more = and_parts (is_letter_or_digit b) (list_all is_letter_or_digit bytes) parts.1 in
    rw parts.0 (rw more.1 refl)

pub decode_digits : (digits suffix : List ℕ) → one_or_more is_digit digits ≡ true → prefix_len is_digit suffix ≡ 0 → decode (digits ++ suffix) ≡ decode_suffix digits suffix
decode_digits [] suffix all none = cc
decode_digits (d ∷ digits) suffix all none =
    let parts = and_parts (is_digit d) (list_all is_digit digits) all in
    let many : prefix_len is_digit ((d ∷ digits) ++ suffix) ≡ length (d ∷ digits) = prefix_of_append is_digit (d ∷ digits) suffix all none in
    rw (digit_is_no_letter d parts.0) (number parts.0 many)
  where
    number : is_digit d ≡ true → prefix_len is_digit ((d ∷ digits) ++ suffix) ≡ length (d ∷ digits)
        → cond (is_digit d) (decode_number ((d ∷ digits) ++ suffix)) (cond (d == 39) (decode_character (digits ++ suffix)) (decode_mark ((d ∷ digits) ++ suffix))) ≡ decode_suffix (d ∷ digits) suffix
    number held many =
        cond-true _ _ _ held
        ∙ ap (λ n. decode_suffix (take n ((d ∷ digits) ++ suffix)) (drop n ((d ∷ digits) ++ suffix))) many
        ∙ ap (λ ds. decode_suffix ds (drop (length (d ∷ digits)) ((d ∷ digits) ++ suffix))) (take_at (d ∷ digits) suffix (length (d ∷ digits)) refl)
        ∙ ap (λ r. decode_suffix (d ∷ digits) r) (drop_at (d ∷ digits) suffix (length (d ∷ digits)) refl)

pub octal_list : (digits : List ℕ) → one_or_more is_octal_digit digits ≡ true → (one_or_more is_digit digits ≡ true) × (list_all is_octal_digit digits ≡ true)
octal_list [] all = cc
octal_list (d ∷ digits) all = (octals_are_digits (d ∷ digits) all, all)

-- no mark begins as another form does
abbrev begins_as_mark : List ℕ → Bool
begins_as_mark [] = false
begins_as_mark (b ∷ bytes) = not (is_letter b) && (not (is_digit b) && not (b == 39))

mark_begins : (bytes : List ℕ) (m : Mark) → mark_of bytes ≡ Some m → begins_as_mark bytes ≡ true
unfolding mark_of marks
mark_begins bytes m found = spelled_passes begins_as_mark marks bytes m refl found

decode_marks : (bytes : List ℕ) (m : Mark) → mark_of bytes ≡ Some m → decode bytes ≡ Some (Whole (k.Mark m))
decode_marks bytes m found = go bytes (mark_begins bytes m found) (ap (option_map (λ x. Whole (k.Mark x))) found)
  where
    go : (bytes : List ℕ) → begins_as_mark bytes ≡ true → decode_mark bytes ≡ Some (Whole (k.Mark m)) → decode bytes ≡ Some (Whole (k.Mark m))
    go [] begins it = cc
    go (b ∷ bytes) begins it =
        let parts = and_parts (not (is_letter b)) (not (is_digit b) && not (b == 39)) begins in
        let more = and_parts (not (is_digit b)) (not (b == 39)) parts.1 in
        rw (not-true (is_letter b) parts.0) (rw (not-true (is_digit b) more.0) (rw (not-true (b == 39) more.1) it))

-- a form that is no string gives its token back
pub decodes : {bytes : List ℕ} {y : Lexeme} → Form bytes y → begins_with 34 bytes ≡ false → decode bytes ≡ Some y
decodes (name {bytes = bs} all none) other = decode_identifier bs all ∙ ap (λ o. Some (Whole (named o bs))) none
decodes (word {bytes = bs} all found) other = decode_identifier bs all ∙ ap (λ o. Some (Whole (named o bs))) found
decodes (decimal {digits = ds} all) other = ap decode (sym (append-nil ds)) ∙ decode_digits ds [] all refl
decodes (decimal_d ds all) other = decode_digits ds (codes "D") all refl
decodes (octal_b ds all) other = decode_digits ds (codes "B") (octal_list ds all).0 refl ∙ rw ((octal_list ds all).1) refl
decodes (octal_c ds all) other = decode_digits ds (codes "C") (octal_list ds all).0 refl ∙ rw ((octal_list ds all).1) refl
decodes (character b) other = rw b refl
decodes arrow_character other = refl
decodes (text inside) other = cc
decodes (unended_text inside) other = cc
decodes (mark {bytes = bs} {m = m} found) other = decode_marks bs m found
