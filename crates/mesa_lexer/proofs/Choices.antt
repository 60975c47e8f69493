-- What stands first, by the first byte.
use Rattle.std.proofs.Common.{◌≡◌, ℕ, suc, ◌+◌, ◌-◌, ◌<◌, ◌≤◌, Bool, true, false, ◌&&◌, cond, List, [], ◌∷◌, length, take, drop, get_or, nat_lt, nat_le, Some, None, ◌⊎◌, inl, inr, arith, refl, sym, ap, subst, ◌∙◌}
use Rattle.std.specs.Prelude.{Result, Ok, Err, IfOk}
use Rattle.std.specs.List.{list_all, prefix_len}
use Rattle.std.proofs.lemmas.Bool.{and_parts, and_from, not-true, ne_eqb, lt-ltb, le-ltb, le-leb, leb-true, cases_lt}
use Rattle.std.proofs.lemmas.List.{take_rest, length-take-le}
use Rattle.mesa_base.specs.Name.{is_letter, is_digit, is_letter_or_digit, begins_with_letter, is_name, name_of}
use Rattle.mesa_lexer.specs.Blanks.{is_blank, begins_with_hyphens, blank}
use Rattle.mesa_lexer.specs.Words.{word_of}
use Rattle.mesa_lexer.specs.Forms.{is_identifier}
use Rattle.mesa_lexer.specs.Lexed.{Stands, named, identified, identifier_lexed, number_lexed, character_lexed, mark_within, comment_len}
use Rattle.mesa_lexer.specs.declared.word.Word.{Word}
use Rattle.mesa_lexer.specs.declared.token.Kind.TheVariants as k
use Rattle.mesa_lexer.specs.declared.lexed.Lexed.{Lexed}
use Rattle.mesa_lexer.specs.declared.lexed.Lexed.TheVariants.{Gap, Token, TooLong}
use Rattle.mesa_lexer.proofs.Longer.{no_gap}
use Rattle.mesa_lexer.proofs.Limits.{word_is_short}
use Rattle.mesa_lexer.proofs.Names.{identifier_stands, spelling_all}
use Rattle.mesa_lexer.proofs.Numbers.{number_stands}
use Rattle.mesa_lexer.proofs.Characters.{character_stands}
use Rattle.mesa_lexer.proofs.MarkForms.{mark_stands}
use Rattle.mesa_lexer.proofs.Standing.{comment_stands}

behind_one : (b : ℕ) (rest : List ℕ) → take (length (b ∷ rest) - 1) (drop 1 (b ∷ rest)) ≡ rest
behind_one b rest = take_rest (b ∷ rest) 1

pub blank_first : (rest : List ℕ) → 0 < length rest → is_blank (get_or rest 0 0) ≡ true → Stands rest (Gap 1)
blank_first [] some held = absurd (omega arith)
blank_first (b ∷ rest) some held = blank held

pub hyphens_first : (rest : List ℕ) → begins_with_hyphens rest ≡ true → Stands rest (Gap (comment_len (take (length rest - 2) (drop 2 rest)) + 2)) × (2 ≤ length rest)
hyphens_first [] held = cc
hyphens_first (a ∷ rest) held = go rest (comment_stands a rest held)
  where
    go : (rest : List ℕ) → (b : ℕ) × ((behind : List ℕ) × (rest ≡ b ∷ behind) × Stands (a ∷ rest) (Gap (suc (suc (comment_len behind)))))
        → Stands (a ∷ rest) (Gap (comment_len (take (length (a ∷ rest) - 2) (drop 2 (a ∷ rest))) + 2)) × (2 ≤ length (a ∷ rest))
    go [] it = let e = it.1.1 in cc
    go (b ∷ rest) it =
        let same : rest ≡ it.1.0 = (let e = it.1.1 in cc) in
        let all : take (length (a ∷ b ∷ rest) - 2) (drop 2 (a ∷ b ∷ rest)) ≡ it.1.0 = take_rest (a ∷ b ∷ rest) 2 ∙ same in
        let two : comment_len it.1.0 + 2 ≡ suc (suc (comment_len it.1.0)) = omega arith in
        (rw all (rw two it.1.2), omega arith)

pub letter_first : (rest : List ℕ) → 0 < length rest → is_letter (get_or rest 0 0) ≡ true → Stands rest (identifier_lexed rest)
letter_first [] some held = absurd (omega arith)
letter_first (b ∷ rest) some held = identifier_stands b rest held

pub begins_letter : (rest : List ℕ) → 0 < length rest → is_letter (get_or rest 0 0) ≡ true → begins_with_letter rest ≡ true
begins_letter [] some held = absurd (omega arith)
begins_letter (b ∷ rest) some held = held

pub digit_first : (rest : List ℕ) → 0 < length rest → is_digit (get_or rest 0 0) ≡ true → Stands rest (number_lexed rest)
digit_first [] some held = absurd (omega arith)
digit_first (b ∷ rest) some held = number_stands b rest held

pub apostrophe_first : (rest : List ℕ) → 0 < length rest → get_or rest 0 0 ≡ 39 → Stands rest (character_lexed (take (length rest - 1) (drop 1 rest)))
apostrophe_first [] some held = absurd (omega arith)
apostrophe_first (b ∷ rest) some held = rw (behind_one b rest) (rw held (character_stands rest))

pub quote_first : (rest : List ℕ) (p : Lexed) → 0 < length rest → get_or rest 0 0 ≡ 34 → Stands (34 ∷ take (length rest - 1) (drop 1 rest)) p → Stands rest p
quote_first [] p some held stands = absurd (omega arith)
quote_first (b ∷ rest) p some held stands = subst (λ l. Stands l p) (ap (λ l. 34 ∷ l) (behind_one b rest) ∙ ap (λ c. c ∷ rest) (sym held)) stands

pub mark_first : (rest : List ℕ) → 0 < length rest → is_blank (get_or rest 0 0) ≡ false → begins_with_hyphens rest ≡ false → is_letter (get_or rest 0 0) ≡ false
    → is_digit (get_or rest 0 0) ≡ false → (get_or rest 0 0 ≡ 39 → ⊥) → (get_or rest 0 0 ≡ 34 → ⊥) → Stands rest (mark_within 3 rest)
mark_first [] some unblank plain no_letter no_digit no_apostrophe no_quote = absurd (omega arith)
mark_first (b ∷ rest) some unblank plain no_letter no_digit no_apostrophe no_quote =
    mark_stands b rest (record { gapless = no_gap b rest unblank plain; no_letter = no_letter; no_digit = no_digit; no_apostrophe = ne_eqb b 39 no_apostrophe; no_quote = ne_eqb b 34 no_quote })

-- an identifier by whether it is a word, and whether it is a name
pub word_identified : (spelling : List ℕ) (w : Word) → Some w ≡ word_of spelling → Token (length spelling) (k.Word w) ≡ identified spelling
word_identified spelling w found =
    let short = not-true (nat_lt 255 (length spelling)) (word_is_short spelling w (sym found)) in
    rw short (ap (λ o. Token (length spelling) (named o spelling)) found)

pub name_identified : (spelling name : List ℕ) → None ≡ word_of spelling → Some name ≡ name_of spelling → Token (length spelling) (k.Name name) ≡ identified spelling
name_identified spelling name none found = go (is_name spelling) refl found
  where
    go : (b : Bool) → is_name spelling ≡ b → Some name ≡ cond b (Some spelling) None → Token (length spelling) (k.Name name) ≡ identified spelling
    go false e f = cc
    go true e f =
        let parts = and_parts (begins_with_letter spelling) (list_all is_letter_or_digit spelling && nat_le (length spelling) 255) e in
        let more = and_parts (list_all is_letter_or_digit spelling) (nat_le (length spelling) 255) parts.1 in
        let short : length spelling ≤ 255 = leb-true (length spelling) 255 more.1 in
        let same : name ≡ spelling = cc in
        rw (le-ltb 255 (length spelling) short) (ap (λ n. Token (length spelling) (k.Name n)) same ∙ ap (λ o. Token (length spelling) (named o spelling)) none)

pub long_identified : (spelling : List ℕ) → is_identifier spelling ≡ true → None ≡ name_of spelling → TooLong ≡ identified spelling
long_identified spelling all none = go (cases_lt 255 (length spelling))
  where
    go : (255 < length spelling) ⊎ (length spelling ≤ 255) → TooLong ≡ identified spelling
    go (inl over) = rw (lt-ltb 255 (length spelling) over) refl
    go (inr short) =
        let parts = and_parts (begins_with_letter spelling) (list_all is_letter_or_digit spelling) all in
        let name : is_name spelling ≡ true = and_from (begins_with_letter spelling) _ parts.0 (and_from (list_all is_letter_or_digit spelling) _ parts.1 (le-leb (length spelling) 255 short)) in
        let none' = rw name at none in
        cc

-- the same of the letters and digits that stand first
pub word_lexed : (rest : List ℕ) (count : ℕ) (w : Word) → count ≡ prefix_len is_letter_or_digit rest → count ≤ length rest → Some w ≡ word_of (take count rest)
    → Token count (k.Word w) ≡ identifier_lexed rest
word_lexed rest count w is within found =
    ap (λ n. Token n (k.Word w)) (sym (length-take-le count rest within))
    ∙ word_identified (take count rest) w found
    ∙ ap (λ n. identified (take n rest)) is

pub long_lexed : (rest : List ℕ) (count : ℕ) → count ≡ prefix_len is_letter_or_digit rest → begins_with_letter rest ≡ true → None ≡ name_of (take count rest) → TooLong ≡ identifier_lexed rest
long_lexed [] count is held none = cc
long_lexed (b ∷ rest) count is held none =
    long_identified (take (prefix_len is_letter_or_digit (b ∷ rest)) (b ∷ rest)) (spelling_all b rest held) (none ∙ ap (λ n. name_of (take n (b ∷ rest))) is)

-- what an answer holds
pub stands_of : {E : Type 0} (rest : List ℕ) (answer : Result Lexed E) → Stands rest (identifier_lexed rest) → IfOk answer (λ p. p ≡ identifier_lexed rest) → IfOk answer (λ p. Stands rest p)
stands_of rest (Ok p) stands same = rw same stands
stands_of rest (Err e) stands same = tt
