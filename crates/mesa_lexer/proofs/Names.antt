-- A name or a word stands where a letter does.
use Rattle.std.proofs.Common.{◌≡◌, ◌≢◌, ℕ, suc, ◌+◌, ◌<◌, ◌≤◌, true, false, ◌==◌, List, ◌∷◌, length, take, Option, Some, None, arith, refl, one-add}
use Rattle.std.specs.List.{prefix_len}
use Rattle.std.proofs.lemmas.Bool.Decides.{nat_tests}
use Rattle.std.proofs.lemmas.List.{length-take-le}
use Rattle.std.proofs.lemmas.List.Sums.{prefix_len-le-length}
use Rattle.mesa_base.specs.Name.{is_letter, is_letter_or_digit}
use Rattle.mesa_lexer.specs.Blanks.{is_blank}
use Rattle.mesa_lexer.specs.Words.{word_of}
use Rattle.mesa_lexer.specs.Forms.{Form, name, word, Whole, is_identifier}
use Rattle.mesa_lexer.specs.Lexed.{named, Stands, identifier_lexed}
use Rattle.mesa_lexer.specs.declared.word.Word.{Word}
use Rattle.mesa_lexer.proofs.Prefixes.{past_prefix, prefix_all}
use Rattle.mesa_lexer.proofs.Decoding.{decode}
use Rattle.mesa_lexer.proofs.Longer.{no_gap, longest_decoded}
use Rattle.mesa_lexer.proofs.Limits.{identified_stands}

letter_unblank : (b : ℕ) → is_letter b ≡ true → is_blank b ≡ false
letter_unblank b held = grind (arith, nat_tests)

letter_no_hyphen : (b : ℕ) → is_letter b ≡ true → (b == 45) ≡ false
letter_no_hyphen b held = grind (arith, nat_tests)

letter_no_quote : (b : ℕ) → is_letter b ≡ true → b ≢ 34
letter_no_quote b held = λ e. let h = rw e at held in cc

-- the letters and digits at the front are an identifier, where a letter is first
pub spelling_all : (b : ℕ) (rest : List ℕ) → is_letter b ≡ true → is_identifier (take (prefix_len is_letter_or_digit (b ∷ rest)) (b ∷ rest)) ≡ true
spelling_all b rest held =
    let either : is_letter_or_digit b ≡ true = rw held refl in
    rw either (rw one-add (rw held (prefix_all is_letter_or_digit rest)))

pub identifier_stands : (b : ℕ) (rest : List ℕ) → is_letter b ≡ true → Stands (b ∷ rest) (identifier_lexed (b ∷ rest))
identifier_stands b rest held =
    identified_stands (b ∷ rest) spelling
    (no_gap b rest (letter_unblank b held) (rw (letter_no_hyphen b held) refl))
    (rw (length-take-le count (b ∷ rest) (prefix_len-le-length is_letter_or_digit (b ∷ rest))) (longest_decoded b rest count (Whole (named (word_of spelling) spelling)) (letter_no_quote b held) (prefix_len-le-length is_letter_or_digit (b ∷ rest)) form past))
  where
    count : ℕ
    count = prefix_len is_letter_or_digit (b ∷ rest)

    spelling : List ℕ
    spelling = take count (b ∷ rest)

    either : is_letter_or_digit b ≡ true
    either = rw held refl

    all : is_identifier (take (prefix_len is_letter_or_digit (b ∷ rest)) (b ∷ rest)) ≡ true
    all = rw either (rw one-add (rw held (prefix_all is_letter_or_digit rest)))

    form : Form spelling (Whole (named (word_of spelling) spelling))
    form = go (word_of spelling) refl
      where
        go : (o : Option Word) → word_of spelling ≡ o → Form spelling (Whole (named o spelling))
        go None e = name all e
        go (Some w) e = word all e

    past : (m : ℕ) → count < suc m → m ≤ length rest → decode (b ∷ take m rest) ≡ None
    past m over there =
        let over' : prefix_len is_letter_or_digit rest < m = (let h : 1 + prefix_len is_letter_or_digit rest < suc m = rw either at over in omega arith) in
        rw held (rw (past_prefix is_letter_or_digit rest m over' there) refl)
