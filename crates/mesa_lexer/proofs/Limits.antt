-- A longest form within its limits is a token, and past them it is not.
use Rattle.std.proofs.Common.{◌≡◌, ℕ, Bool, true, false, not, cond, List, length, Option, Some, None, arith, refl, nat_lt}
use Rattle.std.proofs.lemmas.Bool.{not-true, ltb-true, ltb-false}
use Rattle.mesa_lexer.specs.Words.{word_of, words}
use Rattle.mesa_lexer.specs.Forms.{Whole, Longest}
use Rattle.mesa_lexer.specs.Tokens.{NoGap}
use Rattle.mesa_lexer.specs.Lexed.{named, Stands, identified, numbered, coded}
use Rattle.mesa_lexer.specs.declared.word.Word.{Word}
use Rattle.mesa_lexer.specs.declared.token.Kind.TheVariants as k
use Rattle.mesa_lexer.specs.declared.lexed.Lexed.TheVariants.{Token, TooLarge, TooLong}
use Rattle.mesa_lexer.proofs.Rows.{spelled_passes}

pub word_is_short : (bytes : List ℕ) (w : Word) → word_of bytes ≡ Some w → not (nat_lt 255 (length bytes)) ≡ true
unfolding word_of words
word_is_short bytes w found = spelled_passes (λ spelling. not (nat_lt 255 (length spelling))) words bytes w refl found

pub identified_stands : (rest bytes : List ℕ) → NoGap rest → Longest rest (length bytes) (Whole (named (word_of bytes) bytes)) → Stands rest (identified bytes)
identified_stands rest bytes gapless long = go (word_of bytes) refl (nat_lt 255 (length bytes)) refl long
  where
    go : (o : Option Word) → word_of bytes ≡ o → (b : Bool) → nat_lt 255 (length bytes) ≡ b → Longest rest (length bytes) (Whole (named o bytes))
        → Stands rest (cond b TooLong (Token (length bytes) (named (word_of bytes) bytes)))
    go None e true over long = (gapless, record { n = length bytes; kind = k.Name bytes; longest = long; passed = ltb-true 255 (length bytes) over })
    go None e false over long = rw e (record { no_gap = gapless; longest = long; not_large = λ h. h; not_long = λ h. let low = ltb-false 255 (length bytes) over in absurd (omega arith) })
    go (Some w) e true over long = let short = not-true (nat_lt 255 (length bytes)) (word_is_short bytes w e) in cc
    go (Some w) e false over long = rw e (record { no_gap = gapless; longest = long; not_large = λ h. h; not_long = λ h. h })

pub numbered_stands : (rest : List ℕ) (n value : ℕ) → NoGap rest → Longest rest n (Whole (k.Number value)) → Stands rest (numbered n value)
numbered_stands rest n value gapless long = go (nat_lt 4294967295 value) refl
  where
    go : (b : Bool) → nat_lt 4294967295 value ≡ b → Stands rest (cond b TooLarge (Token n (k.Number value)))
    go true over = (gapless, record { n = n; kind = k.Number value; longest = long; passed = ltb-true 4294967295 value over })
    go false over = record { no_gap = gapless; longest = long; not_large = λ h. let low = ltb-false 4294967295 value over in absurd (omega arith); not_long = λ h. h }

pub coded_stands : (rest : List ℕ) (n code : ℕ) → NoGap rest → Longest rest n (Whole (k.Char code)) → Stands rest (coded n code)
coded_stands rest n code gapless long = go (nat_lt 255 code) refl
  where
    go : (b : Bool) → nat_lt 255 code ≡ b → Stands rest (cond b TooLarge (Token n (k.Char code)))
    go true over = (gapless, record { n = n; kind = k.Char code; longest = long; passed = ltb-true 255 code over })
    go false over = record { no_gap = gapless; longest = long; not_large = λ h. let low = ltb-false 255 code over in absurd (omega arith); not_long = λ h. h }
