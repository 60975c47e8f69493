-- Names, numbers, characters and marks: what the scanner finds is the longest form.
use Rattle.std.proofs.Common.{◌≡◌, ◌≢◌, ℕ, zero, suc, ◌<◌, ◌≤◌, Bool, false, List, [], ◌∷◌, length, take, None, arith, refl}
use Rattle.std.proofs.lemmas.Bool.{ne_eqb}
use Rattle.mesa_lexer.specs.Blanks.{begins_with_hyphens, is_blank, IsGap, blank, comment}
use Rattle.mesa_lexer.specs.Forms.{Form, Lexeme, Longest, NothingBegins}
use Rattle.mesa_lexer.specs.Tokens.{NoGap}
use Rattle.mesa_lexer.proofs.Decoding.{decode, decodes}

abbrev is_first_blank : List ℕ → Bool
is_first_blank [] = false
is_first_blank (b ∷ rest) = is_blank b

-- neither a blank nor a comment begins with such bytes
pub no_gap : (b : ℕ) (rest : List ℕ) → is_blank b ≡ false → begins_with_hyphens (b ∷ rest) ≡ false → NoGap (b ∷ rest)
no_gap b rest unblank plain n gap = go gap unblank plain
  where
    go : {bytes : List ℕ} {n : ℕ} → IsGap bytes n → is_first_blank bytes ≡ false → begins_with_hyphens bytes ≡ false → ⊥
    go (blank is) un pl = cc
    go (comment is on) un pl = cc

-- the longest form, where no more of the bytes give a token back
pub longest_decoded : (b : ℕ) (rest : List ℕ) (n : ℕ) (y : Lexeme) → b ≢ 34 → n ≤ length (b ∷ rest) → Form (take n (b ∷ rest)) y
    → ((m : ℕ) → n < suc m → m ≤ length rest → decode (b ∷ take m rest) ≡ None) → Longest (b ∷ rest) n y
longest_decoded b rest n y unquoted there form past = record { is_there = there; is_form = form; no_longer = longer }
  where
    longer : (m : ℕ) (other : Lexeme) → n < m → m ≤ length (b ∷ rest) → ¬ Form (take m (b ∷ rest)) other
    longer zero other over there form = absurd (omega arith)
    longer (suc m) other over there form =
        let some = decodes form (ne_eqb b 34 unquoted) in
        let none = past m over (omega arith) in
        cc

-- nothing begins, where no bytes give a token back
pub nothing_decoded : (b : ℕ) (rest : List ℕ) → b ≢ 34 → ((m : ℕ) → m ≤ length rest → decode (b ∷ take m rest) ≡ None) → NothingBegins (b ∷ rest)
nothing_decoded b rest unquoted past zero other there form = let some = decodes form refl in cc
nothing_decoded b rest unquoted past (suc m) other there form =
    let some = decodes form (ne_eqb b 34 unquoted) in
    let none = past m (omega arith) in
    cc
