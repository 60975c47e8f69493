-- A mark stands where no other token begins, or nothing.
use Rattle.std.proofs.Common.{◌≡◌, ℕ, zero, suc, ◌<◌, ◌≤◌, true, false, ◌==◌, List, ◌∷◌, length, take, Option, Some, None, arith, refl, ap, ◌∙◌, nat_lt, min, option_map, ◌⊎◌, inl, inr}
use Rattle.std.proofs.lemmas.Bool.{ltb-true, eqb-false, cases_eq}
use Rattle.std.proofs.lemmas.List.{length-take, length-take-le}
use Rattle.mesa_base.specs.Name.{is_letter, is_digit}
use Rattle.mesa_lexer.specs.Marks.{mark_of, marks}
use Rattle.mesa_lexer.specs.Forms.{mark, Whole}
use Rattle.mesa_lexer.specs.Tokens.{NoGap}
use Rattle.mesa_lexer.specs.Lexed.{Stands, marked, mark_within}
use Rattle.mesa_lexer.specs.declared.mark.Mark.{Mark}
use Rattle.mesa_lexer.specs.declared.token.Kind.TheVariants as k
use Rattle.mesa_lexer.proofs.Rows.{spelled_passes}
use Rattle.mesa_lexer.proofs.Decoding.{decode}
use Rattle.mesa_lexer.proofs.Longer.{longest_decoded, nothing_decoded}
use Rattle.std.proofs.lemmas.List.{take_min}

mark_is_short : (bytes : List ℕ) (m : Mark) → mark_of bytes ≡ Some m → nat_lt (length bytes) 4 ≡ true
unfolding mark_of marks
mark_is_short bytes m found = spelled_passes (λ spelling. nat_lt (length spelling) 4) marks bytes m refl found

no_long_mark : (rest : List ℕ) (m : ℕ) → 3 < m → m ≤ length rest → mark_of (take m rest) ≡ None
no_long_mark rest m over there = go (mark_of (take m rest)) refl
  where
    go : (o : Option Mark) → mark_of (take m rest) ≡ o → o ≡ None
    go None e = refl
    go (Some x) e = absurd (let short = ltb-true (length (take m rest)) 4 (mark_is_short (take m rest) x e) in omega (arith, length-take-le m rest there))

-- a byte with which no other form begins
pub record BeginsMark (b : ℕ) (rest : List ℕ) : Type 0 where
  pub gapless : NoGap (b ∷ rest)
  pub no_letter : is_letter b ≡ false
  pub no_digit : is_digit b ≡ false
  pub no_apostrophe : (b == 39) ≡ false
  pub no_quote : (b == 34) ≡ false

decode_as_mark : (b : ℕ) (rest : List ℕ) (m : ℕ) → BeginsMark b rest → mark_of (take (suc m) (b ∷ rest)) ≡ None → decode (b ∷ take m rest) ≡ None
decode_as_mark b rest m begins none = rw begins.no_letter (rw begins.no_digit (rw begins.no_apostrophe (ap (option_map (λ x. Whole (k.Mark x))) none)))

within_stands : (b : ℕ) (rest : List ℕ) → BeginsMark b rest → (n : ℕ) → ((m : ℕ) → n < m → m ≤ length (b ∷ rest) → mark_of (take m (b ∷ rest)) ≡ None)
    → Stands (b ∷ rest) (mark_within n (b ∷ rest))
within_stands b rest begins zero past =
    (begins.gapless, nothing_decoded b rest (eqb-false b 34 begins.no_quote) (λ m there. decode_as_mark b rest m begins (past (suc m) (omega arith) (omega arith))))
within_stands b rest begins (suc n) past = go (mark_of (take (suc n) (b ∷ rest))) refl (within_stands b rest begins n)
  where
    taken : ℕ
    taken = length (take (suc n) (b ∷ rest))

    taken_is : taken ≡ min (suc n) (length (b ∷ rest))
    taken_is = length-take (suc n) (b ∷ rest)

    go : (o : Option Mark) → mark_of (take (suc n) (b ∷ rest)) ≡ o
        → (((m : ℕ) → n < m → m ≤ length (b ∷ rest) → mark_of (take m (b ∷ rest)) ≡ None) → Stands (b ∷ rest) (mark_within n (b ∷ rest)))
        → Stands (b ∷ rest) (marked o (length (take (suc n) (b ∷ rest))) (mark_within n (b ∷ rest)))
    go (Some x) e more = record {
      no_gap = begins.gapless;
      longest = longest_decoded b rest taken (Whole (k.Mark x)) (eqb-false b 34 begins.no_quote) (omega (arith, taken_is))
          (mark (ap (λ l. mark_of (take l (b ∷ rest))) taken_is ∙ ap mark_of (take_min (suc n) (b ∷ rest)) ∙ e))
          (λ m over there. decode_as_mark b rest m begins (past (suc m) (omega (arith, taken_is)) (omega arith)));
      not_large = λ h. h;
      not_long = λ h. h;
    }
    go None e more = more further
      where
        further : (m : ℕ) → n < m → m ≤ length (b ∷ rest) → mark_of (take m (b ∷ rest)) ≡ None
        further m over there = split (cases_eq m (suc n))
          where
            split : (m ≡ suc n) ⊎ (m ≡ suc n → ⊥) → mark_of (take m (b ∷ rest)) ≡ None
            split (inl same) = rw same e
            split (inr other) = past m (omega arith) there

pub mark_stands : (b : ℕ) (rest : List ℕ) → BeginsMark b rest → Stands (b ∷ rest) (mark_within 3 (b ∷ rest))
mark_stands b rest begins = within_stands b rest begins 3 (no_long_mark (b ∷ rest))
