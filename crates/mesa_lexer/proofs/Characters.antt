-- A character stands where an apostrophe does, or nothing.
use Rattle.std.proofs.Common.{◌≡◌, ℕ, zero, suc, ◌<◌, ◌≤◌, Bool, true, false, ◌&&◌, ◌==◌, cond, List, [], ◌∷◌, length, take, None, arith, refl}
use Rattle.std.proofs.lemmas.Bool.{and_parts, eqb-true}
use Rattle.std.proofs.lemmas.Bool.Decides.{nat_tests}
use Rattle.mesa_lexer.specs.Forms.{character, arrow_character, Whole, is_printed}
use Rattle.mesa_lexer.specs.Tokens.{NoGap}
use Rattle.mesa_lexer.specs.Lexed.{Stands, begins_with_arrow, character_lexed}
use Rattle.mesa_lexer.specs.declared.token.Kind.TheVariants as k
use Rattle.mesa_lexer.specs.declared.lexed.Lexed.TheVariants.{Token, NoToken}
use Rattle.mesa_lexer.proofs.Decoding.{decode_character}
use Rattle.mesa_lexer.proofs.Longer.{no_gap, longest_decoded, nothing_decoded}

printed_no_arrow : (b : ℕ) → is_printed b ≡ true → (b == 226) ≡ false
printed_no_arrow b held = grind (arith, nat_tests)

printed_is_small : (b : ℕ) → is_printed b ≡ true → ¬ (255 < b)
printed_is_small b held over = grind (arith, nat_tests)

-- an apostrophe begins no gap
quote_gapless : (rest : List ℕ) → NoGap (39 ∷ rest)
quote_gapless rest = no_gap 39 rest refl refl

-- more than one byte behind the apostrophe is no character, where the first is printed
past_printed : (b : ℕ) (rest : List ℕ) (m : ℕ) → (b == 226) ≡ false → 2 < suc m → m ≤ length (b ∷ rest) → decode_character (take m (b ∷ rest)) ≡ None
past_printed b rest zero other over there = absurd (omega arith)
past_printed b rest (suc zero) other over there = absurd (omega arith)
past_printed b [] (suc (suc m)) other over there = absurd (omega arith)
past_printed b (c ∷ rest) (suc (suc zero)) other over there = refl
past_printed b (c ∷ []) (suc (suc (suc m))) other over there = absurd (omega arith)
past_printed b (c ∷ d ∷ rest) (suc (suc (suc zero))) other over there = rw other refl
past_printed b (c ∷ d ∷ []) (suc (suc (suc (suc m)))) other over there = absurd (omega arith)
past_printed b (c ∷ d ∷ e ∷ rest) (suc (suc (suc (suc m)))) other over there = refl

past_arrow : (b c d : ℕ) (rest : List ℕ) (m : ℕ) → 4 < suc m → m ≤ length (b ∷ c ∷ d ∷ rest) → decode_character (take m (b ∷ c ∷ d ∷ rest)) ≡ None
past_arrow b c d rest zero over there = absurd (omega arith)
past_arrow b c d rest (suc zero) over there = absurd (omega arith)
past_arrow b c d rest (suc (suc zero)) over there = absurd (omega arith)
past_arrow b c d rest (suc (suc (suc zero))) over there = absurd (omega arith)
past_arrow b c d [] (suc (suc (suc (suc m)))) over there = absurd (omega arith)
past_arrow b c d (e ∷ rest) (suc (suc (suc (suc m)))) over there = refl

no_character : (b : ℕ) (rest : List ℕ) (m : ℕ) → is_printed b ≡ false → begins_with_arrow (b ∷ rest) ≡ false → m ≤ length (b ∷ rest) → decode_character (take m (b ∷ rest)) ≡ None
no_character b rest zero dull plain there = refl
no_character b rest (suc zero) dull plain there = rw dull refl
no_character b [] (suc (suc m)) dull plain there = absurd (omega arith)
no_character b (c ∷ rest) (suc (suc zero)) dull plain there = refl
no_character b (c ∷ []) (suc (suc (suc m))) dull plain there = absurd (omega arith)
no_character b (c ∷ d ∷ rest) (suc (suc (suc zero))) dull plain there = rw plain refl
no_character b (c ∷ d ∷ []) (suc (suc (suc (suc m)))) dull plain there = absurd (omega arith)
no_character b (c ∷ d ∷ e ∷ rest) (suc (suc (suc (suc m)))) dull plain there = refl

arrow_stands : (b : ℕ) (rest : List ℕ) → begins_with_arrow (b ∷ rest) ≡ true → Stands (39 ∷ b ∷ rest) (Token 4 (k.Char 95))
arrow_stands b [] held = cc
arrow_stands b (c ∷ []) held = cc
arrow_stands b (c ∷ d ∷ rest) held =
    let parts = and_parts (b == 226) ((c == 134) && (d == 144)) held in
    let more = and_parts (c == 134) (d == 144) parts.1 in
    record {
      no_gap = quote_gapless (b ∷ c ∷ d ∷ rest);
      longest = longest_decoded 39 (b ∷ c ∷ d ∷ rest) 4 (Whole (k.Char 95)) (λ e. absurd (omega arith)) (omega arith)
          (rw (eqb-true b 226 parts.0) (rw (eqb-true c 134 more.0) (rw (eqb-true d 144 more.1) arrow_character))) (past_arrow b c d rest);
      not_large = λ h. absurd (omega arith);
      not_long = λ h. h;
    }

pub character_stands : (rest : List ℕ) → Stands (39 ∷ rest) (character_lexed rest)
character_stands [] = (quote_gapless [], nothing_decoded 39 [] (λ e. absurd (omega arith)) none)
  where
    none : (m : ℕ) → m ≤ length {A = ℕ} [] → decode_character (take m []) ≡ None
    none zero there = refl
    none (suc m) there = refl
character_stands (b ∷ rest) = by_printed (is_printed b) refl
  where
    by_arrow : is_printed b ≡ false → (a : Bool) → begins_with_arrow (b ∷ rest) ≡ a → Stands (39 ∷ b ∷ rest) (cond a (Token 4 (k.Char 95)) NoToken)
    by_arrow dull true held = arrow_stands b rest held
    by_arrow dull false plain = (quote_gapless (b ∷ rest), nothing_decoded 39 (b ∷ rest) (λ e. absurd (omega arith)) (λ m there. no_character b rest m dull plain there))

    by_printed : (p : Bool) → is_printed b ≡ p → Stands (39 ∷ b ∷ rest) (cond p (Token 2 (k.Char b)) (cond (begins_with_arrow (b ∷ rest)) (Token 4 (k.Char 95)) NoToken))
    by_printed true held = record {
      no_gap = quote_gapless (b ∷ rest);
      longest = longest_decoded 39 (b ∷ rest) 2 (Whole (k.Char b)) (λ e. absurd (omega arith)) (omega arith) (character held) (λ m over there. past_printed b rest m (printed_no_arrow b held) over there);
      not_large = printed_is_small b held;
      not_long = λ h. h;
    }
    by_printed false dull = by_arrow dull (begins_with_arrow (b ∷ rest)) refl
