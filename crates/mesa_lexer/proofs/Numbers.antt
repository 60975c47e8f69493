-- A number, or a character by its octal code, stands where a digit does.
use Rattle.std.proofs.Common.{◌≡◌, ℕ, zero, suc, ◌+◌, ◌-◌, ◌<◌, ◌≤◌, Bool, true, false, ◌&&◌, ◌==◌, List, [], ◌∷◌, ◌++◌, length, take, drop, None, arith, refl, ap, subst, ◌∙◌, one-add, add-zero}
use Rattle.std.specs.List.{list_all, prefix_len}
use Rattle.std.proofs.lemmas.Bool.{and_parts, ne_eqb, eqb-true}
use Rattle.std.proofs.lemmas.Bool.Decides.{nat_tests}
use Rattle.std.proofs.lemmas.List.{append-nil}
use Rattle.std.proofs.Math.Seq.{take-add}
use Rattle.mesa_base.specs.Name.{is_digit}
use Rattle.mesa_lexer.specs.Blanks.{begins_with, is_blank}
use Rattle.mesa_lexer.specs.Forms.{Form, decimal, decimal_d, octal_b, octal_c, Lexeme, Whole, is_octal_digit, one_or_more, number_in, Longest}
use Rattle.mesa_lexer.specs.Tokens.{NoGap}
use Rattle.mesa_lexer.specs.Lexed.{Stands, suffixed, number_lexed}
use Rattle.mesa_lexer.specs.declared.token.Kind.TheVariants as k
use Rattle.mesa_lexer.proofs.Prefixes.{prefix_all, prefix_of_take}
use Rattle.mesa_lexer.proofs.Decoding.{decode, decodes, decode_suffix}
use Rattle.mesa_lexer.proofs.Longer.{no_gap}
use Rattle.std.proofs.lemmas.List.{take_at, drop_at, length-append, take-append-drop}
use Rattle.mesa_lexer.proofs.Prefixes.{none_after}
use Rattle.mesa_lexer.proofs.Decoding.{decode_digits}
use Rattle.mesa_lexer.proofs.Limits.{numbered_stands, coded_stands}

take_through : (xs ys : List ℕ) (i : ℕ) → take (length xs + i) (xs ++ ys) ≡ xs ++ take i ys
take_through xs ys i =
    take-add (length xs) i (xs ++ ys)
    ∙ ap (λ l. l ++ take i (drop (length xs) (xs ++ ys))) (take_at xs ys (length xs) refl)
    ∙ ap (λ l. xs ++ take i l) (drop_at xs ys (length xs) refl)

digit_unquoted : (ds ys : List ℕ) → one_or_more is_digit ds ≡ true → begins_with 34 (ds ++ ys) ≡ false
digit_unquoted [] ys all = cc
digit_unquoted (d ∷ ds) ys all =
    let parts = and_parts (is_digit d) (list_all is_digit ds) all in
    ne_eqb d 34 (λ e. let h = rw e at parts.0 in cc)

decode_taken : (ds after : List ℕ) (i : ℕ) → one_or_more is_digit ds ≡ true → prefix_len is_digit after ≡ 0
    → decode (take (length ds + i) (ds ++ after)) ≡ decode_suffix ds (take i after)
decode_taken ds after i all none =
    ap decode (take_through ds after i)
    ∙ decode_digits ds (take i after) all (let low : prefix_len is_digit after ≤ i = omega arith in prefix_of_take is_digit after i low ∙ none)

longest_number : (ds after : List ℕ) (j : ℕ) (y : Lexeme) → one_or_more is_digit ds ≡ true → prefix_len is_digit after ≡ 0 → j ≤ length after
    → Form (ds ++ take j after) y → ((i : ℕ) → j < i → i ≤ length after → decode_suffix ds (take i after) ≡ None) → Longest (ds ++ after) (length ds + j) y
longest_number ds after j y all none there form past =
    record { is_there = omega (arith, length-append ds after); is_form = rw (take_through ds after j) form; no_longer = longer }
  where
    longer : (m : ℕ) (other : Lexeme) → length ds + j < m → m ≤ length (ds ++ after) → ¬ Form (take m (ds ++ after)) other
    longer m other over within form =
        let i : ℕ = m - length ds in
        let m_is : m ≡ length ds + i = omega arith in
        let form' : Form (take (length ds + i) (ds ++ after)) other = rw m_is at form in
        let some = decodes form' (rw (take_through ds after i) (digit_unquoted ds (take i after) all)) in
        let taken = decode_taken ds after i all none in
        let nothing = past i (omega arith) (omega (arith, length-append ds after)) in
        cc

digits_gapless : (ds after : List ℕ) → one_or_more is_digit ds ≡ true → NoGap (ds ++ after)
digits_gapless [] after all = cc
digits_gapless (d ∷ ds) after all =
    let parts = and_parts (is_digit d) (list_all is_digit ds) all in
    no_gap d (ds ++ after) (unblank d parts.0) (rw (no_hyphen d parts.0) refl)
  where
    unblank : (b : ℕ) → is_digit b ≡ true → is_blank b ≡ false
    unblank b held = grind (arith, nat_tests)

    no_hyphen : (b : ℕ) → is_digit b ≡ true → (b == 45) ≡ false
    no_hyphen b held = grind (arith, nat_tests)

octals : (ds : List ℕ) → one_or_more is_digit ds ≡ true → list_all is_octal_digit ds ≡ true → one_or_more is_octal_digit ds ≡ true
octals [] all octal = cc
octals (d ∷ ds) all octal = octal

suffixed_stands : (ds after : List ℕ) → one_or_more is_digit ds ≡ true → prefix_len is_digit after ≡ 0 → Stands (ds ++ after) (suffixed ds after)
suffixed_stands ds [] all none =
    numbered_stands (ds ++ []) (length ds) (number_in 10 ds) (digits_gapless ds [] all)
    (rw add-zero at (longest_number ds [] 0 (Whole (k.Number (number_in 10 ds))) all none (omega arith) (rw (append-nil ds) (decimal all)) (λ i over there. absurd (omega arith))))
suffixed_stands ds (s ∷ after) all none = by_d (s == 68) refl
  where
    whole : List ℕ
    whole = ds ++ s ∷ after

    gapless : NoGap (ds ++ s ∷ after)
    gapless = digits_gapless ds (s ∷ after) all

    two : (i : ℕ) → 1 < i → i ≤ length (s ∷ after) → decode_suffix ds (take i (s ∷ after)) ≡ None
    two i over there = go i after over there
      where
        go : (i : ℕ) (after : List ℕ) → 1 < i → i ≤ length (s ∷ after) → decode_suffix ds (take i (s ∷ after)) ≡ None
        go zero after over there = absurd (omega arith)
        go (suc zero) after over there = absurd (omega arith)
        go (suc (suc i)) [] over there = absurd (omega arith)
        go (suc (suc i)) (t ∷ after) over there = refl

    by_d : (d : Bool) → (s == 68) ≡ d → Stands (ds ++ s ∷ after) (suffixed ds (s ∷ after))
    by_d true is_d =
        rw is_d (numbered_stands (ds ++ s ∷ after) (length ds + 1) (number_in 10 ds) gapless
        (longest_number ds (s ∷ after) 1 (Whole (k.Number (number_in 10 ds))) all none (omega arith) (rw (eqb-true s 68 is_d) (decimal_d ds all)) two))
    by_d false not_d = by_b ((s == 66) && list_all is_octal_digit ds) refl
      where
        by_b : (d : Bool) → ((s == 66) && list_all is_octal_digit ds) ≡ d → Stands (ds ++ s ∷ after) (suffixed ds (s ∷ after))
        by_b true is_b =
            let parts = and_parts (s == 66) (list_all is_octal_digit ds) is_b in
            rw not_d (rw is_b (numbered_stands (ds ++ s ∷ after) (length ds + 1) (number_in 8 ds) gapless
            (longest_number ds (s ∷ after) 1 (Whole (k.Number (number_in 8 ds))) all none (omega arith) (rw (eqb-true s 66 parts.0) (octal_b ds (octals ds all parts.1))) two)))
        by_b false not_b = by_c ((s == 67) && list_all is_octal_digit ds) refl
          where
            by_c : (d : Bool) → ((s == 67) && list_all is_octal_digit ds) ≡ d → Stands (ds ++ s ∷ after) (suffixed ds (s ∷ after))
            by_c true is_c =
                let parts = and_parts (s == 67) (list_all is_octal_digit ds) is_c in
                rw not_d (rw not_b (rw is_c (coded_stands (ds ++ s ∷ after) (length ds + 1) (number_in 8 ds) gapless
                (longest_number ds (s ∷ after) 1 (Whole (k.Char (number_in 8 ds))) all none (omega arith) (rw (eqb-true s 67 parts.0) (octal_c ds (octals ds all parts.1))) two))))
            by_c false not_c =
                rw not_d (rw not_b (rw not_c (numbered_stands (ds ++ s ∷ after) (length ds) (number_in 10 ds) gapless
                (rw add-zero at (longest_number ds (s ∷ after) 0 (Whole (k.Number (number_in 10 ds))) all none (omega arith) (rw (append-nil ds) (decimal all)) one)))))
              where
                one : (i : ℕ) → 0 < i → i ≤ length (s ∷ after) → decode_suffix ds (take i (s ∷ after)) ≡ None
                one zero over there = absurd (omega arith)
                one (suc zero) over there = rw not_d (rw not_b (rw not_c refl))
                one (suc (suc i)) over there = two (suc (suc i)) (omega arith) there

pub number_stands : (b : ℕ) (rest : List ℕ) → is_digit b ≡ true → Stands (b ∷ rest) (number_lexed (b ∷ rest))
number_stands b rest held =
    let whole : List ℕ = b ∷ rest in
    let count : ℕ = prefix_len is_digit whole in
    subst (λ l. Stands l (number_lexed (b ∷ rest))) (take-append-drop (prefix_len is_digit (b ∷ rest)) (b ∷ rest))
    (suffixed_stands (take (prefix_len is_digit (b ∷ rest)) (b ∷ rest)) (drop (prefix_len is_digit (b ∷ rest)) (b ∷ rest)) some (none_after is_digit (b ∷ rest)))
  where
    some : one_or_more is_digit (take (prefix_len is_digit (b ∷ rest)) (b ∷ rest)) ≡ true
    some = rw held (rw one-add (rw held (prefix_all is_digit rest)))
