-- Blanks and comments: the count of bytes is a function of the text.
use Rattle.std.proofs.Common.{◌≡◌, ℕ, suc, ◌<◌, ◌≤◌, Bool, true, false, ◌==◌, cond, if◌then◌else◌, List, [], ◌∷◌, length, arith, refl, sym, ap}
use Rattle.std.proofs.lemmas.Bool.{and_parts, eqb-true}
use Rattle.mesa_lexer.specs.Blanks.{ends_line, is_blank, begins_with_hyphens, GoesOn, to_text_end, to_line_end, through_hyphens, past, IsGap, blank, comment}
use Rattle.mesa_lexer.specs.Lexed.{comment_len}

pub goes_on : (rest : List ℕ) → GoesOn rest (comment_len rest)
goes_on [] = to_text_end
goes_on (b ∷ rest) = by_line (ends_line b) refl (goes_on rest)
  where
    by_hyphens : ends_line b ≡ false → GoesOn rest (comment_len rest) → (h : Bool) → begins_with_hyphens (b ∷ rest) ≡ h → GoesOn (b ∷ rest) (cond h 2 (suc (comment_len rest)))
    by_hyphens inside later true e = through_hyphens e
    by_hyphens inside later false e = past inside e later

    by_line : (l : Bool) → ends_line b ≡ l → GoesOn rest (comment_len rest) → GoesOn (b ∷ rest) (cond l 0 (cond (begins_with_hyphens (b ∷ rest)) 2 (suc (comment_len rest))))
    by_line true e later = to_line_end e
    by_line false e later = by_hyphens e later (begins_with_hyphens (b ∷ rest)) refl

hyphen_inside : (b : ℕ) → (b == 45) ≡ true → ends_line b ≡ false
hyphen_inside b e = rw (eqb-true b 45 e) refl

hyphen_unblank : (b : ℕ) → (b == 45) ≡ true → is_blank b ≡ false
hyphen_unblank b e = rw (eqb-true b 45 e) refl

hyphens_two : (rest : List ℕ) → begins_with_hyphens rest ≡ true → (comment_len rest ≡ 2) × (2 ≤ length rest)
hyphens_two [] e = cc
hyphens_two (a ∷ []) e = let parts = and_parts (a == 45) false e in cc
hyphens_two (a ∷ b ∷ rest) e =
    let parts = and_parts (a == 45) (b == 45) e in
    (rw (hyphen_inside a parts.0) (rw e refl), omega arith)

goes_on_len : {rest : List ℕ} {n : ℕ} → GoesOn rest n → (n ≡ comment_len rest) × (n ≤ length rest)
goes_on_len to_text_end = (refl, omega arith)
goes_on_len (to_line_end e) = (rw e refl, omega arith)
goes_on_len (through_hyphens {rest = rest} e) = let two = hyphens_two rest e in (sym two.0, two.1)
goes_on_len (past inside plain later) = let more = goes_on_len later in (rw inside (rw plain (ap suc more.0)), let l = more.1 in omega arith)

abbrev gap_len : List ℕ → ℕ
gap_len [] = 0
gap_len (a ∷ []) = 1
gap_len (a ∷ b ∷ rest) = if is_blank a then 1 else suc (suc (comment_len rest))

pub gap_is : {rest : List ℕ} {n : ℕ} → IsGap rest n → (n ≡ gap_len rest) × (0 < n) × (n ≤ length rest)
gap_is (blank {b = b} {rest = rest} held) = (go rest, omega arith, omega arith)
  where
    go : (rest : List ℕ) → 1 ≡ gap_len (b ∷ rest)
    go [] = refl
    go (c ∷ rest) = rw held refl
gap_is (comment {a = a} {b = b} {rest = rest} held later) =
    let parts = and_parts (a == 45) (b == 45) held in
    let more = goes_on_len later in
    (rw (hyphen_unblank a parts.0) (ap (λ n. suc (suc n)) more.0), omega arith, let l = more.1 in omega arith)
