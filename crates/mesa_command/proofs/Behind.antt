-- The words behind the first, and those between the first and the last, one after the other.
use Rattle.std.proofs.Common.{◌≡◌, ℕ, zero, suc, ◌+◌, ◌-◌, ◌<◌, ◌≤◌, List, [], ◌∷◌, ◌++◌, length, take, Some, slice_get, refl, sym, ◌∙◌, ap, subst, arith}
use Rattle.command_lines.specs.Words.{behind_first, before_last, between}

one_more : (ws : List (List ℕ)) (k : ℕ) (w : List ℕ) → slice_get ws k ≡ Some w → take (suc k) ws ≡ take k ws ++ w ∷ []
one_more [] k w e = absurd cc
one_more (v ∷ ws) zero w e = let same : v ≡ w = cc in ap (λ z. z ∷ []) same
one_more (v ∷ ws) (suc k) w e = ap (λ z. v ∷ z) (one_more ws k w e)

pub next_base : (ws : List (List ℕ)) (at : ℕ) (w : List ℕ) → 1 ≤ at → slice_get ws at ≡ Some w
    → take (at + 1 - 1) (behind_first ws) ≡ take (at - 1) (behind_first ws) ++ w ∷ []
next_base ws zero w some e = absurd (omega (arith, some))
next_base [] (suc k) w some e = absurd cc
next_base (v ∷ ws) (suc k) w some e =
    let n : suc k + 1 - 1 ≡ suc k = omega arith in
    let m : suc k - 1 ≡ k = omega arith in
    ap (λ z. take z ws) n ∙ one_more ws k w e ∙ ap (λ z. take z ws ++ w ∷ []) (sym m)

taken_all : (ws : List (List ℕ)) (k : ℕ) → length ws ≤ k → take k ws ≡ ws
taken_all [] zero h = refl
taken_all [] (suc k) h = refl
taken_all (w ∷ ws) zero h = absurd (omega (arith, h))
taken_all (w ∷ ws) (suc k) h = ap (λ z. w ∷ z) (taken_all ws k (omega (arith, h)))

pub all_bases : (ws : List (List ℕ)) (at : ℕ) → 1 ≤ at → length ws ≤ at → take (at - 1) (behind_first ws) ≡ behind_first ws
all_bases [] at some h = taken_all [] (at - 1) (omega arith)
all_bases (w ∷ ws) at some h = taken_all ws (at - 1) (omega (arith, some, h))

-- ---- between the first and the last

kept_word : (ws : List (List ℕ)) (k : ℕ) (w : List ℕ) → suc k < length ws → slice_get ws k ≡ Some w → slice_get (before_last ws) k ≡ Some w
unfolding before_last
kept_word [] k w less e = absurd (omega (arith, less))
kept_word (a ∷ []) k w less e = absurd (omega (arith, less))
kept_word (a ∷ b ∷ ws) zero w less e = e
kept_word (a ∷ b ∷ ws) (suc k) w less e = kept_word (b ∷ ws) k w (omega (arith, less)) e

few_before : (ws : List (List ℕ)) (k : ℕ) → length ws ≤ suc k → length (before_last ws) ≤ k
unfolding before_last
few_before [] k h = omega arith
few_before (a ∷ []) k h = omega arith
few_before (a ∷ b ∷ ws) zero h = absurd (omega (arith, h))
few_before (a ∷ b ∷ ws) (suc k) h = let l = few_before (b ∷ ws) k (omega (arith, h)) in omega (arith, l)

pub next_between : (ws : List (List ℕ)) (next : ℕ) (w : List ℕ) → 2 ≤ next → next < length ws → slice_get ws (next - 1) ≡ Some w
    → take (next + 1 - 2) (between ws) ≡ take (next - 2) (between ws) ++ w ∷ []
next_between ws zero w some less e = absurd (omega (arith, some))
next_between ws (suc zero) w some less e = absurd (omega (arith, some))
next_between [] (suc (suc k)) w some less e = absurd (omega (arith, less))
next_between (v ∷ ws) (suc (suc k)) w some less e =
    let n : suc (suc k) + 1 - 2 ≡ suc k = omega arith in
    let m : suc (suc k) - 2 ≡ k = omega arith in
    let p : suc (suc k) - 1 ≡ suc k = omega arith in
    let at : slice_get (v ∷ ws) (suc k) ≡ Some w = subst (λ z. slice_get (v ∷ ws) z ≡ Some w) p e in
    ap (λ z. take z (before_last ws)) n ∙ one_more (before_last ws) k w (kept_word ws k w (omega (arith, less)) at)
    ∙ ap (λ z. take z (before_last ws) ++ w ∷ []) (sym m)

pub all_between : (ws : List (List ℕ)) (next : ℕ) → 2 ≤ next → length ws ≤ next → take (next - 2) (between ws) ≡ between ws
all_between [] next some h = taken_all (before_last []) (next - 2) (few_before [] (next - 2) (omega arith))
all_between (w ∷ ws) next some h = taken_all (before_last ws) (next - 2) (few_before ws (next - 2) (omega (arith, some, h)))
