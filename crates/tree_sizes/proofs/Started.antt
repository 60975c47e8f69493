-- Numbers of which none stands twice and all are below a limit are no more than it: so each instance is started once at most.
use Rattle.std.specs.Prelude.{◌≡◌, ℕ, zero, suc, ◌+◌, ◌<◌, ◌≤◌, Bool, true, false, ◌||◌, List, [], ◌∷◌, length, nat_eq, All, if◌then◌else◌}
use Rattle.std.proofs.Common.{eqb-true, refl, ap, ◌∙◌, ⊎_elim, arith}
use Rattle.std.proofs.lemmas.Bool.{cases_lt, eqb-false}
use Rattle.std.proofs.lemmas.List.Elements.{All-head, All-tail}
use Rattle.config_rules.specs.Grown.{is_in, once}

-- no number stands twice, or among those before
abbrev pub Apart : List ℕ → List ℕ → Type 0
Apart before [] = Unit {0}
Apart before (n ∷ ns) = (is_in n before ≡ false) × Apart (n ∷ before) ns

pub once_apart : (before ns : List ℕ) → Apart before (once before ns)
unfolding once
once_apart before [] = tt
once_apart before (n ∷ ns) = by (is_in n before) refl (once_apart before ns) (once_apart (n ∷ before) ns)
  where
    by : (b : Bool) → is_in n before ≡ b → Apart before (once before ns) → Apart (n ∷ before) (once (n ∷ before) ns)
        → Apart before (if b then once before ns else n ∷ once (n ∷ before) ns)
    by true e h k = h
    by false e h k = (e, k)

abbrev free_if : Bool → ℕ
free_if true = 0
free_if false = 1

-- how many numbers below the limit are not among these
unfoldable free : List ℕ → ℕ → ℕ
free before zero = 0
free before (suc n) = free_if (is_in n before) + free before n

all_free : (n : ℕ) → free [] n ≡ n
unfolding free is_in
all_free zero = refl
all_free (suc n) = omega (arith, all_free n)

fewer_if : (a b : Bool) → free_if (a || b) ≤ free_if b
fewer_if true true = omega arith
fewer_if true false = omega arith
fewer_if false b = omega arith

fewer : (x : ℕ) (before : List ℕ) (n : ℕ) → free (x ∷ before) n ≤ free before n
unfolding free is_in
fewer x before zero = omega arith
fewer x before (suc n) = omega (arith, fewer_if (nat_eq n x) (is_in n before), fewer x before n)

below : (n x : ℕ) → x < suc n → nat_eq n x ≡ false → x < n
below n x l e = ⊎_elim (λ less. less) (λ more. absurd (eqb-false n x e (omega (arith, l, more)))) (cases_lt x n)

one_fewer : (x : ℕ) (before : List ℕ) (n : ℕ) → x < n → is_in x before ≡ false → 1 + free (x ∷ before) n ≤ free before n
unfolding free is_in
one_fewer x before zero l h = absurd (omega (arith, l))
one_fewer x before (suc n) l h = by (nat_eq n x) refl (λ less. one_fewer x before n less h)
  where
    by : (b : Bool) → nat_eq n x ≡ b → (x < n → 1 + free (x ∷ before) n ≤ free before n)
        → 1 + (free_if (b || is_in n before) + free (x ∷ before) n) ≤ free_if (is_in n before) + free before n
    by true e again =
        let same : n ≡ x = eqb-true n x e in
        let here : free_if (is_in n before) ≡ 1 = ap (λ k. free_if (is_in k before)) same ∙ ap free_if h in
        omega (arith, here, fewer x before n)
    by false e again = omega (arith, again (below n x l e))

apart_few : (before xs : List ℕ) (n : ℕ) → Apart before xs → All (λ j. j < n) xs → length xs ≤ free before n
apart_few before [] n h all = omega arith
apart_few before (x ∷ xs) n h all = omega (
  arith,
  one_fewer x before n (All-head (λ j. j < n) x xs all) h.0,
  apart_few (x ∷ before) xs n h.1 (All-tail (λ j. j < n) x xs all),
)

pub few_apart : (xs : List ℕ) (n : ℕ) → Apart [] xs → All (λ j. j < n) xs → length xs ≤ n
few_apart xs n h all = omega (arith, apart_few [] xs n h all, all_free n)
