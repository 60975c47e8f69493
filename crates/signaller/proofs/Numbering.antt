-- The arms of a table in order.
use Rattle.std.proofs.Common.{◌≡◌, ℕ, zero, suc, ◌+◌, ◌<◌, List, [], ◌∷◌, ◌++◌, length, Some, refl, ap, ◌∙◌, arith}
use Rattle.std.specs.Prelude.{slice_get, flat_map, take}
use Rattle.std.proofs.lemmas.List.Sums.{sum_by-cons}
use Rattle.std.proofs.lemmas.Option.{none-some}
use Rattle.code_forms.specs.declared.module_code.Arm.{Arm}
use Rattle.code_forms.specs.declared.module_code.Phrase.{Phrase}
use Rattle.signaller.specs.Search.{arms_of, arms_before}
use Rattle.signaller.specs.Laws.{NumbersArms}

get_left : (xs ys : List Arm) (k : ℕ) → k < length xs → slice_get (xs ++ ys) k ≡ slice_get xs k
get_left [] ys k l = absurd (omega arith)
get_left (x ∷ xs) ys zero l = refl
get_left (x ∷ xs) ys (suc k) l = get_left xs ys k (omega arith)

get_right : (xs ys : List Arm) (k : ℕ) → slice_get (xs ++ ys) (length xs + k) ≡ slice_get ys k
get_right [] ys k = let e : 0 + k ≡ k = omega arith in ap (λ j. slice_get ys j) e
get_right (x ∷ xs) ys k = let e : length (x ∷ xs) + k ≡ suc (length xs + k) = omega arith in ap (λ j. slice_get ((x ∷ xs) ++ ys) j) e ∙ get_right xs ys k

abbrev arm_count : Phrase → ℕ
arm_count p = length p.arms

before_more : (p : Phrase) (table : List Phrase) (n : ℕ) → arms_before (p ∷ table) (suc n) ≡ length p.arms + arms_before table n
before_more p table n = sum_by-cons arm_count p (take n table)

number_at : (table : List Phrase) (n k : ℕ) (p : Phrase) → slice_get table n ≡ Some p → k < length p.arms
    → slice_get (flat_map (λ q. q.arms) table) (arms_before table n + k) ≡ slice_get (arms_of (slice_get table n)) k
number_at [] n k p is l = absurd (none-some p is)
number_at (q ∷ table) zero k p is l =
    let e : arms_before (q ∷ table) zero + k ≡ k = omega arith in
    let s : length q.arms ≡ length p.arms = ap (λ o. length (arms_of o)) is in
    ap (λ j. slice_get (q.arms ++ flat_map (λ r. r.arms) table) j) e ∙ get_left q.arms (flat_map (λ r. r.arms) table) k (omega (arith, s, l))
number_at (q ∷ table) (suc n) k p is l =
    let m = before_more q table n in
    let e : arms_before (q ∷ table) (suc n) + k ≡ length q.arms + (arms_before table n + k) = omega (arith, m) in
    ap (λ j. slice_get (q.arms ++ flat_map (λ r. r.arms) table) j) e
    ∙ (get_right q.arms (flat_map (λ r. r.arms) table) (arms_before table n + k) ∙ number_at table n k p is l)

pub numbers_arms : NumbersArms
numbers_arms table place i = number_at table place.phrase place.arm i.phrase i.is i.arm
