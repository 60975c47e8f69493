-- A region outward of another stands before it.
use Rattle.std.proofs.Common.{◌≡◌, ℕ, zero, suc, ◌+◌, ◌<◌, ◌≤◌, ⊎_elim, List, [], ◌∷◌, length, get_or, cond, Option, Some, None, refl, sym, ap, subst, arith}
use Rattle.std.specs.Prelude.{slice_get, nat_le}
use Rattle.std.proofs.lemmas.Bool.{cases_lt}
use Rattle.std.proofs.lemmas.Option.{get_or_from_slice_get, slice_get_within, same_Some, none-some}
use Rattle.code_forms.specs.declared.module_code.Arm.{Arm}
use Rattle.code_forms.specs.declared.module_code.Phrase.{Phrase}
use Rattle.code_forms.specs.declared.region.Region.{Region}
use Rattle.code_forms.specs.declared.region.Region.TheVariants.{Body, ArmOf}
use Rattle.code_forms.specs.Phrases.{first_start}
use Rattle.code_forms.specs.Regions.{later_arm, later_phrase, region_at, around_phrase, holder, and_then, outward}
use Rattle.code_forms.specs.Rising.{RegionsRise, FromsFirst}
use Rattle.code_forms.proofs.Begun.{NoneBegun, not_yet, begun, no_phrase, none_begun}

-- how far a region is: the body, then the arms by their phrases
abbrev pub rank : Region → ℕ
rank Body = 0
rank (ArmOf phrase arm) = phrase + 1

pub record Further (most a b : ℕ) : Type 0 where
  pub up : a ≤ b
  pub bound : b ≤ most

arm_rank : (p n : ℕ) (arms : List Arm) (a b : ℕ) (r s : Region) → a ≤ b → Further (p + 1) (rank r) (rank s) → Further (p + 1) (rank (later_arm p n arms a r)) (rank (later_arm p n arms b s))
arm_rank p n [] a b r s l f = f
arm_rank p n (x ∷ arms) a b r s l f =
    arm_rank p (n + 1) arms a b _ _ l
    (⊎_elim
    (λ (m : a < x.start). ⊎_elim
    (λ (k : b < x.start). subst (λ t. Further (p + 1) (rank t) (rank (cond (nat_le x.start b) (ArmOf p n) s))) (sym (not_yet x.start a (ArmOf p n) r m))
    (subst (λ t. Further (p + 1) (rank r) (rank t)) (sym (not_yet x.start b (ArmOf p n) s k)) f))
    (λ (k : x.start ≤ b). subst (λ t. Further (p + 1) (rank t) (rank (cond (nat_le x.start b) (ArmOf p n) s))) (sym (not_yet x.start a (ArmOf p n) r m))
    (subst (λ t. Further (p + 1) (rank r) (rank t)) (sym (begun x.start b (ArmOf p n) s k)) (record { up = (let u = f.up in let v = f.bound in omega arith); bound = omega arith })))
    (cases_lt b x.start))
    (λ (m : x.start ≤ a).
    subst (λ t. Further (p + 1) (rank t) (rank (cond (nat_le x.start b) (ArmOf p n) s))) (sym (begun x.start a (ArmOf p n) r m))
    (subst (λ t. Further (p + 1) (p + 1) (rank t)) (sym (begun x.start b (ArmOf p n) s (omega arith))) (record { up = omega arith; bound = omega arith })))
    (cases_lt a x.start))

phrase_rank : (n : ℕ) (phrases : List Phrase) (a b : ℕ) (r s : Region) → a ≤ b → Further n (rank r) (rank s) → rank (later_phrase n phrases a r) ≤ rank (later_phrase n phrases b s)
phrase_rank n [] a b r s l f = f.up
phrase_rank n (p ∷ phrases) a b r s l f =
    phrase_rank (n + 1) phrases a b _ _ l (arm_rank n 0 p.arms a b r s l (record { up = f.up; bound = (let v = f.bound in omega arith) }))

-- a later offset is in a region as far or further
pub rank_rises : (phrases : List Phrase) (a b : ℕ) → a ≤ b → rank (region_at phrases a) ≤ rank (region_at phrases b)
rank_rises phrases a b l = phrase_rank 0 phrases a b Body Body l (record { up = omega arith; bound = omega arith })

-- where no phrase from one on has begun, the region is before
pub rank_before : (n m : ℕ) (phrases : List Phrase) (offset : ℕ) (r : Region) → rank r ≤ n → ((k : ℕ) (d : Phrase) → m ≤ k → k < length phrases → NoneBegun (get_or phrases k d).arms offset) → rank (later_phrase n phrases offset r) ≤ n + m
rank_before n m [] offset r l h = omega arith
rank_before n zero (p ∷ phrases) offset r l h =
    let e = ap rank (no_phrase n (p ∷ phrases) offset r (λ k d u. h k d (omega arith) u)) in omega (arith, e, l)
rank_before n (suc m) (p ∷ phrases) offset r l h =
    let bound = (arm_rank n 0 p.arms offset offset r r (omega arith) (record { up = omega arith; bound = omega arith })).bound in
    let k = rank_before (n + 1) m phrases offset (later_arm n 0 p.arms offset r) (omega (arith, bound)) (λ k d a u. h (suc k) d (omega arith) (omega arith)) in
    omega (arith, k)

phrase_before : (phrases : List Phrase) (p : ℕ) (q : Phrase) → RegionsRise phrases → FromsFirst phrases → slice_get phrases p ≡ Some q → rank (region_at phrases q.from) ≤ p
phrase_before phrases p q rise froms e =
    let lp = slice_get_within phrases p q e in
    let here : get_or phrases p q ≡ q = get_or_from_slice_get phrases p q q e in
    let first = subst (λ (x : Phrase). x.from < first_start x.arms) here (froms p q lp) in
    let k = rank_before 0 p phrases q.from Body (omega arith)
    (λ k d a u. none_begun (get_or phrases k d).arms q.from (rise.each k d u)
    (let up = rise.firsts p k d a u in
    let same = ap (λ (x : Phrase). first_start x.arms) (get_or_from_slice_get phrases p q d e) in
    omega (arith, up, same, first))) in
    omega (arith, k)

around_before : (phrases : List Phrase) (p : ℕ) (x : Option Phrase) (o : Region) → RegionsRise phrases → FromsFirst phrases → slice_get phrases p ≡ x → around_phrase phrases x ≡ Some o → rank o < p + 1
around_before phrases p None o rise froms is e = absurd (none-some o e)
around_before phrases p (Some q) o rise froms is e =
    let k = phrase_before phrases p q rise froms is in
    let same = ap rank (same_Some (region_at phrases q.from) o e) in
    omega (arith, k, same)

holder_before : (phrases : List Phrase) (r o : Region) → RegionsRise phrases → FromsFirst phrases → holder phrases r ≡ Some o → rank o < rank r
holder_before phrases Body o rise froms e = absurd (none-some o e)
holder_before phrases (ArmOf p a) o rise froms e = around_before phrases p (slice_get phrases p) o rise froms refl e

held_before : (phrases : List Phrase) (n : ℕ) (r o : Region) (x : Option Region) → RegionsRise phrases → FromsFirst phrases → holder phrases r ≡ x → and_then (outward phrases n) x ≡ Some o → rank o < rank r
held_before phrases n r o None rise froms h e = absurd (none-some o e)
held_before phrases zero r o (Some q) rise froms h e =
    let a = holder_before phrases r q rise froms h in let b = ap rank (same_Some q o e) in omega (arith, a, b)
held_before phrases (suc n) r o (Some q) rise froms h e =
    let a = holder_before phrases r q rise froms h in
    let b = held_before phrases n q o (holder phrases q) rise froms refl e in omega (arith, a, b)

-- the holder some steps outward stands before the region
pub outward_before : (phrases : List Phrase) (n : ℕ) (r o : Region) → RegionsRise phrases → FromsFirst phrases → 1 ≤ n → outward phrases n r ≡ Some o → rank o < rank r
outward_before phrases zero r o rise froms l e = absurd (omega arith)
outward_before phrases (suc n) r o rise froms l e = held_before phrases n r o (holder phrases r) rise froms refl e

-- what lies in a region outward stands before
pub out_before : (phrases : List Phrase) (n at target : ℕ) → RegionsRise phrases → FromsFirst phrases → 1 ≤ n → outward phrases n (region_at phrases at) ≡ Some (region_at phrases target) → target < at
out_before phrases n at target rise froms l e =
    let a = outward_before phrases n (region_at phrases at) (region_at phrases target) rise froms l e in
    ⊎_elim (λ (m : target < at). m) (λ (m : at ≤ target). absurd (let b = rank_rises phrases at target m in omega (arith, a, b))) (cases_lt target at)
