-- Which arm's region an offset lies in.
use Rattle.std.proofs.Common.{◌≡◌, ⊎_elim, ℕ, zero, suc, ◌+◌, ◌-◌, ◌<◌, ◌≤◌, List, length, get_or, true, Some, sym, ap, subst, ◌∙◌, arith}
use Rattle.std.specs.Prelude.{nat_le, nat_lt, slice_get}
use Rattle.std.proofs.lemmas.Bool.{and_parts, and_from, leb-true, ltb-true, le-leb, lt-ltb, cases_lt}
use Rattle.std.proofs.lemmas.List.Folds.{Any-from_list_any}
use Rattle.std.proofs.lemmas.Option.{slice_get_within, slice_get-get_or, get_or_from_slice_get}
use Rattle.code_forms.specs.declared.module_code.Arm.{Arm}
use Rattle.code_forms.specs.declared.module_code.CodeProcedure.{CodeProcedure}
use Rattle.code_forms.specs.declared.module_code.Phrase.{Phrase}
use Rattle.code_forms.specs.declared.region.Region.{Region}
use Rattle.code_forms.specs.declared.region.Region.TheVariants.{Body, ArmOf}
use Rattle.code_forms.specs.Phrases.{PhrasesFill, ArmsFollow, last_end}
use Rattle.code_forms.specs.Regions.{region_at}
use Rattle.code_forms.specs.Routine.{Spot, code_end, IsStart}
use Rattle.code_forms.proofs.PhraseOrder.{no_arm, same_default, last_end_is}
use Rattle.object_files.specs.declared.image.Image.{Image}
use Rattle.signaller.specs.declared.place.Place.{Place}
use Rattle.signaller.specs.Search.{has, arms_of, arms_before}
use Rattle.signaller.specs.Sought.{IsPlace}
use Rattle.signaller.proofs.Lying.{stand}
use Rattle.signaller.proofs.Regions.{phrase, arm, in_arm, stop_before}
use Rattle.signaller.proofs.Surrounding.{read_phrase}
use Rattle.signaller.proofs.Numbering.{numbers_arms}
use Rattle.signaller.proofs.Inside.{has_arm}
use Rattle.machine_rules.specs.LookUps.{procedure_of, procedure_under, phrases_in, phrases_under, arm_under}
use Rattle.machine_rules.proofs.Standing.{Bare}

pub has_is : (a : Arm) (o : ℕ) → has a o ≡ true → (a.start ≤ o) × (o < a.end)
has_is a o h = let b = and_parts (nat_le a.start o) (nat_lt o a.end) h in (leb-true a.start o b.0, ltb-true o a.end b.1)

pub has_from : (a : Arm) (o : ℕ) → a.start ≤ o → o < a.end → has a o ≡ true
has_from a o l m = and_from (nat_le a.start o) (nat_lt o a.end) (le-leb a.start o l) (lt-ltb o a.end m)

ends_before : (code : List Spot) (arms : List Arm) → ArmsFollow code arms → (k j : ℕ) → k < j → j < length arms → (get_or arms k no_arm).end ≤ (get_or arms j no_arm).start
ends_before code arms f k zero l m = absurd (omega (arith, l))
ends_before code arms f k (suc j) l m =
    let e : j + 1 ≡ suc j = omega arith in
    let joined : (get_or arms j no_arm).end ≡ (get_or arms (suc j) no_arm).start =
    subst (λ n. (get_or arms j no_arm).end ≡ (get_or arms n no_arm).start) e (f.joined j no_arm (omega (arith, m))) in
    let filled = (f.each j no_arm (omega (arith, m))).1 in
    ⊎_elim
    (λ (less : k < j). let h = ends_before code arms f k j less (omega (arith, m)) in omega (arith, h, filled, joined))
    (λ (most : j ≤ k). let same : j ≡ k = omega (arith, l, most) in
    subst (λ n. (get_or arms n no_arm).end ≤ (get_or arms (suc j) no_arm).start) same (omega (arith, joined)))
    (cases_lt k j)

end_inside : (code : List Spot) (arms : List Arm) → ArmsFollow code arms → (k : ℕ) → k < length arms → (get_or arms k no_arm).end ≤ last_end arms
end_inside code arms f k l =
    let last = last_end_is arms no_arm (omega (arith, l)) in
    ⊎_elim
    (λ (less : k < length arms - 1).
    let h = ends_before code arms f k (length arms - 1) less (omega (arith, l)) in
    let filled = (f.each (length arms - 1) no_arm (omega (arith, l))).1 in omega (arith, h, filled, last))
    (λ (most : length arms - 1 ≤ k). let same : length arms - 1 ≡ k = omega (arith, l, most) in
    subst (λ n. (get_or arms n no_arm).end ≤ last_end arms) same (omega (arith, last)))
    (cases_lt k (length arms - 1))

-- an offset in an arm's region lies in that region
region_of_arm : (code : List Spot) (table : List Phrase) (o n k : ℕ) → PhrasesFill code table → n < length table → k < length (phrase table n).arms
    → has (arm table n k) o ≡ true → region_at table o ≡ ArmOf n k
region_of_arm code table o n k f l m h =
    let b = has_is (arm table n k) o h in
    let begun = b.0 in let ended = b.1 in
    let arms = (stand code table f n l).arms in
    in_arm code table o n k f (record {
      phrase_there = l;
      arm_there = m;
      begun = begun;
      later_arms = λ j less there. (let e = ends_before code (phrase table n).arms arms k j less there in omega (arith, e, ended));
      later = λ j less there. (
          let e = end_inside code (phrase table n).arms arms k m in
          let s = stop_before code table n j f less there in omega (arith, e, s, ended));
    })

-- the arm at a place
pub record ArmAtPlace (table : List Phrase) (place : Place) (a : Arm) : Type 0 where
  pub phrase : Phrase
  pub is : slice_get table place.phrase ≡ Some phrase
  pub there : slice_get phrase.arms place.arm ≡ Some a

pub arm_at_place : (table : List Phrase) (place : Place) → IsPlace table place → (a : Arm) × ArmAtPlace table place a
arm_at_place table place i =
    (get_or i.phrase.arms place.arm no_arm, record { phrase = i.phrase; is = i.is; there = slice_get-get_or i.phrase.arms place.arm no_arm i.arm })

same_arm : (table : List Phrase) (place : Place) (a : Arm) → ArmAtPlace table place a → arm table place.phrase place.arm ≡ a
same_arm table place a t =
    ap (λ (p : Phrase). get_or p.arms place.arm no_arm) (read_phrase table place.phrase t.phrase t.is) ∙ get_or_from_slice_get t.phrase.arms place.arm a no_arm t.there

pub region_of : (code : List Spot) (table : List Phrase) (o : ℕ) → PhrasesFill code table → (place : Place) (a : Arm) → ArmAtPlace table place a → has a o ≡ true
    → region_at table o ≡ ArmOf place.phrase place.arm
region_of code table o f place a t h =
    let p = read_phrase table place.phrase t.phrase t.is in
    region_of_arm code table o place.phrase place.arm f (slice_get_within table place.phrase t.phrase t.is)
    (subst (λ (x : Phrase). place.arm < length x.arms) (sym p) (slice_get_within t.phrase.arms place.arm a t.there))
    (subst (λ (x : Arm). has x o ≡ true) (sym (same_arm table place a t)) h)

abbrev arm_number : Region → ℕ
arm_number Body = 0
arm_number (ArmOf n k) = k

-- and the other way round
pub has_of : (code : List Spot) (table : List Phrase) (o : ℕ) → PhrasesFill code table → o < code_end code → (place : Place) (a : Arm) → ArmAtPlace table place a
    → region_at table o ≡ ArmOf place.phrase place.arm → has a o ≡ true
has_of code table o f within place a t r =
    let n = place.phrase in
    let some = has_arm code table n place.arm o f within r in
    let any = Any-from_list_any (λ (x : Arm). has x o) (phrase table n).arms some.1 in
    let is : arm table n any.0 ≡ any.1 = same_default (phrase table n).arms any.0 no_arm any.1 any.2 ∙ any.3 in
    let here : has (arm table n any.0) o ≡ true = subst (λ (x : Arm). has x o ≡ true) (sym is) any.4 in
    let region = region_of_arm code table o n any.0 f some.0 any.2 here in
    let same : any.0 ≡ place.arm = ap arm_number (sym region ∙ r) in
    subst (λ (x : Arm). has x o ≡ true) (same_arm table place a t) (subst (λ k. has (arm table n k) o ≡ true) same here)

-- the arm of a number, as the machine finds it
pub arm_found : (image : Image) (b : Bare) (p : CodeProcedure) → procedure_of image b.instance b.procedure ≡ Some p → (place : Place) (a : Arm)
    → ArmAtPlace p.phrases place a → (n : ℕ) → n ≡ arms_before p.phrases place.phrase + place.arm → arm_under image b n ≡ Some a
unfolding arm_under phrases_under procedure_under phrases_in
arm_found image b p is place a t n e =
    rw (is, e) (numbers_arms p.phrases place (record { phrase = t.phrase; is = t.is; arm = slice_get_within t.phrase.arms place.arm a t.there })
    ∙ ap (λ o. slice_get (arms_of o) place.arm) t.is ∙ t.there)

-- an arm's region begins at an instruction and is not empty
pub arm_filled : (code : List Spot) (table : List Phrase) → PhrasesFill code table → (place : Place) (a : Arm) → ArmAtPlace table place a → IsStart code a.start × (a.start < a.end)
arm_filled code table f place a t =
    let l = slice_get_within table place.phrase t.phrase t.is in
    let p = read_phrase table place.phrase t.phrase t.is in
    let m = subst (λ (x : Phrase). place.arm < length x.arms) (sym p) (slice_get_within t.phrase.arms place.arm a t.there) in
    subst (λ (x : Arm). IsStart code x.start × (x.start < x.end)) (same_arm table place a t) ((stand code table f place.phrase l).arms.each place.arm no_arm m)
