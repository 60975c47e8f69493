-- Each range of valid code lies in one region, and which arm has an offset.
use Rattle.std.proofs.Common.{◌≡◌, ℕ, zero, suc, ◌+◌, ◌-◌, ◌<◌, ◌≤◌, ◌⊎◌, inl, inr, ⊎_elim, List, [], ◌∷◌, length, get_or, take, true, false, ◌&&◌, refl, sym, ap, subst, ◌∙◌, arith}
use Rattle.std.specs.Prelude.{nat_le, nat_lt}
use Rattle.std.specs.List.{list_any}
use Rattle.std.proofs.lemmas.Bool.{cases_lt, le-leb, lt-leb, lt-ltb, le-ltb, true≢false}
use Rattle.std.proofs.lemmas.List.Folds.{list_any_at, Any-from_list_any}
use Rattle.code_forms.specs.declared.module_code.Arm.{Arm}
use Rattle.code_forms.specs.declared.module_code.Phrase.{Phrase}
use Rattle.code_forms.specs.declared.region.Region.{Region}
use Rattle.code_forms.specs.declared.region.Region.TheVariants.{Body, ArmOf}
use Rattle.code_forms.specs.Phrases.{first_start, PhrasesFill}
use Rattle.code_forms.specs.Regions.{later_arm, later_phrase, region_at}
use Rattle.code_forms.specs.Routine.{Spot, code_end}
use Rattle.code_forms.proofs.Begun.{NoneBegun, none_begun}
use Rattle.code_forms.proofs.Begun.{no_phrase as none_begins}
use Rattle.code_forms.proofs.Outward.{rank}
use Rattle.code_forms.proofs.PhraseOrder.{no_arm, no_phrase, same_default, last_end_is, end_of_last}
use Rattle.signaller.specs.Search.{covers, has}
use Rattle.signaller.proofs.Lying.{stand, armed, arm_behind, ends_with}
use Rattle.signaller.proofs.Regions.{phrase, arm, start, stop, rises, InArm, in_arm, InSome, somewhere, next_start, stop_before}
use Rattle.signaller.proofs.Sweeping.{covers_not}

-- what lies in a range or a region
pub covers_is : (p : Phrase) (o : ℕ) → covers p o ≡ true → (p.from ≤ o) × (o < p.to)
covers_is p o c = (
  ⊎_elim (λ (l : o < p.from). absurd (true≢false (sym c ∙ covers_not p o (inl l)))) (λ (l : p.from ≤ o). l) (cases_lt o p.from),
  ⊎_elim (λ (l : o < p.to). l) (λ (l : p.to ≤ o). absurd (true≢false (sym c ∙ covers_not p o (inr l)))) (cases_lt o p.to),
)

has_not : (a : Arm) (o : ℕ) → (o < a.start) ⊎ (a.end ≤ o) → has a o ≡ false
has_not a o h = ⊎_elim
    (λ (l : o < a.start). ap (λ b. b && nat_lt o a.end) (lt-leb a.start o l))
    (λ (l : a.end ≤ o). elim (nat_le a.start o) as (λ b. (b && nat_lt o a.end) ≡ false) [ true ↦ le-ltb o a.end l | false ↦ refl ]) h

has_it : (a : Arm) (o : ℕ) → a.start ≤ o → o < a.end → has a o ≡ true
has_it a o l m = ap (λ b. b && nat_lt o a.end) (le-leb a.start o l) ∙ lt-ltb o a.end m

has_is : (a : Arm) (o : ℕ) → has a o ≡ true → (a.start ≤ o) × (o < a.end)
has_is a o c = (
  ⊎_elim (λ (l : o < a.start). absurd (true≢false (sym c ∙ has_not a o (inl l)))) (λ (l : a.start ≤ o). l) (cases_lt o a.start),
  ⊎_elim (λ (l : o < a.end). l) (λ (l : a.end ≤ o). absurd (true≢false (sym c ∙ has_not a o (inr l)))) (cases_lt o a.end),
)

-- the regions of some phrases hold an offset as those of all do, where no other has begun
later_taken : (m n : ℕ) (phrases : List Phrase) (o : ℕ) (r : Region) → ((k : ℕ) (d : Phrase) → n ≤ k → k < length phrases → NoneBegun (get_or phrases k d).arms o)
    → later_phrase m phrases o r ≡ later_phrase m (take n phrases) o r
later_taken m zero [] o r h = refl
later_taken m (suc n) [] o r h = refl
later_taken m zero (p ∷ phrases) o r h = none_begins m (p ∷ phrases) o r (λ k d l. h k d (omega arith) l)
later_taken m (suc n) (p ∷ phrases) o r h = later_taken (m + 1) n phrases o (later_arm m 0 p.arms o r) (λ k d l u. h (suc k) d (omega arith) (omega arith))

pub starts_rise : (code : List Spot) (table : List Phrase) (i j : ℕ) → PhrasesFill code table → i ≤ j → j < length table → start table i ≤ start table j
starts_rise code table i j f l m = (rises code table f).firsts i j no_phrase l m

region_taken : (code : List Spot) (table : List Phrase) (n o : ℕ) → PhrasesFill code table → n < length table → o < start table n → region_at table o ≡ region_at (take n table) o
region_taken code table n o f l b =
    later_taken 0 n table o Body (λ k d u v. none_begun (get_or table k d).arms o ((rises code table f).each k d v)
    (let e = ap (λ p. first_start p.arms) (same_default table k no_phrase d v) in let s = starts_rise code table n k f u v in omega (arith, e, s, b)))

in_body : (code : List Spot) (table : List Phrase) (o : ℕ) → PhrasesFill code table → ((k : ℕ) → k < length table → o < start table k) → region_at table o ≡ Body
in_body code table o f none =
    none_begins 0 table o Body (λ k d l. none_begun (get_or table k d).arms o ((rises code table f).each k d l)
    (let e = ap (λ p. first_start p.arms) (same_default table k no_phrase d l) in let h = none k l in omega (arith, e, h)))

abbrev pub arm_number : Region → ℕ
arm_number Body = 0
arm_number (ArmOf phrase arm) = arm

-- two offsets in one region, and one between them
pub between : (code : List Spot) (table : List Phrase) (a o b : ℕ) → PhrasesFill code table → region_at table a ≡ region_at table b → a ≤ o → o ≤ b → region_at table a ≡ region_at table o
between code table a o b f same l m = ⊎_elim
    (λ (x : (region_at table a ≡ Body) × ((k : ℕ) → k < length table → a < start table k)). ⊎_elim
    (λ (y : (region_at table b ≡ Body) × ((k : ℕ) → k < length table → b < start table k)). x.0 ∙ sym (in_body code table o f (λ k u. let h = y.1 k u in omega (arith, h))))
    (λ (y : InSome table b). absurd (let e = ap rank (sym x.0 ∙ (same ∙ in_arm code table b y.q y.k f y.is)) in omega (arith, e)))
    (somewhere code table b f))
    (λ (x : InSome table a). ⊎_elim
    (λ (y : (region_at table b ≡ Body) × ((k : ℕ) → k < length table → b < start table k)). absurd (let e = ap rank (sym y.0 ∙ (sym same ∙ in_arm code table a x.q x.k f x.is)) in omega (arith, e)))
    (λ (y : InSome table b).
    let here = in_arm code table a x.q x.k f x.is in
    let e = sym here ∙ (same ∙ in_arm code table b y.q y.k f y.is) in
    let r = ap rank e in
    let q : y.q ≡ x.q = omega (arith, r) in
    let k : y.k ≡ x.k = sym (ap arm_number e) in
    let i : InArm table b x.q x.k = subst (λ n. InArm table b x.q n) k (subst (λ n. InArm table b n y.k) q y.is) in
    here ∙ sym (in_arm code table o x.q x.k f (record {
      phrase_there = x.is.phrase_there;
      arm_there = x.is.arm_there;
      begun = (let g = x.is.begun in omega (arith, g));
      later_arms = λ j u v. (let h = i.later_arms j u v in omega (arith, h));
      later = λ j u v. (let h = i.later j u v in omega (arith, h));
    })))
    (somewhere code table b f))
    (somewhere code table a f)

-- a range lies in one region
pub range_inside : (code : List Spot) (table : List Phrase) (n o : ℕ) → PhrasesFill code table → n < length table → covers (phrase table n) o ≡ true
    → region_at table (phrase table n).from ≡ region_at table o
range_inside code table n o f l c =
    let s = stand code table f n l in
    let filled = s.filled in let earlier = s.earlier in
    let is = covers_is (phrase table n) o c in
    let low = is.0 in let high = is.1 in
    let a = region_taken code table n (phrase table n).from f l (omega (arith, filled, earlier)) in
    let b = region_taken code table n ((phrase table n).to - 1) f l (omega (arith, filled, earlier)) in
    between code table (phrase table n).from o ((phrase table n).to - 1) f (a ∙ (s.inside ∙ sym b)) low (omega (arith, high))

-- an arm that has an offset
pub record ArmAt (table : List Phrase) (o n : ℕ) : Type 0 where
  pub k : ℕ
  pub is : region_at table o ≡ ArmOf n k
  pub begun : start table n ≤ o

arm_from : (code : List Spot) (table : List Phrase) (n k : ℕ) → PhrasesFill code table → n < length table → k < length (phrase table n).arms → start table n ≤ (arm table n k).start
arm_from code table n k f l m =
    let b = arm_behind code (phrase table n).arms (stand code table f n l).arms (armed code table f n l) k m in omega (arith, b)

end_within : (code : List Spot) (table : List Phrase) (n k : ℕ) → PhrasesFill code table → n < length table → k < length (phrase table n).arms → (arm table n k).end ≤ stop table n
end_within code table n k f l m =
    let arms = (phrase table n).arms in
    let s = stand code table f n l in
    ⊎_elim
    (λ (h : k + 1 < length (phrase table n).arms).
    let j : (arm table n k).end ≡ (arm table n (k + 1)).start = s.arms.joined k no_arm h in
    let up = ((rises code table f).each n no_phrase l).starts (k + 1) (length (phrase table n).arms - 1) no_arm (omega arith) (omega arith) in
    let e = (s.arms.each (length (phrase table n).arms - 1) no_arm (omega arith)).1 in
    let z = last_end_is (phrase table n).arms no_arm (omega arith) in
    omega (arith, j, up, e, z))
    (λ (h : length (phrase table n).arms ≤ k + 1).
    let i : length (phrase table n).arms - 1 ≡ k = omega arith in
    let z = last_end_is (phrase table n).arms no_arm (omega arith) in
    let y = ap (λ j. (arm table n j).end) i in
    omega (arith, z, y))
    (cases_lt (k + 1) (length (phrase table n).arms))

pub arm_at : (code : List Spot) (table : List Phrase) (n o : ℕ) → PhrasesFill code table → n < length table → list_any (λ a. has a o) (phrase table n).arms ≡ true → ArmAt table o n
arm_at code table n o f l c =
    let any = Any-from_list_any (λ a. has a o) (phrase table n).arms c in
    let k = any.0 in let a = any.1 in let there = any.2 in
    let is : arm table n any.0 ≡ any.1 = same_default (phrase table n).arms any.0 no_arm any.1 any.2 ∙ any.3 in
    let h = has_is any.1 o any.4 in
    let low = h.0 in let high = h.1 in
    let from = arm_from code table n any.0 f l any.2 in
    let to = end_within code table n any.0 f l any.2 in
    let ls = ap (λ x. x.start) is in let le = ap (λ x. x.end) is in
    let begun : start table n ≤ o = omega (arith, low, from, ls) in
    let before : o < stop table n = omega (arith, high, to, le) in
    ⊎_elim
    (λ (x : (region_at table o ≡ Body) × ((k : ℕ) → k < length table → o < start table k)). absurd (let y = x.1 n l in omega (arith, y, begun)))
    (λ (x : InSome table o).
    let q : x.q ≡ n = ⊎_elim
    (λ (u : x.q < n). absurd (let y = x.is.later n u l in omega (arith, y, begun)))
    (λ (u : n ≤ x.q). ⊎_elim
    (λ (v : n < x.q). absurd (
    let y = stop_before code table n x.q f v x.is.phrase_there in
    let g = x.is.begun in
    let w = arm_from code table x.q x.k f x.is.phrase_there x.is.arm_there in omega (arith, y, g, w, before)))
    (λ (v : x.q ≤ n). omega (arith, u, v))
    (cases_lt n x.q))
    (cases_lt x.q n) in
    record { k = x.k; is = in_arm code table o x.q x.k f x.is ∙ ap (λ m. ArmOf m x.k) q; begun = begun })
    (somewhere code table o f)

-- and one in whose region an offset of the code is has it
pub has_arm : (code : List Spot) (table : List Phrase) (n k o : ℕ) → PhrasesFill code table → o < code_end code → region_at table o ≡ ArmOf n k
    → (n < length table) × (list_any (λ a. has a o) (phrase table n).arms ≡ true)
has_arm code table n k o f within r = ⊎_elim
    (λ (x : (region_at table o ≡ Body) × ((k : ℕ) → k < length table → o < start table k)). absurd (let e = ap rank (sym x.0 ∙ r) in omega (arith, e)))
    (λ (x : InSome table o).
    let e = sym (in_arm code table o x.q x.k f x.is) ∙ r in
    let rank_is = ap rank e in
    let q : x.q ≡ n = omega (arith, rank_is) in
    let there = x.is.phrase_there in
    let s = stand code table f x.q there in
    let end : o < (arm table x.q x.k).end = ⊎_elim
    (λ (h : x.k + 1 < length (phrase table x.q).arms).
    let j : (arm table x.q x.k).end ≡ (arm table x.q (x.k + 1)).start = s.arms.joined x.k no_arm h in
    let y = x.is.later_arms (x.k + 1) (omega arith) h in omega (arith, j, y))
    (λ (h : length (phrase table x.q).arms ≤ x.k + 1).
    let m = x.is.arm_there in
    let i : length (phrase table x.q).arms - 1 ≡ x.k = omega (arith, h, m) in
    let z = last_end_is (phrase table x.q).arms no_arm (omega (arith, m)) in
    let y = ap (λ j. (arm table x.q j).end) i in
    let stops : o < stop table x.q = ⊎_elim
    (λ (g : x.q + 1 < length table). let nx = next_start code table x.q f g in let w = x.is.later (x.q + 1) (omega arith) g in omega (arith, nx, w))
    (λ (g : length table ≤ x.q + 1).
    let t : length table - 1 ≡ x.q = omega (arith, g, there) in
    let el = end_of_last table no_phrase (omega (arith, there)) in
    let ce = ends_with code table (omega (arith, there)) f.filled in
    let v = ap (λ j. stop table j) t in omega (arith, el, ce, v, within))
    (cases_lt (x.q + 1) (length table)) in
    omega (arith, z, y, stops))
    (cases_lt (x.k + 1) (length (phrase table x.q).arms)) in
    subst (λ m. (m < length table) × (list_any (λ a. has a o) (phrase table m).arms ≡ true)) q
    (there, list_any_at (λ a. has a o) (phrase table x.q).arms x.k no_arm x.is.arm_there (has_it (arm table x.q x.k) o x.is.begun end)))
    (somewhere code table o f)
