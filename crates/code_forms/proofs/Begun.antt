-- The region that holds an offset is that of the last arm that begins there or before.
use Rattle.std.proofs.Common.{◌≡◌, ℕ, zero, suc, ◌+◌, ◌<◌, ◌≤◌, List, [], ◌∷◌, length, get_or, cond, nat_le, true, false, refl, sym, ap, subst, ◌-◌, ◌∙◌, ⊎_elim, arith}
use Rattle.std.specs.Prelude.{slice_get, Some, None}
use Rattle.std.specs.List.{AllWithin}
use Rattle.std.proofs.lemmas.Bool.{cases_lt}
use borrow.Author.Tests.{le-leb, lt-leb}
use Rattle.std.proofs.lemmas.Option.{slice_get-get_or}
use Rattle.code_forms.specs.declared.module_code.Arm.{Arm}
use Rattle.code_forms.specs.declared.module_code.Phrase.{Phrase}
use Rattle.code_forms.specs.declared.region.Region.{Region}
use Rattle.code_forms.specs.declared.region.Region.TheVariants.{Body, ArmOf}
use Rattle.code_forms.specs.Phrases.{first_start, arm_start}
use Rattle.code_forms.specs.Regions.{later_arm, later_phrase, region_at, holder, outward, and_then}
use Rattle.code_forms.specs.Rising.{ArmsRise, RegionsRise}

abbrev pub NoneBegun : List Arm → ℕ → Type 0
NoneBegun arms offset = (k : ℕ) (d : Arm) → k < length arms → offset < (get_or arms k d).start

pub not_yet : (s offset : ℕ) (a b : Region) → offset < s → cond (nat_le s offset) a b ≡ b
not_yet s offset a b h = let e : nat_le s offset ≡ false = lt-leb s offset h in ap (λ t. cond t a b) e

pub begun : (s offset : ℕ) (a b : Region) → s ≤ offset → cond (nat_le s offset) a b ≡ a
begun s offset a b h = let e : nat_le s offset ≡ true = le-leb s offset h in ap (λ t. cond t a b) e

pub no_arm : (p n : ℕ) (arms : List Arm) (offset : ℕ) (r : Region) → NoneBegun arms offset → later_arm p n arms offset r ≡ r
no_arm p n [] offset r h = refl
no_arm p n (a ∷ arms) offset r h =
    no_arm p (n + 1) arms offset _ (λ k d l. h (suc k) d (omega arith)) ∙ not_yet a.start offset _ r (h 0 a (omega arith))

pub last_arm : (p n m : ℕ) (arms : List Arm) (offset : ℕ) (r : Region) (d : Arm) → m < length arms → (get_or arms m d).start ≤ offset → ((k : ℕ) (d : Arm) → m < k → k < length arms → offset < (get_or arms k d).start) → later_arm p n arms offset r ≡ ArmOf p (n + m)
last_arm p n m [] offset r d l s h = absurd (omega arith)
last_arm p n zero (a ∷ arms) offset r d l s h =
    no_arm p (n + 1) arms offset _ (λ k e u. h (suc k) e (omega arith) (omega arith)) ∙ (begun a.start offset (ArmOf p n) r s ∙ (let e : n ≡ n + 0 = omega arith in ap (λ k. ArmOf p k) e))
last_arm p n (suc m) (a ∷ arms) offset r d l s h =
    last_arm p (n + 1) m arms offset _ d (omega arith) s (λ k e v u. h (suc k) e (omega arith) (omega arith)) ∙ (let e : n + 1 + m ≡ n + suc m = omega arith in ap (λ k. ArmOf p k) e)

pub no_phrase : (n : ℕ) (phrases : List Phrase) (offset : ℕ) (r : Region) → ((k : ℕ) (d : Phrase) → k < length phrases → NoneBegun (get_or phrases k d).arms offset) → later_phrase n phrases offset r ≡ r
no_phrase n [] offset r h = refl
no_phrase n (p ∷ phrases) offset r h =
    no_phrase (n + 1) phrases offset _ (λ k d l. h (suc k) d (omega arith)) ∙ no_arm n 0 p.arms offset r (h 0 p (omega arith))

pub last_phrase : (n m b : ℕ) (phrases : List Phrase) (offset : ℕ) (r : Region) (d : Phrase) (x : Arm) → m < length phrases → b < length (get_or phrases m d).arms → (get_or (get_or phrases m d).arms b x).start ≤ offset → ((k : ℕ) (x : Arm) → b < k → k < length (get_or phrases m d).arms → offset < (get_or (get_or phrases m d).arms k x).start) → ((k : ℕ) (d : Phrase) → m < k → k < length phrases → NoneBegun (get_or phrases k d).arms offset) → later_phrase n phrases offset r ≡ ArmOf (n + m) b
last_phrase n m b [] offset r d x l lb s ha hp = absurd (omega arith)
last_phrase n zero b (p ∷ phrases) offset r d x l lb s ha hp =
    no_phrase (n + 1) phrases offset _ (λ k e u. hp (suc k) e (omega arith) (omega arith))
    ∙ (last_arm n 0 b p.arms offset r x lb s ha ∙ (let e : 0 + b ≡ b = omega arith in let f : n ≡ n + 0 = omega arith in ap (λ k. ArmOf n k) e ∙ ap (λ k. ArmOf k b) f))
last_phrase n (suc m) b (p ∷ phrases) offset r d x l lb s ha hp =
    last_phrase (n + 1) m b phrases offset _ d x (omega arith) lb s ha (λ k e v u. hp (suc k) e (omega arith) (omega arith))
    ∙ (let e : n + 1 + m ≡ n + suc m = omega arith in ap (λ k. ArmOf k b) e)

-- an offset before the first start of arms that rise is before each
pub none_begun : (arms : List Arm) (offset : ℕ) → ArmsRise arms → offset < first_start arms → NoneBegun arms offset
none_begun arms offset rise h k d l =
    let first : slice_get arms 0 ≡ Some (get_or arms 0 d) = slice_get-get_or arms 0 d rise.some in
    let e : first_start arms ≡ (get_or arms 0 d).start = ap arm_start first in
    let up = rise.starts 0 k d (omega arith) l in
    omega (arith, e, up, h)

-- the region that is found by halving twice
pub region_found : (phrases : List Phrase) (offset count begun : ℕ) (p : Phrase) (arms : List Arm) → RegionsRise phrases → 0 < count → count ≤ length phrases
    → arms ≡ (get_or phrases (count - 1) p).arms
    → AllWithin (λ p. first_start p.arms ≤ offset) phrases 0 count → AllWithin (λ p. offset < first_start p.arms) phrases count (length phrases)
    → begun ≤ length arms → AllWithin (λ a. a.start ≤ offset) arms 0 begun → AllWithin (λ a. offset < a.start) arms begun (length arms)
    → (1 ≤ begun) × (ArmOf (count - 1) (begun - 1) ≡ region_at phrases offset)
region_found phrases offset count begun p arms rise some within here firsts rest bound starts none =
    let q : Phrase = get_or phrases (count - 1) p in
    let up : ArmsRise q.arms = rise.each (count - 1) p (omega arith) in
    let first : first_start q.arms ≤ offset = firsts (count - 1) p (omega arith) (omega arith) in
    let x : Arm = record { labels = []; slot = 0; words = 0; start = 0; end = 0 } in
    let zero_start : first_start q.arms ≡ (get_or q.arms 0 x).start = ap arm_start (slice_get-get_or q.arms 0 x up.some) in
    let none' : AllWithin (λ a. offset < a.start) q.arms begun (length q.arms) = subst (λ (l : List Arm). AllWithin (λ a. offset < a.start) l begun (length l)) here none in
    let starts' : AllWithin (λ a. a.start ≤ offset) q.arms 0 begun = subst (λ (l : List Arm). AllWithin (λ a. a.start ≤ offset) l 0 begun) here starts in
    let bound' : begun ≤ length q.arms = subst (λ (l : List Arm). begun ≤ length l) here bound in
    let one : 1 ≤ begun = ⊎_elim (λ (l : 0 < begun). omega arith) (λ (l : begun ≤ 0). absurd (let n = none' 0 x l up.some in omega (arith, n, zero_start, first))) (cases_lt 0 begun) in
    let found = last_phrase 0 (count - 1) (begun - 1) phrases offset Body p x (omega arith) (omega arith) (starts' (begun - 1) x (omega arith) (omega arith))
    (λ k d l u. none' k d (omega arith) u) (λ k d l u. none_begun (get_or phrases k d).arms offset (rise.each k d u) (rest k d (omega arith) u)) in
    (one, sym (found ∙ (let e0 : 0 + (count - 1) ≡ count - 1 = omega arith in ap (λ k. ArmOf k (begun - 1)) e0)))

pub no_region : (phrases : List Phrase) (offset count : ℕ) → RegionsRise phrases → count ≡ 0 → AllWithin (λ p. offset < first_start p.arms) phrases count (length phrases) → Body ≡ region_at phrases offset
no_region phrases offset count rise e rest =
    sym (no_phrase 0 phrases offset Body (λ k d l. none_begun (get_or phrases k d).arms offset (rise.each k d l) (rest k d (omega arith) l)))

pub outward_none : (phrases : List Phrase) (n : ℕ) (r : Region) → 0 < n → holder phrases r ≡ None → None ≡ outward phrases n r
outward_none phrases zero r l e = absurd (omega arith)
outward_none phrases (suc n) r l e = sym (ap (and_then (outward phrases n)) e)

pub outward_more : (phrases : List Phrase) (n : ℕ) (r o : Region) → 0 < n → holder phrases r ≡ Some o → outward phrases (n - 1) o ≡ outward phrases n r
outward_more phrases zero r o l e = absurd (omega arith)
outward_more phrases (suc n) r o l e = (let k : suc n - 1 ≡ n = omega arith in ap (λ m. outward phrases m o) k) ∙ sym (ap (and_then (outward phrases n)) e)
