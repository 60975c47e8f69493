-- The phrases to ask, for valid code.
use Rattle.std.proofs.Common.{◌≡◌, ℕ, zero, suc, ◌-◌, ◌<◌, ◌≤◌, ◌⊎◌, inr, ⊎_elim, List, [], ◌∷◌, ◌++◌, length, drop, get_or, Bool, true, false, Option, Some, None, refl, sym, ap, subst, ◌∙◌, arith}
use Rattle.std.specs.Prelude.{slice_get, if◌then◌else◌}
use Rattle.std.specs.List.{list_any}
use Rattle.std.proofs.lemmas.Bool.{cases_lt, cases_eq, true≢false}
use Rattle.std.proofs.lemmas.List.{append-nil, get_or-take, length-take-le}
use Rattle.std.proofs.lemmas.Option.{slice_get-get_or, slice_get_within, get_or_from_slice_get, same_Some, none-some}
use Rattle.code_forms.specs.declared.module_code.Phrase.{Phrase}
use Rattle.code_forms.specs.declared.region.Region.{Region}
use Rattle.code_forms.specs.declared.region.Region.TheVariants.{Body, ArmOf}
use Rattle.code_forms.specs.Phrases.{Nests, PhrasesFill}
use Rattle.code_forms.specs.Regions.{region_at}
use Rattle.code_forms.specs.Routine.{Spot, code_end}
use Rattle.code_forms.proofs.PhraseOrder.{no_phrase, same_default, end_of_last}
use Rattle.signaller.specs.Search.{covers, covers_in, has, from_of, first_of, enabled_before, enabled, around_at, around, beyond, asked, first_place, numbered}
use Rattle.signaller.specs.Sought.{passed}
use Rattle.signaller.specs.Laws.{outer, AsksEnabled, BeginsInnermost, FindsEnabled, GoesOutward, StaysInside, FindsInnermost, FindsNone, AsksAll, LeavesTheRest}
use Rattle.signaller.proofs.Asking.{around_here, around_more}
use Rattle.signaller.proofs.Enabled.{enabled_more}
use Rattle.signaller.proofs.Inside.{covers_is, range_inside, arm_at, has_arm, starts_rise}
use Rattle.signaller.proofs.Lying.{stand, in_order, ends_with}
use Rattle.signaller.proofs.Regions.{phrase, start, stop, start_before_stop, stop_before}
use Rattle.signaller.proofs.Sweeping.{covers_not, covers_it}

-- the phrase of a number
pub read_phrase : (table : List Phrase) (n : ℕ) (p : Phrase) → slice_get table n ≡ Some p → phrase table n ≡ p
read_phrase table n p is = get_or_from_slice_get table n p no_phrase is

same_phrase : (table : List Phrase) (n : ℕ) → n < length table → phrase table n ≡ get_or table n (phrase table n)
same_phrase table n l = same_default table n no_phrase (phrase table n) l

-- one phrase more
covers_here : (table : List Phrase) (n o : ℕ) → n < length table → covers_in (slice_get table n) o ≡ covers (phrase table n) o
covers_here table n o l = ap (λ x. covers_in x o) (slice_get-get_or table n no_phrase l)

enabled_yes : (table : List Phrase) (n o : ℕ) → n < length table → covers (phrase table n) o ≡ true → enabled_before table (suc n) o ≡ n ∷ enabled_before table n o
enabled_yes table n o l c = enabled_more table n o ∙ ap (λ b. if b then n ∷ enabled_before table n o else enabled_before table n o) (covers_here table n o l ∙ c)

enabled_no : (table : List Phrase) (n o : ℕ) → n < length table → covers (phrase table n) o ≡ false → enabled_before table (suc n) o ≡ enabled_before table n o
enabled_no table n o l c = enabled_more table n o ∙ ap (λ b. if b then n ∷ enabled_before table n o else enabled_before table n o) (covers_here table n o l ∙ c)

enabled_alike : (table : List Phrase) (n a b : ℕ) → n ≤ length table → ((k : ℕ) → k < n → covers (phrase table k) a ≡ covers (phrase table k) b) → enabled_before table n a ≡ enabled_before table n b
enabled_alike table zero a b l h = refl
enabled_alike table (suc n) a b l h =
    let rest = enabled_alike table n a b (omega arith) (λ k m. h k (omega arith)) in
    let same : covers_in (slice_get table n) a ≡ covers_in (slice_get table n) b = covers_here table n a (omega arith) ∙ (h n (omega arith) ∙ sym (covers_here table n b (omega arith))) in
    enabled_more table n a
    ∙ (ap (λ c. if c then n ∷ enabled_before table n a else enabled_before table n a) same
    ∙ (ap (λ xs. if covers_in (slice_get table n) b then n ∷ xs else xs) rest ∙ sym (enabled_more table n b)))

enabled_nothing : (table : List Phrase) (n o : ℕ) → n ≤ length table → ((k : ℕ) → k < n → covers (phrase table k) o ≡ false) → enabled_before table n o ≡ []
enabled_nothing table zero o l h = refl
enabled_nothing table (suc n) o l h = enabled_no table n o (omega arith) (h n (omega arith)) ∙ enabled_nothing table n o (omega arith) (λ k m. h k (omega arith))

around_yes : (outward : Bool) (table : List Phrase) (n o : ℕ) → n < length table → covers (phrase table n) o ≡ true → around outward table (suc n) o ≡ n ∷ around outward table n (phrase table n).from
around_yes outward table n o l c = around_here outward table (suc n) n (phrase table n) (same_phrase table n l) (omega arith) l o (sym c)

around_no : (outward : Bool) (table : List Phrase) (n o : ℕ) → n < length table → covers (phrase table n) o ≡ false → around outward table (suc n) o ≡ around outward table n (passed outward (phrase table n) o)
around_no outward table n o l c = around_more outward table (suc n) n (phrase table n) (same_phrase table n l) (omega arith) l o (passed outward (phrase table n) o) (sym c) refl

-- where one phrase is enabled, those before it are as they are where it begins
nests : (code : List Spot) (table : List Phrase) (k n : ℕ) → PhrasesFill code table → k < n → n < length table → ((phrase table k).to ≤ (phrase table n).from) ⊎ ((phrase table n).to ≤ (phrase table k).to)
nests code table k n f l m =
    let r = (f.right n (phrase table n) m (slice_get-get_or table n no_phrase m)).nests k no_phrase (let t = length-take-le n table (omega arith) in omega (arith, t, l)) in
    subst (λ (q : Phrase). Nests (phrase table n) q) (get_or-take n table k no_phrase l) r

alike : (code : List Spot) (table : List Phrase) (n o : ℕ) → PhrasesFill code table → n < length table → covers (phrase table n) o ≡ true
    → (k : ℕ) → k < n → covers (phrase table k) (phrase table n).from ≡ covers (phrase table k) o
alike code table n o f l c k m =
    let is = covers_is (phrase table n) o c in let low = is.0 in let high = is.1 in
    let sorted = in_order code table f k n no_phrase (omega arith) l in
    let filled = (stand code table f n l).filled in
    ⊎_elim
    (λ (h : (phrase table k).to ≤ (phrase table n).from).
    covers_not (phrase table k) (phrase table n).from (inr h) ∙ sym (covers_not (phrase table k) o (inr (omega (arith, h, low)))))
    (λ (h : (phrase table n).to ≤ (phrase table k).to).
    covers_it (phrase table k) (phrase table n).from sorted (omega (arith, h, filled)) ∙ sym (covers_it (phrase table k) o (omega (arith, sorted, low)) (omega (arith, h, high))))
    (nests code table k n f m l)

-- in a region they are those that are enabled
inside : (code : List Spot) (table : List Phrase) → PhrasesFill code table → (n o : ℕ) → n ≤ length table → around false table n o ≡ enabled_before table n o
unfolding around
inside code table f zero o l = refl
inside code table f (suc n) o l =
    elim (covers (phrase table n) o) as (λ b. covers (phrase table n) o ≡ b → around false table (suc n) o ≡ enabled_before table (suc n) o) [
      | true ↦ λ c. (around_yes false table n o (omega arith) c
          ∙ (ap (λ xs. n ∷ xs) (inside code table f n (phrase table n).from (omega arith) ∙ enabled_alike table n (phrase table n).from o (omega arith) (alike code table n o f (omega arith) c))
          ∙ sym (enabled_yes table n o (omega arith) c)))
      | false ↦ λ c. (around_no false table n o (omega arith) c ∙ (inside code table f n o (omega arith) ∙ sym (enabled_no table n o (omega arith) c)))
    ] refl

-- the arm in whose region an offset is has begun
pub record Begun (table : List Phrase) (o q : ℕ) : Type 0 where
  pub there : q < length table
  pub begun : start table q ≤ o

arm_begun : (code : List Spot) (table : List Phrase) (o q k : ℕ) → PhrasesFill code table → o < code_end code → region_at table o ≡ ArmOf q k → Begun table o q
arm_begun code table o q k f within r =
    let h = has_arm code table q k o f within r in
    record { there = h.0; begun = (arm_at code table q o f h.0 h.1).begun }

stops_rise : (code : List Spot) (table : List Phrase) (n : ℕ) → PhrasesFill code table → n < length table → stop table n ≤ code_end code
stops_rise code table n f l =
    let e = end_of_last table no_phrase (omega arith) in
    let c = ends_with code table (omega arith) f.filled in
    ⊎_elim
    (λ (h : n < length table - 1). let b = stop_before code table n (length table - 1) f h (omega arith) in let s = start_before_stop code table (length table - 1) f (omega arith) in omega (arith, b, s, e, c))
    (λ (h : length table - 1 ≤ n). let i : n ≡ length table - 1 = omega arith in let s = ap (λ k. stop table k) i in omega (arith, s, e, c))
    (cases_lt n (length table - 1))

-- a phrase begins before its arms
from_before : (code : List Spot) (table : List Phrase) (n : ℕ) → PhrasesFill code table → n < length table → (phrase table n).from < start table n
from_before code table n f l = let s = stand code table f n l in let a = s.filled in let b = s.earlier in omega (arith, a, b)

from_within : (code : List Spot) (table : List Phrase) (n : ℕ) → PhrasesFill code table → n < length table → (phrase table n).from < code_end code
from_within code table n f l =
    let b = from_before code table n f l in let s = start_before_stop code table n f l in let e = stops_rise code table n f l in omega (arith, b, s, e)

-- so it lies in the region of an arm of a phrase before it, or in the body
region_before : (code : List Spot) (table : List Phrase) (n q k : ℕ) → PhrasesFill code table → n < length table → region_at table (phrase table n).from ≡ ArmOf q k → q < n
region_before code table n q k f l r =
    let b = arm_begun code table (phrase table n).from q k f (from_within code table n f l) r in
    let g = b.begun in let t = b.there in
    ⊎_elim
    (λ (h : q < n). h)
    (λ (h : n ≤ q). absurd (let s = starts_rise code table n q f h t in let a = from_before code table n f l in omega (arith, s, a, g)))
    (cases_lt q n)

outer_none : (table : List Phrase) (r : Region) → ((q k : ℕ) → r ≡ ArmOf q k → ⊥) → outer true table r ≡ []
outer_none table Body h = refl
outer_none table (ArmOf q k) h = absurd (h q k refl)

-- outward they go on around the region
outside : (code : List Spot) (table : List Phrase) → PhrasesFill code table → (n o : ℕ) → n ≤ length table → o < code_end code → ((q k : ℕ) → region_at table o ≡ ArmOf q k → q < n)
    → around true table n o ≡ enabled_before table n o ++ outer true table (region_at table o)
unfolding around
outside code table f zero o l within h = sym (outer_none table (region_at table o) (λ q k r. let z = h q k r in omega (arith, z)))
outside code table f (suc n) o l within h =
    let there : n < length table = omega arith in
    let p = phrase table n in
    elim (covers (phrase table n) o) as (λ b. covers (phrase table n) o ≡ b → around true table (suc n) o ≡ enabled_before table (suc n) o ++ outer true table (region_at table o)) [
      | true ↦ λ c. (
          let rest = outside code table f n (phrase table n).from (omega arith) (from_within code table n f there) (λ q k r. region_before code table n q k f there r) in
          let same = range_inside code table n o f there c in
          around_yes true table n o there c
          ∙ (ap (λ xs. n ∷ xs) (rest ∙ (ap (λ xs. xs ++ outer true table (region_at table (phrase table n).from)) (enabled_alike table n (phrase table n).from o (omega arith) (alike code table n o f there c))
          ∙ ap (λ r. enabled_before table n o ++ outer true table r) same))
          ∙ ap (λ xs. xs ++ outer true table (region_at table o)) (sym (enabled_yes table n o there c))))
      | false ↦ λ c. around_no true table n o there c ∙
          (elim (list_any (λ a. has a o) (phrase table n).arms) as (λ b. list_any (λ a. has a o) (phrase table n).arms ≡ b
          → around true table n (if b then (phrase table n).from else o) ≡ enabled_before table (suc n) o ++ outer true table (region_at table o)) [
            | true ↦ λ d. (
                let a = arm_at code table n o f there d in
                let nothing = enabled_no table n o there c ∙ enabled_nothing table n o (omega arith)
                (λ k m. elim (covers (phrase table k) o) as (λ b. covers (phrase table k) o ≡ b → covers (phrase table k) o ≡ false) [
                  | true ↦ λ e. absurd (let z = region_before code table k n a.k f (omega (arith, m, there)) (range_inside code table k o f (omega (arith, m, there)) e ∙ a.is) in omega (arith, z, m))
                  | false ↦ λ e. e
                ] refl) in
                ap (λ x. around true table n (from_of x)) (sym (slice_get-get_or table n no_phrase there))
                ∙ (ap (λ r. outer true table r) (sym a.is) ∙ ap (λ xs. xs ++ outer true table (region_at table o)) (sym nothing)))
            | false ↦ λ d. (
                let rest = outside code table f n o (omega arith) within (λ q k r. (
                let z = h q k r in
                ⊎_elim (λ (u : q < n). u)
                (λ (u : n ≤ q). absurd (
                let i : q ≡ n = omega (arith, z, u) in
                let w = (has_arm code table q k o f within r).1 in
                true≢false (sym w ∙ (ap (λ m. list_any (λ a. has a o) (phrase table m).arms) i ∙ d))))
                (cases_lt q n))) in
                rest ∙ ap (λ xs. xs ++ outer true table (region_at table o)) (sym (enabled_no table n o there c)))
          ] refl)
    ] refl

surrounding : (code : List Spot) (table : List Phrase) → PhrasesFill code table → (outward : Bool) (n o : ℕ) → n ≤ length table → o < code_end code → ((q k : ℕ) → region_at table o ≡ ArmOf q k → q < n)
    → around outward table n o ≡ enabled_before table n o ++ outer outward table (region_at table o)
surrounding code table f true n o l within h = outside code table f n o l within h
surrounding code table f false n o l within h = inside code table f n o l ∙ sym (append-nil (enabled_before table n o))

pub asks_enabled : AsksEnabled
asks_enabled code table f outward o within =
    surrounding code table f outward (length table) o (omega arith) within (λ q k r. (has_arm code table q k o f within r).0)

asks_at : (outward : Bool) (table : List Phrase) (n o : ℕ) (x : Option Phrase) → slice_get table n ≡ x
    → ((o : ℕ) → asked outward table (first_of (around outward table n o)) ≡ around outward table n o)
    → asked outward table (first_of (around_at outward n o (around outward table n) x)) ≡ around_at outward n o (around outward table n) x
unfolding around_at
asks_at outward table n o None is h = h o
asks_at outward table n o (Some p) is h =
    elim (covers p o) as (λ b. asked outward table (first_of (if b then n ∷ around outward table n p.from else around outward table n (passed outward p o)))
    ≡ (if b then n ∷ around outward table n p.from else around outward table n (passed outward p o))) [
      | true ↦ ap (λ x. n ∷ around outward table n (from_of x)) is
      | false ↦ h (passed outward p o)
    ]

pub asks_all : AsksAll
unfolding around
asks_all outward table zero o = refl
asks_all outward table (suc n) o = asks_at outward table n o (slice_get table n) refl (asks_all outward table n)

pub finds_enabled : FindsEnabled
finds_enabled code table f outward fits o within =
    ap (λ xs. numbered outward table (first_place fits table xs)) (asks_all outward table (length table) o ∙ asks_enabled code table f outward o within)

first_of_both : (xs ys : List ℕ) (n : ℕ) → first_of xs ≡ Some n → first_of (xs ++ ys) ≡ Some n
first_of_both [] ys n e = absurd (none-some n e)
first_of_both (x ∷ xs) ys n e = e

first_of_rest : (xs ys : List ℕ) → first_of xs ≡ None → first_of (xs ++ ys) ≡ first_of ys
first_of_rest [] ys e = refl
first_of_rest (x ∷ xs) ys e = absurd (none-some x (sym e))

pub begins_innermost : BeginsInnermost
begins_innermost code table f outward o within =
    let e = ap first_of (asks_enabled code table f outward o within) in
    record {
      inside = λ n i. ap (λ k. record { phrase = k }) (e ∙ first_of_both (enabled table o) (outer outward table (region_at table o)) n i);
      around = λ i. ap (λ k. record { phrase = k }) (e ∙ first_of_rest (enabled table o) (outer outward table (region_at table o)) i);
    }

pub goes_outward : GoesOutward
goes_outward code table f outward n p is =
    let there = slice_get_within table n p is in
    let e = read_phrase table n p is in
    ap (λ x. around outward table n (from_of x)) is
    ∙ subst (λ (q : Phrase). around outward table n q.from ≡ enabled_before table n q.from ++ outer outward table (region_at table q.from)) e
    (surrounding code table f outward n (phrase table n).from (omega arith) (from_within code table n f there) (λ q k r. region_before code table n q k f there r))

pub stays_inside : StaysInside
stays_inside code table f n p o is c =
    let there = slice_get_within table n p is in
    let e = read_phrase table n p is in
    subst (λ (q : Phrase). covers q o ≡ true → region_at table q.from ≡ region_at table o) e (range_inside code table n o f there) c

-- the first of the enabled phrases
record FirstOf (table : List Phrase) (o n m : ℕ) : Type 0 where
  below : n < m
  covered : covers (phrase table n) o ≡ true
  after : (k : ℕ) → n < k → k < m → covers (phrase table k) o ≡ false

first_is : (table : List Phrase) (o n m : ℕ) → m ≤ length table → first_of (enabled_before table m o) ≡ Some n → FirstOf table o n m
first_is table o n zero l e = absurd (none-some n e)
first_is table o n (suc m) l e =
    elim (covers (phrase table m) o) as (λ b. covers (phrase table m) o ≡ b → FirstOf table o n (suc m)) [
      | true ↦ λ c. (
          let i : m ≡ n = same_Some m n (sym (ap first_of (enabled_yes table m o (omega arith) c)) ∙ e) in
          record { below = omega arith; covered = subst (λ j. covers (phrase table j) o ≡ true) i c; after = λ k u v. absurd (omega arith) })
      | false ↦ λ c. (
          let r = first_is table o n m (omega arith) (sym (ap first_of (enabled_no table m o (omega arith) c)) ∙ e) in
          record {
            below = (let b = r.below in omega (arith, b));
            covered = r.covered;
            after = λ k u v. ⊎_elim
                (λ (w : k < m). r.after k u w)
                (λ (w : m ≤ k). let i : m ≡ k = omega arith in subst (λ j. covers (phrase table j) o ≡ false) i c)
                (cases_lt k m);
          })
    ] refl

innermost_within : (code : List Spot) (table : List Phrase) (o n m : ℕ) → PhrasesFill code table → FirstOf table o n (length table) → m < length table → covers (phrase table m) o ≡ true
    → ((phrase table m).from ≤ (phrase table n).from) × ((phrase table n).to ≤ (phrase table m).to)
innermost_within code table o n m f r l c =
    let below = r.below in
    let here = covers_is (phrase table n) o r.covered in let low = here.0 in
    let there = covers_is (phrase table m) o c in let high = there.1 in
    ⊎_elim
    (λ (h : n < m). absurd (true≢false (sym c ∙ r.after m h l)))
    (λ (h : m ≤ n). ⊎_elim
    (λ (i : m ≡ n). let a = ap (λ k. (phrase table k).from) i in let b = ap (λ k. (phrase table k).to) i in (omega (arith, a), omega (arith, b)))
    (λ (i : m ≡ n → ⊥). (
      in_order code table f m n no_phrase (omega arith) below,
      ⊎_elim
          (λ (g : (phrase table m).to ≤ (phrase table n).from). absurd (omega (arith, g, low, high)))
          (λ (g : (phrase table n).to ≤ (phrase table m).to). g)
          (nests code table m n f (omega (arith, h, i)) below),
    ))
    (cases_eq m n))
    (cases_lt n m)

pub finds_innermost : FindsInnermost
finds_innermost code table f o n e =
    let r = first_is table o n (length table) (omega arith) e in (
      phrase table n,
      slice_get-get_or table n no_phrase r.below,
      record {
        enabled = r.covered;
        within = λ m q is c. (let there = slice_get_within table m q is in let i = read_phrase table m q is in
            subst (λ (q : Phrase). covers q o ≡ true → (q.from ≤ (phrase table n).from) × ((phrase table n).to ≤ q.to)) i (innermost_within code table o n m f r there) c);
      },
    )

none_of : (table : List Phrase) (o m : ℕ) → m ≤ length table → first_of (enabled_before table m o) ≡ None → (k : ℕ) → k < m → covers (phrase table k) o ≡ false
none_of table o zero l e k u = absurd (omega arith)
none_of table o (suc m) l e k u =
    elim (covers (phrase table m) o) as (λ b. covers (phrase table m) o ≡ b → covers (phrase table k) o ≡ false) [
      | true ↦ λ c. absurd (none-some m (sym (sym (ap first_of (enabled_yes table m o (omega arith) c)) ∙ e)))
      | false ↦ λ c. ⊎_elim
          (λ (w : k < m). none_of table o m (omega arith) (sym (ap first_of (enabled_no table m o (omega arith) c)) ∙ e) k w)
          (λ (w : m ≤ k). let i : m ≡ k = omega arith in subst (λ j. covers (phrase table j) o ≡ false) i c)
          (cases_lt k m)
    ] refl

pub finds_none : FindsNone
finds_none table o = (
  (λ e k d l. ap (λ (p : Phrase). covers p o) (same_default table k d no_phrase l) ∙ none_of table o (length table) (omega arith) e k l),
  (λ h. ap first_of (enabled_nothing table (length table) o (omega arith) (λ k l. h k no_phrase l))),
)

same_head : (m n : ℕ) (xs ys : List ℕ) → m ∷ xs ≡ n ∷ ys → m ≡ n
same_head m n xs ys e = ap (λ l. get_or l 0 0) e

same_tail : (m n : ℕ) (xs ys : List ℕ) → m ∷ xs ≡ n ∷ ys → xs ≡ ys
same_tail m n xs ys e = ap (λ l. drop 1 l) e

no_head : (n : ℕ) (xs : List ℕ) → [] ≡ n ∷ xs → ⊥
no_head n xs e = let l = ap length e in omega (arith, l)

-- what is asked after a phrase
tail_here : (outward : Bool) (table : List Phrase) (m n : ℕ) (p : Phrase) (before after : List ℕ) → slice_get table m ≡ Some p
    → ((o : ℕ) (before after : List ℕ) → around outward table m o ≡ before ++ n ∷ after → after ≡ beyond outward table n)
    → m ∷ around outward table m p.from ≡ before ++ n ∷ after → after ≡ beyond outward table n
tail_here outward table m n p [] after is h e =
    let i : m ≡ n = same_head m n (around outward table m p.from) after e in
    sym (same_tail m n (around outward table m p.from) after e)
    ∙ (ap (λ x. around outward table m (from_of x)) (sym is) ∙ ap (λ k. beyond outward table k) i)
tail_here outward table m n p (k ∷ before) after is h e = h p.from before after (same_tail m k (around outward table m p.from) (before ++ n ∷ after) e)

tail_at : (outward : Bool) (table : List Phrase) (m o n : ℕ) (before after : List ℕ) (x : Option Phrase) → slice_get table m ≡ x
    → ((o : ℕ) (before after : List ℕ) → around outward table m o ≡ before ++ n ∷ after → after ≡ beyond outward table n)
    → around_at outward m o (around outward table m) x ≡ before ++ n ∷ after → after ≡ beyond outward table n
unfolding around_at
tail_at outward table m o n before after None is h e = h o before after e
tail_at outward table m o n before after (Some p) is h e =
    elim (covers p o) as (λ b. (if b then m ∷ around outward table m p.from else around outward table m (passed outward p o)) ≡ before ++ n ∷ after → after ≡ beyond outward table n) [
      | true ↦ tail_here outward table m n p before after is h
      | false ↦ h (passed outward p o) before after
    ] e

pub leaves_the_rest : LeavesTheRest
unfolding around
leaves_the_rest outward table zero o n [] after e = absurd (no_head n after e)
leaves_the_rest outward table zero o n (k ∷ before) after e = absurd (no_head k (before ++ n ∷ after) e)
leaves_the_rest outward table (suc m) o n before after e =
    tail_at outward table m o n before after (slice_get table m) refl (λ o before after. leaves_the_rest outward table m o n before after) e
