-- How the phrases of valid code lie.
use Rattle.std.proofs.Common.{◌≡◌, ℕ, zero, suc, ◌+◌, ◌-◌, ◌^◌, ◌<◌, ◌≤◌, ⊎_elim, List, [], ◌∷◌, length, get_or, take, refl, ap, subst, ◌∙◌, arith}
use Rattle.std.specs.Prelude.{slice_get}
use Rattle.std.specs.List.Sorted.{IsNonDecreasingBy}
use Rattle.std.proofs.Math.Logic.{∥∥₁_elim}
use Rattle.std.proofs.Math.Seq.{take-length}
use Rattle.std.proofs.Props.{props}
use Rattle.std.proofs.lemmas.Bool.{cases_lt}
use Rattle.std.proofs.lemmas.List.Sums.{sum_by_more}
use Rattle.std.proofs.lemmas.Option.{slice_get_within, get_or_from_slice_get}
use Rattle.code_forms.specs.declared.module_code.Arm.{Arm}
use Rattle.code_forms.specs.declared.module_code.CodeEntry.{CodeEntry}
use Rattle.code_forms.specs.declared.module_code.CodeProcedure.{CodeProcedure}
use Rattle.code_forms.specs.declared.module_code.Phrase.{Phrase}
use Rattle.code_forms.specs.declared.instruction.Instruction.TheVariants.{Return}
use Rattle.code_forms.specs.Phrases.{first_start, last_end, regions_end, ArmsFollow, RegionsFollow, Stands, EndsWithCode, PhrasesFill}
use Rattle.code_forms.specs.Ranges.{InOrder, ProcedureInRange}
use Rattle.code_forms.specs.Routine.{Spot, spots, end_of, code_end}
use Rattle.code_forms.proofs.Ordered.{spot_at, spots_length}
use Rattle.code_forms.proofs.PhraseOrder.{no_arm, no_phrase, last_end_is, first_start_is, follows_end, end_of_taken, end_of_last, stand_sorted, fill_stand}
use Rattle.signaller.specs.Search.{arms_before}
use Rattle.signaller.specs.Tables.{IsCatchTable}
use Rattle.signaller.specs.Laws.{TablesOfValid}

pub stand : (code : List Spot) (table : List Phrase) → PhrasesFill code table → (k : ℕ) → k < length table → Stands code (take k table) (get_or table k no_phrase)
stand code table f k l = fill_stand code table f k no_phrase l

pub in_order : (code : List Spot) (table : List Phrase) → PhrasesFill code table → IsNonDecreasingBy (λ p. p.from) table
in_order code table f = subst (λ (t : List Phrase). IsNonDecreasingBy (λ p. p.from) t) (take-length table) (stand_sorted code table (length table) (omega arith) (fill_stand code table f))

no_arms : (arms : List Arm) → length arms ≡ 0 → first_start arms ≡ 0
no_arms [] e = refl
no_arms (a ∷ arms) e = absurd (omega arith)

-- each phrase has an arm
pub armed : (code : List Spot) (table : List Phrase) → PhrasesFill code table → (k : ℕ) → k < length table → 0 < length (get_or table k no_phrase).arms
armed code table f k l =
    let p = get_or table k no_phrase in
    let s = stand code table f k l in
    let filled = s.filled in let earlier = s.earlier in
    ⊎_elim
    (λ (h : 0 < length p.arms). h)
    (λ (h : length p.arms ≤ 0). absurd (let e = no_arms p.arms (omega arith) in omega (arith, e, filled, earlier)))
    (cases_lt 0 (length p.arms))

-- arms that follow each other take room
pub arm_behind : (code : List Spot) (arms : List Arm) → ArmsFollow code arms → 0 < length arms → (k : ℕ) → k < length arms → first_start arms + k ≤ (get_or arms k no_arm).start
arm_behind code arms f some zero l = let e = first_start_is arms no_arm some in omega (arith, e)
arm_behind code arms f some (suc k) l =
    let before = arm_behind code arms f some k (omega arith) in
    let e = (f.each k no_arm (omega arith)).1 in
    let j : (get_or arms k no_arm).end ≡ (get_or arms (k + 1) no_arm).start = f.joined k no_arm (omega arith) in
    let s : (get_or arms (k + 1) no_arm).start ≡ (get_or arms (suc k) no_arm).start = (let i : k + 1 ≡ suc k = omega arith in ap (λ n. (get_or arms n no_arm).start) i) in
    omega (arith, before, e, j, s)

pub arms_wide : (code : List Spot) (arms : List Arm) → ArmsFollow code arms → 0 < length arms → first_start arms + length arms ≤ last_end arms
arms_wide code arms f some =
    let b = arm_behind code arms f some (length arms - 1) (omega arith) in
    let e = (f.each (length arms - 1) no_arm (omega arith)).1 in
    let l = last_end_is arms no_arm some in
    omega (arith, b, e, l)

-- the arms of the first so many phrases, and where the regions of these end
arms_more : (table : List Phrase) (n : ℕ) → n < length table → arms_before table (n + 1) ≡ arms_before table n + length (get_or table n no_phrase).arms
arms_more table n l = sum_by_more (λ (p : Phrase). length p.arms) table n no_phrase l

pub taken_some : (table : List Phrase) (n : ℕ) → 0 < n → n ≤ length table → 0 < length (take n table)
taken_some [] n l m = absurd (omega arith)
taken_some (p ∷ table) zero l m = absurd (omega arith)
taken_some (p ∷ table) (suc n) l m = omega arith

first_behind : (before : List Phrase) (start : ℕ) → length before ≡ 0 → RegionsFollow before start → 0 < start
first_behind [] start e f = f
first_behind (p ∷ before) start e f = absurd (omega arith)

pub ends_far : (code : List Spot) (table : List Phrase) → PhrasesFill code table → (n : ℕ) → n < length table → arms_before table (n + 1) < last_end (get_or table n no_phrase).arms
ends_far code table f zero l =
    let s = stand code table f zero l in
    let w = arms_wide code (get_or table zero no_phrase).arms s.arms (armed code table f zero l) in
    let b = first_behind (take zero table) (first_start (get_or table zero no_phrase).arms) refl s.regions in
    let m = arms_more table zero l in
    let z : arms_before table zero ≡ 0 = refl in
    omega (arith, w, b, m, z)
ends_far code table f (suc n) l =
    let s = stand code table f (suc n) l in
    let w = arms_wide code (get_or table (suc n) no_phrase).arms s.arms (armed code table f (suc n) l) in
    let before = ends_far code table f n (omega arith) in
    let b = follows_end (take (suc n) table) (first_start (get_or table (suc n) no_phrase).arms) (taken_some table (suc n) (omega arith) (omega arith)) s.regions in
    let t = end_of_taken table n no_phrase (omega arith) in
    let i : n + 1 ≡ suc n = omega arith in
    let t1 = ap (λ k. regions_end (take k table)) i in
    let a1 = ap (λ k. arms_before table k) i in
    let m = arms_more table (suc n) l in
    omega (arith, w, before, b, t, t1, a1, m)

pub as_many : (code : List Spot) (table : List Phrase) → PhrasesFill code table → (n : ℕ) → n ≤ length table → n ≤ arms_before table n
as_many code table f zero l = omega arith
as_many code table f (suc n) l =
    let before = as_many code table f n (omega arith) in
    let a = armed code table f n (omega arith) in
    let m = arms_more table n (omega arith) in
    let i : n + 1 ≡ suc n = omega arith in
    let a1 = ap (λ k. arms_before table k) i in
    omega (arith, before, a, m, a1)

abbrev no_entry : CodeEntry
no_entry = record { at = 0; depth = 0; instruction = Return }

-- the code ends within 32 bits
code_short : (code : List CodeEntry) → InOrder code → code_end (spots code) < 2 ^ 32
code_short code o =
    let d = no_entry in
    let n = spots_length code in
    let some = o.some in
    let e = spot_at code (length code - 1) d (omega arith) in
    let last = ap (λ k. slice_get (spots code) (k - 1)) n ∙ e in
    let is = ap end_of last in
    let s = o.short (length code - 1) d (omega arith) in
    omega (arith, is, s)

pub ends_with : (code : List Spot) (table : List Phrase) → 0 < length table → EndsWithCode code table → regions_end table ≡ code_end code
ends_with code [] l e = absurd (omega arith)
ends_with code (p ∷ table) l e = e

pub table_of : (code : List CodeEntry) (table : List Phrase) → InOrder code → PhrasesFill (spots code) table → IsCatchTable table
table_of code table o f =
    let few_arms : arms_before table (length table) < 2 ^ 32 = ⊎_elim
    (λ (l : 0 < length table).
    let n = length table - 1 in
    let far = ends_far (spots code) table f (length table - 1) (omega arith) in
    let i : length table - 1 + 1 ≡ length table = omega arith in
    let a = ap (λ k. arms_before table k) i in
    let e = end_of_last table no_phrase l in
    let c = ends_with (spots code) table l f.filled in
    let s = code_short code o in
    omega (arith, far, a, e, c, s))
    (λ (l : length table ≤ 0). let i : length table ≡ 0 = omega arith in let a = ap (λ k. arms_before table k) i in omega (arith, a))
    (cases_lt 0 (length table)) in
    record {
      few = (let m = as_many (spots code) table f (length table) (omega arith) in omega (arith, m, few_arms));
      few_arms = few_arms;
      sorted = in_order (spots code) table f;
    }

one_table : (table : List Phrase) → IsProp (IsCatchTable table)
one_table table = hlevel props

pub tables_of_valid : TablesOfValid
tables_of_valid m v n p is =
    ∥∥₁_elim m.ranges (one_table p.phrases) (λ r.
    let l = slice_get_within m.procedures n p is in
    let q : get_or m.procedures n p ≡ p = get_or_from_slice_get m.procedures n p p is in
    let range : ProcedureInRange m.signals m.links p = subst (λ (x : CodeProcedure). ProcedureInRange m.signals m.links x) q (r.each_procedure n p l) in
    table_of p.code p.phrases range.code (v n p l is).phrases)
