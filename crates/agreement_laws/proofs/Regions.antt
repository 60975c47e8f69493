-- The regions of the code of a procedure, and which phrases are around an offset, as the machine asks them.
use Rattle.std.proofs.Common.{◌≡◌, ⊎_elim, ℕ, zero, suc, ◌+◌, ◌-◌, ◌<◌, ◌≤◌, List, [], ◌∷◌, ◌++◌, length, Bool, true, false, Option, Some, None, refl, sym, ap, ◌∙◌, subst, append-nil, get_or, arith}
use Rattle.std.specs.Prelude.{slice_get, ◌&&◌, if◌then◌else◌}
use Rattle.std.proofs.lemmas.Bool.{true≢false, cases_lt}
use Rattle.std.specs.List.{list_any}
use Rattle.std.proofs.lemmas.Option.{none-some, slice_get_within, get_or_from_slice_get}
use Rattle.code_forms.specs.declared.module_code.Arm.{Arm}
use Rattle.code_forms.specs.declared.module_code.Phrase.{Phrase}
use Rattle.code_forms.specs.declared.region.Region.{Region}
use Rattle.code_forms.specs.declared.region.Region.TheVariants.{Body, ArmOf}
use Rattle.code_forms.specs.Phrases.{PhrasesFill, ArmsFollow, last_end}
use Rattle.code_forms.specs.Regions.{region_at}
use Rattle.code_forms.specs.Routine.{Spot, spots, code_end}
use Rattle.code_forms.proofs.PhraseOrder.{no_arm, no_phrase, last_end_is, end_of_last}
use Rattle.signaller.specs.declared.place.Place.{Place}
use Rattle.signaller.specs.Search.{covers, covers_in, has, arms_of, from_of, enabled_before, enabled, around_at, around, beyond, asked, search_from}
use Rattle.signaller.specs.Laws.{outer}
use Rattle.signaller.proofs.Enabled.{enabled_more}
use Rattle.signaller.proofs.Lying.{stand, ends_with}
use Rattle.signaller.proofs.Regions.{somewhere, InSome, in_arm, phrase, start, stop, start_before_stop, stop_before}
use Rattle.signaller.proofs.Surrounding.{asks_enabled, asks_all, goes_outward, read_phrase}
use Rattle.source_meaning.specs.State.{ProcedureId}
use Rattle.machine_rules.specs.LookUps.{phrases_in}
use Rattle.machine_rules.proofs.Holding.{ArmAtPlace, has_is, region_of as region_of_arm}
use Rattle.code_rules.specs.Reading as reading
use Rattle.code_rules.specs.Reading.{Coded, phrases_before, phrases_around}
use Rattle.agreement_laws.specs.World.{World, CodeOf}
use Rattle.agreement_laws.specs.Standing.{Part, IsFrame, IsArm, table_of, region_of, LiesIn}
use Rattle.agreement_laws.proofs.Codes.{table_is}
use Rattle.agreement_laws.proofs.Pushing.{AllBelow}

-- An arm at a place.

place_by : (table : List Phrase) (place : Place) (o : Option Phrase) (arm : Arm) → slice_get table place.phrase ≡ o → slice_get (arms_of o) place.arm ≡ Some arm
    → ArmAtPlace table place arm
place_by table place None arm is there = absurd (none-some arm there)
place_by table place (Some phrase) arm is there = record { phrase = phrase; is = is; there = there }

pub arm_placed : (table : List Phrase) (place : Place) (arm : Arm) → slice_get (arms_of (slice_get table place.phrase)) place.arm ≡ Some arm
    → ArmAtPlace table place arm
arm_placed table place arm there = place_by table place (slice_get table place.phrase) arm refl there

abbrev is_arm : Region → Bool
is_arm Body = false
is_arm (ArmOf n k) = true

-- An offset in a region lies in the code, where there are phrases at all.

-- an arm ends where the last one does, or before
end_last : (code : List Spot) (arms : List Arm) → ArmsFollow code arms → (d k : ℕ) → suc k + d ≡ length arms → (get_or arms k no_arm).end ≤ last_end arms
end_last code arms f zero k e =
    let last = last_end_is arms no_arm (omega (arith, e)) in
    let is : length arms - 1 ≡ k = omega (arith, e) in
    let same = ap (λ n. (get_or arms n no_arm).end) is in
    omega (arith, last, same)
end_last code arms f (suc d) k e =
    let joined = f.joined k no_arm (omega (arith, e)) in
    let filled = (f.each (k + 1) no_arm (omega (arith, e))).1 in
    let more = end_last code arms f d (k + 1) (omega (arith, e)) in
    omega (arith, joined, filled, more)

stops_within : (code : List Spot) (table : List Phrase) → PhrasesFill code table → (n : ℕ) → n < length table → stop table n ≤ code_end code
stops_within code table f n l =
    let last = length table - 1 in
    let whole = end_of_last table no_phrase (omega (arith, l)) ∙ ends_with code table (omega (arith, l)) f.filled in
    ⊎_elim
    (λ (less : n < last).
    let a = stop_before code table n last f less (omega (arith, l)) in
    let b = start_before_stop code table last f (omega (arith, l)) in omega (arith, a, b, whole))
    (λ (most : last ≤ n). let is : n ≡ last = omega (arith, l, most) in let same = ap (λ k. stop table k) is in omega (arith, same, whole))
    (cases_lt n last)

arm_within : (code : List Spot) (table : List Phrase) → PhrasesFill code table → (place : Place) (a : Arm) → ArmAtPlace table place a → (o : ℕ) → has a o ≡ true
    → o < code_end code
arm_within code table f place a t o h =
    let n = place.phrase in let k = place.arm in
    let l = slice_get_within table n t.phrase t.is in
    let m = slice_get_within t.phrase.arms k a t.there in
    let p = read_phrase table n t.phrase t.is in
    let arms = (stand code table f n l).arms in
    let same = ap (λ (x : Phrase). length x.arms) p in
    let e = end_last code (phrase table n).arms arms (length (phrase table n).arms - suc k) k (omega (arith, m, same)) in
    let is = ap (λ (x : Phrase). (get_or x.arms k no_arm).end) p ∙ ap (λ (x : Arm). x.end) (get_or_from_slice_get t.phrase.arms k a no_arm t.there) in
    let b = (has_is a o h).1 in
    let w = stops_within code table f n l in
    omega (arith, e, is, b, w)

body_within : (code : List Spot) (table : List Phrase) → PhrasesFill code table → (o : ℕ) → region_at table o ≡ Body → 0 < length table → o < code_end code
body_within code table f o body some = ⊎_elim
    (λ (x : (region_at table o ≡ Body) × ((k : ℕ) → k < length table → o < start table k)).
    let a = x.1 0 some in let b = start_before_stop code table 0 f some in let w = stops_within code table f 0 some in omega (arith, a, b, w))
    (λ (x : InSome table o). absurd (true≢false (sym (ap is_arm (in_arm code table o x.q x.k f x.is)) ∙ ap is_arm body)))
    (somewhere code table o f)

-- The phrases that are enabled.

and_both : (b : Bool) (n : ℕ) (xs : List ℕ) → reading.and_if b n xs ≡ (if b then n ∷ xs else xs)
and_both true n xs = refl
and_both false n xs = refl

covers_both : (x : Option Phrase) (o : ℕ) → reading.covers x o ≡ covers_in x o
covers_both None o = refl
covers_both (Some p) o = refl

pub before_is : (table : List Phrase) (n o : ℕ) → phrases_before table n o ≡ enabled_before table n o
before_is table zero o = refl
before_is table (suc n) o =
    ap (λ b. reading.and_if b n (phrases_before table n o)) (covers_both (slice_get table n) o)
    ∙ and_both (covers_in (slice_get table n) o) n (phrases_before table n o)
    ∙ ap (λ xs. if covers_in (slice_get table n) o then n ∷ xs else xs) (before_is table n o)
    ∙ sym (enabled_more table n o)

-- behind one of them are those before it

abbrev head : List ℕ → ℕ
head [] = 0
head (x ∷ xs) = x

abbrev rest : List ℕ → List ℕ
rest [] = []
rest (x ∷ xs) = xs

no_part : (before : List ℕ) (n : ℕ) (after : List ℕ) → [] ≡ before ++ n ∷ after → ⊥
no_part [] n after e = let l : 0 ≡ suc (length after) = ap length e in omega (arith, l)
no_part (x ∷ before) n after e = let l : 0 ≡ suc (length (before ++ n ∷ after)) = ap length e in omega (arith, l)

tail_if : (table : List Phrase) (m o n : ℕ) → ((before after : List ℕ) → phrases_before table m o ≡ before ++ n ∷ after → after ≡ phrases_before table n o)
    → (b : Bool) (before after : List ℕ) → reading.and_if b m (phrases_before table m o) ≡ before ++ n ∷ after → after ≡ phrases_before table n o
tail_if table m o n h true [] after e = sym (ap rest e) ∙ ap (λ k. phrases_before table k o) (ap head e)
tail_if table m o n h true (x ∷ before) after e = h before after (ap rest e)
tail_if table m o n h false before after e = h before after e

pub tail_before : (table : List Phrase) (m o n : ℕ) (before after : List ℕ) → phrases_before table m o ≡ before ++ n ∷ after → after ≡ phrases_before table n o
tail_before table zero o n before after e = absurd (no_part before n after e)
tail_before table (suc m) o n before after e =
    tail_if table m o n (λ before after e. tail_before table m o n before after e) (reading.covers (slice_get table m) o) before after e

-- the phrases to ask among so many have lower numbers

pub below_more : (j k : ℕ) (numbers : List ℕ) → j ≤ k → AllBelow j numbers → AllBelow k numbers
below_more j k [] le b = tt
below_more j k (n ∷ numbers) le b = (let lt = b.0 in omega (arith, lt, le), below_more j k numbers le b.1)

below_if : (c : Bool) (n : ℕ) (one other : List ℕ) → AllBelow n one → AllBelow n other → AllBelow (suc n) (if c then n ∷ one else other)
below_if true n one other a b = (omega arith, below_more n (suc n) one (omega arith) a)
below_if false n one other a b = below_more n (suc n) other (omega arith) b

below_at : (outward : Bool) (table : List Phrase) (n o : ℕ) (x : Option Phrase) → ((o : ℕ) → AllBelow n (around outward table n o))
    → AllBelow (suc n) (around_at outward n o (around outward table n) x)
unfolding around_at
below_at outward table n o None h = below_more n (suc n) (around outward table n o) (omega arith) (h o)
below_at outward table n o (Some p) h =
    below_if (covers p o) n (around outward table n p.from) (around outward table n (if outward && list_any (λ a. has a o) p.arms then p.from else o))
    (h p.from) (h _)

pub around_below : (outward : Bool) (table : List Phrase) (n o : ℕ) → AllBelow n (around outward table n o)
unfolding around
around_below outward table zero o = tt
around_below outward table (suc n) o = below_at outward table n o (slice_get table n) (λ o. around_below outward table n o)

pub beyond_below : (outward : Bool) (table : List Phrase) (n : ℕ) → AllBelow n (beyond outward table n)
beyond_below outward table n = around_below outward table n (from_of (slice_get table n))

-- a search from the phrases that stand beyond one asks them
pub asks_beyond : (outward : Bool) (table : List Phrase) (n : ℕ) → asked outward table (search_from (beyond outward table n)).phrase ≡ beyond outward table n
asks_beyond outward table n = asks_all outward table n (from_of (slice_get table n))

-- The phrases around an offset of the code.

no_table : (outward : Bool) (table : List Phrase) (o : ℕ) (region : Region) → length table ≡ 0 → region ≡ Body
    → around outward table (length table) o ≡ enabled table o ++ outer outward table region
unfolding around
no_table true [] o region e is = ap (λ r. outer true [] r) (sym is)
no_table false [] o region e is = refl
no_table outward (p ∷ table) o region e is = absurd (omega (arith, e))

module _ (W : World) (p : ProcedureId) (C : Coded) (c : CodeOf W p C) where
  abbrev pub code : List Spot
  code = spots c.procedure.code

  pub fills : PhrasesFill code (table_of W p)
  unfolding phrases_in
  fills = subst (λ t. PhrasesFill code t) (sym (ap phrases_in c.is_there)) c.fills

  -- an offset in the region of an activation has that region
  pub region_in : (part : Part) (o : ℕ) → LiesIn (table_of W p) part o → region_at (table_of W p) o ≡ region_of part
  region_in (IsFrame number) o lies = lies
  region_in (IsArm own holder place number why) o lies =
      region_of_arm code (table_of W p) o fills place lies.0 (arm_placed (table_of W p) place lies.0 lies.1) lies.2

  -- and lies in the code
  around_in : (outward : Bool) (part : Part) (o : ℕ) → LiesIn (table_of W p) part o
      → around outward (table_of W p) (length (table_of W p)) o ≡ enabled (table_of W p) o ++ outer outward (table_of W p) (region_of part)
  around_in outward (IsFrame number) o lies = ⊎_elim
      (λ (some : 0 < length (table_of W p)).
      asks_enabled code (table_of W p) fills outward o (body_within code (table_of W p) fills o lies some)
      ∙ ap (λ r. enabled (table_of W p) o ++ outer outward (table_of W p) r) lies)
      (λ (none : length (table_of W p) ≤ 0). no_table outward (table_of W p) o Body (omega (arith, none)) refl)
      (cases_lt 0 (length (table_of W p)))
  around_in outward (IsArm own holder place number why) o lies =
      asks_enabled code (table_of W p) fills outward o
      (arm_within code (table_of W p) fills place lies.0 (arm_placed (table_of W p) place lies.0 lies.1) o lies.2)
      ∙ ap (λ r. enabled (table_of W p) o ++ outer outward (table_of W p) r) (region_in (IsArm own holder place number why) o lies)

  pub enabled_is : (o : ℕ) → enabled (table_of W p) o ≡ phrases_around C.routine.phrases o
  enabled_is o = ap (λ t. enabled t o) (table_is W p C c) ∙ sym (before_is C.routine.phrases (length C.routine.phrases) o)

  -- those that a raise asks, and those that a jump asks
  pub raise_asks : (part : Part) (o : ℕ) (near : List ℕ) → LiesIn (table_of W p) part o → phrases_around C.routine.phrases o ≡ near
      → around true (table_of W p) (length (table_of W p)) o ≡ near ++ outer true (table_of W p) (region_of part)
  raise_asks part o near lies e = around_in true part o lies ∙ ap (λ xs. xs ++ outer true (table_of W p) (region_of part)) (enabled_is o ∙ e)

  pub jump_asks : (part : Part) (o : ℕ) (near : List ℕ) → LiesIn (table_of W p) part o → phrases_around C.routine.phrases o ≡ near
      → around false (table_of W p) (length (table_of W p)) o ≡ near
  jump_asks part o near lies e = around_in false part o lies ∙ append-nil (enabled (table_of W p) o) ∙ enabled_is o ∙ e

  -- those beyond a phrase, in whose range the code begins so
  module _ (n : ℕ) (ph : Phrase) (near inner : List ℕ) (is : slice_get C.routine.phrases n ≡ Some ph)
      (e : phrases_around C.routine.phrases ph.from ≡ inner ++ n ∷ near) where
    before_it : enabled_before (table_of W p) n ph.from ≡ near
    before_it =
        ap (λ t. enabled_before t n ph.from) (table_is W p C c) ∙ sym (before_is C.routine.phrases n ph.from)
        ∙ sym (tail_before C.routine.phrases (length C.routine.phrases) ph.from n inner near e)

    in_table : slice_get (table_of W p) n ≡ Some ph
    in_table = ap (λ t. slice_get t n) (table_is W p C c) ∙ is

    pub beyond_raise : beyond true (table_of W p) n ≡ near ++ outer true (table_of W p) (region_at (table_of W p) ph.from)
    beyond_raise =
        goes_outward code (table_of W p) fills true n ph in_table ∙ ap (λ xs. xs ++ outer true (table_of W p) (region_at (table_of W p) ph.from)) before_it

    pub beyond_jump : beyond false (table_of W p) n ≡ near
    beyond_jump = goes_outward code (table_of W p) fills false n ph in_table ∙ append-nil (enabled_before (table_of W p) n ph.from) ∙ before_it
