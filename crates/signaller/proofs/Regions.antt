-- The region that holds an offset, and where the regions of valid code lie.
use Rattle.std.proofs.Common.{◌≡◌, ℕ, zero, suc, ◌+◌, ◌<◌, ◌≤◌, ◌⊎◌, inl, inr, ⊎_elim, List, [], ◌∷◌, length, get_or, take, ap, subst, ◌∙◌, arith}
use Rattle.std.proofs.lemmas.Bool.{cases_lt}
use Rattle.code_forms.specs.declared.module_code.Arm.{Arm}
use Rattle.code_forms.specs.declared.module_code.Phrase.{Phrase}
use Rattle.code_forms.specs.declared.region.Region.TheVariants.{Body, ArmOf}
use Rattle.code_forms.specs.Phrases.{first_start, last_end, PhrasesFill}
use Rattle.code_forms.specs.Regions.{region_at}
use Rattle.code_forms.specs.Rising.{RegionsRise}
use Rattle.code_forms.specs.Routine.{Spot}
use Rattle.code_forms.proofs.Begun.{last_phrase, none_begun}
use Rattle.code_forms.proofs.Begun.{no_phrase as none_begins}
use Rattle.code_forms.proofs.PhraseOrder.{no_arm, no_phrase, same_default, first_start_is, follows_end, end_of_taken, fill_rise}
use Rattle.signaller.proofs.Lying.{stand, armed, arms_wide, taken_some}

-- the last element whose number is at most another
pub record Last {X : Type 0} (f : X → ℕ) (d : X) (xs : List X) (o : ℕ) : Type 0 where
  pub number : ℕ
  pub there : number < length xs
  pub begun : f (get_or xs number d) ≤ o
  pub after : (k : ℕ) → number < k → k < length xs → o < f (get_or xs k d)

cons_from : {X : Type 0} (f : X → ℕ) (d x : X) (xs : List X) (n o : ℕ) → ((k : ℕ) → n ≤ k → k < length xs → o < f (get_or xs k d))
    → (k : ℕ) → n < k → k < length (x ∷ xs) → o < f (get_or (x ∷ xs) k d)
cons_from f d x xs n o h zero l m = absurd (omega arith)
cons_from f d x xs n o h (suc k) l m = h k (omega arith) (omega arith)

cons_all : {X : Type 0} (f : X → ℕ) (d x : X) (xs : List X) (o : ℕ) → o < f x → ((k : ℕ) → k < length xs → o < f (get_or xs k d)) → (k : ℕ) → k < length (x ∷ xs) → o < f (get_or (x ∷ xs) k d)
cons_all f d x xs o b h zero m = b
cons_all f d x xs o b h (suc k) m = h k (omega arith)

pub last_upto : {X : Type 0} (f : X → ℕ) (d : X) (xs : List X) (o : ℕ) → ((k : ℕ) → k < length xs → o < f (get_or xs k d)) ⊎ Last f d xs o
last_upto f d [] o = inl (λ k l. absurd (omega arith))
last_upto {X} f d (x ∷ xs) o = ⊎_elim
    (λ (none : (k : ℕ) → k < length xs → o < f (get_or xs k d)). ⊎_elim
    (λ (l : o < f x). inl (cons_all f d x xs o l none))
    (λ (l : f x ≤ o). inr (record { number = 0; there = omega arith; begun = l; after = cons_from f d x xs 0 o (λ k m n. none k n) }))
    (cases_lt o (f x)))
    (λ (b : Last f d xs o). inr (record { number = suc b.number; there = (let t = b.there in omega (arith, t)); begun = b.begun; after = cons_from f d x xs (suc b.number) o (λ k m n. b.after k (omega arith) n) }))
    (last_upto f d xs o)

abbrev pub phrase : List Phrase → ℕ → Phrase
phrase table k = get_or table k no_phrase

abbrev pub arm : List Phrase → ℕ → ℕ → Arm
arm table q k = get_or (phrase table q).arms k no_arm

abbrev pub start : List Phrase → ℕ → ℕ
start table k = first_start (phrase table k).arms

abbrev pub stop : List Phrase → ℕ → ℕ
stop table k = last_end (phrase table k).arms

pub rises : (code : List Spot) (table : List Phrase) → PhrasesFill code table → RegionsRise table
rises code table f = fill_rise code table (λ k d l. subst (λ (p : Phrase). 0 < length p.arms) (same_default table k no_phrase d l) (armed code table f k l)) f

-- an offset in the region of an arm
pub record InArm (table : List Phrase) (o q k : ℕ) : Type 0 where
  pub phrase_there : q < length table
  pub arm_there : k < length (phrase table q).arms
  pub begun : (arm table q k).start ≤ o
  pub later_arms : (j : ℕ) → k < j → j < length (phrase table q).arms → o < (arm table q j).start
  pub later : (j : ℕ) → q < j → j < length table → o < start table j

pub in_arm : (code : List Spot) (table : List Phrase) (o q k : ℕ) → PhrasesFill code table → InArm table o q k → region_at table o ≡ ArmOf q k
in_arm code table o q k f i =
    let rise = rises code table f in
    last_phrase 0 q k table o Body no_phrase no_arm i.phrase_there i.arm_there i.begun
    (λ j x l m. let e = ap (λ a. a.start) (same_default (phrase table q).arms j no_arm x m) in let h = i.later_arms j l m in omega (arith, e, h))
    (λ j d l m. none_begun (get_or table j d).arms o (rise.each j d m) (let e = ap (λ p. first_start p.arms) (same_default table j no_phrase d m) in let h = i.later j l m in omega (arith, e, h)))
    ∙ ap (λ n. ArmOf n k) (let e : 0 + q ≡ q = omega arith in e)

-- each offset is in the body, before each arm, or in an arm
pub record InSome (table : List Phrase) (o : ℕ) : Type 0 where
  pub q : ℕ
  pub k : ℕ
  pub is : InArm table o q k

pub somewhere : (code : List Spot) (table : List Phrase) (o : ℕ) → PhrasesFill code table → ((region_at table o ≡ Body) × ((k : ℕ) → k < length table → o < start table k)) ⊎ InSome table o
somewhere code table o f =
    let rise = rises code table f in
    ⊎_elim
    (λ (none : (k : ℕ) → k < length table → o < start table k). inl (
      none_begins 0 table o Body (λ k d l. none_begun (get_or table k d).arms o (rise.each k d l)
          (let e = ap (λ p. first_start p.arms) (same_default table k no_phrase d l) in let h = none k l in omega (arith, e, h))),
      none,
    ))
    (λ (b : Last (λ p. first_start p.arms) no_phrase table o). ⊎_elim
    (λ (none : (j : ℕ) → j < length (phrase table b.number).arms → o < (arm table b.number j).start). absurd (
    let some = armed code table f b.number b.there in
    let h = none 0 some in let g = b.begun in let e = first_start_is (phrase table b.number).arms no_arm some in omega (arith, h, g, e)))
    (λ (a : Last (λ x. x.start) no_arm (phrase table b.number).arms o). inr (record {
      q = b.number;
      k = a.number;
      is = record { phrase_there = b.there; arm_there = a.there; begun = a.begun; later_arms = a.after; later = b.after };
    }))
    (last_upto (λ x. x.start) no_arm (phrase table b.number).arms o))
    (last_upto (λ p. first_start p.arms) no_phrase table o)

-- the regions of a phrase's arms end where those of the next one begin
pub next_start : (code : List Spot) (table : List Phrase) (k : ℕ) → PhrasesFill code table → k + 1 < length table → stop table k ≡ start table (k + 1)
next_start code table k f l =
    let s = stand code table f (k + 1) l in
    let b = follows_end (take (k + 1) table) (start table (k + 1)) (taken_some table (k + 1) (omega arith) (omega arith)) s.regions in
    let t = end_of_taken table k no_phrase (omega arith) in
    omega (arith, b, t)

pub start_before_stop : (code : List Spot) (table : List Phrase) (k : ℕ) → PhrasesFill code table → k < length table → start table k < stop table k
start_before_stop code table k f l =
    let some = armed code table f k l in
    let w = arms_wide code (phrase table k).arms (stand code table f k l).arms some in omega (arith, some, w)

pub stop_before : (code : List Spot) (table : List Phrase) (i j : ℕ) → PhrasesFill code table → i < j → j < length table → stop table i ≤ start table j
stop_before code table i zero f l m = absurd (omega arith)
stop_before code table i (suc j) f l m =
    let e : j + 1 ≡ suc j = omega arith in
    let n = next_start code table j f (omega arith) in
    let s = ap (λ k. start table k) e in
    ⊎_elim
    (λ (h : i < j). let b = stop_before code table i j f h (omega arith) in let w = start_before_stop code table j f (omega arith) in omega (arith, b, w, n, s))
    (λ (h : j ≤ i). let g : i ≡ j = omega arith in let q = ap (λ k. stop table k) g in omega (arith, n, s, q))
    (cases_lt i j)
