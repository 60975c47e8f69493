-- Phrases in whose range an offset is reached: all of those that a search from a reached offset asks.
use Rattle.std.proofs.Common.{◌≡◌, ⊎_elim, ℕ, zero, suc, ◌<◌, ◌≤◌, List, [], ◌∷◌, ◌++◌, length, get_or, take, Bool, true, false, Option, Some, None, refl, sym, ap, subst, ◌∙◌, arith}
use Rattle.std.specs.Prelude.{slice_get, if◌then◌else◌, ◌&&◌}
use Rattle.std.specs.List.{list_any}
use Rattle.std.proofs.lemmas.Bool.{and_parts}
use Rattle.std.proofs.lemmas.List.{get_or-take, length-take-le}
use Rattle.std.proofs.lemmas.Option.{none-some, same_Some, slice_get_within, get_or_from_slice_get}
use Rattle.code_forms.specs.declared.module_code.CodeProcedure.{CodeProcedure}
use Rattle.code_forms.specs.declared.module_code.ModuleCode.{ModuleCode}
use Rattle.code_forms.specs.declared.module_code.Phrase.{Phrase}
use Rattle.code_forms.specs.declared.region.Region.{Region}
use Rattle.code_forms.specs.declared.region.Region.TheVariants.{Body, ArmOf}
use Rattle.code_forms.specs.Phrases.{Nests, PhrasesFill}
use Rattle.code_forms.specs.Regions.{region_at}
use Rattle.code_forms.specs.Routine.{routine, spots}
use Rattle.object_files.specs.declared.image.Image.{Image}
use Rattle.signaller.specs.Search.{covers, has, first_of, from_of, around_at, around, beyond, asked, search_from, search_at}
use Rattle.signaller.specs.declared.search.Search.{Search}
use Rattle.signaller.proofs.Inside.{covers_is, ArmAt, arm_at}
use Rattle.signaller.proofs.Surrounding.{stays_inside, read_phrase}
use Rattle.signaller.proofs.Sweeping.{covers_it}
use Rattle.machine_rules.specs.LookUps.{procedure_of}
use Rattle.machine_rules.proofs.Going.{frame_fits}
use Rattle.machine_rules.proofs.Holding.{ArmAtPlace, region_of, has_from, arm_filled}
use Rattle.machine_rules.proofs.Located.{World, stands_at, next as next_stands}
use Rattle.survey_rules.specs.Escapes.{IsCode}
use Rattle.survey_rules.specs.Reached.{Reached, first, onward, jumped, in_arm}
use Rattle.survey_rules.proofs.Codes.{has_code}
use Rattle.survey_rules.proofs.Outer.{Outer, itself, beyond as further, more_outer, leads_outer, not_outer}

-- the phrase of a number has a reached offset in its range
pub record Alive (m : ModuleCode) (p : CodeProcedure) (n : ℕ) : Type 0 where
  pub phrase : Phrase
  pub is : slice_get p.phrases n ≡ Some phrase
  pub at : ℕ
  pub reached : Reached m p at
  pub covered : covers phrase at ≡ true

-- The phrase of an arm in whose region an offset is reached, and each that is around it.

abbrev phrase_number : Region → ℕ
phrase_number Body = 0
phrase_number (ArmOf n k) = n

-- the beginning of a procedure is its body's
body_first : (image : Image) → World image → (j n : ℕ) (p : CodeProcedure) → procedure_of image j n ≡ Some p → region_at p.phrases 0 ≡ Body
body_first image w j n p e =
    let f = frame_fits image w j n p e [] tt in
    let same : (f.at).p ≡ p = same_Some (f.at).p p (sym (f.at).is ∙ e) in
    subst (λ (x : CodeProcedure). region_at x.phrases 0 ≡ Body) same (f.at).role

arm_holds : (m : ModuleCode) (p : CodeProcedure) (at n k : ℕ) (phrase : Phrase) → slice_get p.phrases n ≡ Some phrase → Reached m p at → covers phrase at ≡ true
    → region_at p.phrases phrase.from ≡ region_at p.phrases at
    → ((s : Region) → Outer p.phrases (region_at p.phrases at) s → (q a : ℕ) → s ≡ ArmOf q a → Alive m p q)
    → (r s : Region) → Outer p.phrases r s → r ≡ ArmOf n k → (q a : ℕ) → s ≡ ArmOf q a → Alive m p q
arm_holds m p at n k phrase is reached covered same next _ _ (itself r) e q a g =
    subst (λ x. Alive m p x) (ap phrase_number (sym e ∙ g)) (record { phrase = phrase; is = is; at = at; reached = reached; covered = covered })
arm_holds m p at n k phrase is reached covered same next _ s (further n' k' ph _ is' rest) e q a g =
    let number : n' ≡ n = ap phrase_number e in
    let ph_is : ph ≡ phrase = same_Some ph phrase (sym is' ∙ ap (λ x. slice_get p.phrases x) number ∙ is) in
    next s (subst (λ x. Outer p.phrases x s) (ap (λ (x : Phrase). region_at p.phrases x.from) ph_is ∙ same) rest) q a g

pub holds : (image : Image) → (w : World image) → (j n : ℕ) (m : ModuleCode) (p : CodeProcedure) → (c : IsCode image j n m p) → (at : ℕ) → Reached m p at
    → (s : Region) → Outer p.phrases (region_at p.phrases at) s → (q a : ℕ) → s ≡ ArmOf q a → Alive m p q
holds image w j n m p c _ first s o q a e = absurd (not_outer p.phrases (region_at p.phrases 0) s q a o (body_first image w j n p c.is_procedure) e)
holds image w j n m p c _ (onward at i before is goes) s o q a e =
    let h = has_code image w j n m p c in
    let r = (next_stands image j p h at i (stands_at image j p h at i is) goes).region in
    holds image w j n m p c at before s (subst (λ x. Outer p.phrases x s) r o) q a e
holds image w j n m p c _ (jumped at target i before is leads) s o q a e =
    let h = has_code image w j n m p c in
    let out = leads_outer (routine m p) at target i (stands_at image j p h at i is).stood.jump leads in
    holds image w j n m p c at before s (more_outer p.phrases (region_at p.phrases at) (region_at p.phrases target) s out o) q a e
holds image w j n m p c _ (in_arm at number k i phrase arm before there is covered arm_is) s o q a e =
    let h = has_code image w j n m p c in
    let place : ArmAtPlace p.phrases (record { phrase = number; arm = k }) arm = record { phrase = phrase; is = is; there = arm_is } in
    let filled = arm_filled (spots p.code) p.phrases h.valid.phrases (record { phrase = number; arm = k }) arm place in
    let region = region_of (spots p.code) p.phrases arm.start h.valid.phrases (record { phrase = number; arm = k }) arm place (has_from arm arm.start (omega arith) filled.1) in
    let same = stays_inside (spots p.code) p.phrases h.valid.phrases number phrase at is covered in
    arm_holds m p at number k phrase is before covered same (holds image w j n m p c at before) (region_at p.phrases arm.start) s o region q a e

-- What is asked.

-- a reached offset is in the region of this one, and in the range of each of the first so many phrases that is enabled here
record Backs (m : ModuleCode) (p : CodeProcedure) (count o : ℕ) : Type 0 where
  at : ℕ
  reached : Reached m p at
  region : region_at p.phrases at ≡ region_at p.phrases o
  covered : (n : ℕ) (q : Phrase) → n < count → slice_get p.phrases n ≡ Some q → covers q o ≡ true → covers q at ≡ true

-- an earlier phrase that is enabled where another begins has its whole range
covers_inner : (p : CodeProcedure) → PhrasesFill (spots p.code) p.phrases → (n k at : ℕ) (ph q : Phrase) → slice_get p.phrases n ≡ Some ph → k < n
    → slice_get p.phrases k ≡ Some q → covers q ph.from ≡ true → covers ph at ≡ true → covers q at ≡ true
covers_inner p f n k at ph q is l there c covered =
    let within = slice_get_within p.phrases n ph is in
    let long : length (take n p.phrases) ≡ n = length-take-le n p.phrases (omega (arith, within)) in
    let same : get_or (take n p.phrases) k q ≡ q = get_or-take n p.phrases k q (omega (arith, l)) ∙ get_or_from_slice_get p.phrases k q q there in
    let nests : Nests ph q = subst (λ x. Nests ph x) same ((f.right n ph within is).nests k q (omega (arith, l, long))) in
    let outer = covers_is q ph.from c in
    let inner = covers_is ph at covered in
    let low = outer.0 in let high = outer.1 in let begun = inner.0 in let ended = inner.1 in
    ⊎_elim
    (λ (h : q.to ≤ ph.from). absurd (omega (arith, h, high)))
    (λ (h : ph.to ≤ q.to). covers_it q at (omega (arith, low, begun)) (omega (arith, h, ended)))
    nests

backs_phrase : (p : CodeProcedure) → PhrasesFill (spots p.code) p.phrases → (m : ModuleCode) (n : ℕ) → (a : Alive m p n) → Backs m p n a.phrase.from
backs_phrase p f m n a = record {
  at = a.at;
  reached = a.reached;
  region = sym (stays_inside (spots p.code) p.phrases f n a.phrase a.at a.is a.covered);
  covered = λ k q l there c. covers_inner p f n k a.at a.phrase q a.is l there c a.covered;
}

backs_fewer : (m : ModuleCode) (p : CodeProcedure) (n o : ℕ) → Backs m p (suc n) o → Backs m p n o
backs_fewer m p n o b = record { at = b.at; reached = b.reached; region = b.region; covered = λ k q l there c. b.covered k q (omega (arith, l)) there c }

-- all of these phrases
abbrev pub AllAlive : ModuleCode → CodeProcedure → List ℕ → Type 0
AllAlive m p [] = Unit {0}
AllAlive m p (n ∷ numbers) = Alive m p n × AllAlive m p numbers

module _ (image : Image) (w : World image) (j n : ℕ) (m : ModuleCode) (p : CodeProcedure) (c : IsCode image j n m p) where
  fill : PhrasesFill (spots p.code) p.phrases
  fill = (has_code image w j n m p c).valid.phrases

  around_if : (outward : Bool) (k o : ℕ) → ((x : ℕ) → Backs m p k x → AllAlive m p (around outward p.phrases k x)) → Backs m p (suc k) o
      → (ph : Phrase) → slice_get p.phrases k ≡ Some ph → (b : Bool) → covers ph o ≡ b → (d : Bool) → (outward && list_any (λ a. has a o) ph.arms) ≡ d
      → AllAlive m p (if b then k ∷ around outward p.phrases k ph.from else around outward p.phrases k (if d then ph.from else o))
  around_if outward k o ih b ph is true e d g =
      let alive : Alive m p k = record { phrase = ph; is = is; at = b.at; reached = b.reached; covered = b.covered k ph (omega arith) is e } in
      (alive, ih ph.from (backs_phrase p fill m k alive))
  around_if outward k o ih b ph is false e true g =
      let any = (and_parts outward (list_any (λ a. has a o) ph.arms) g).1 in
      let inside : ArmAt p.phrases o k = arm_at (spots p.code) p.phrases k o fill (slice_get_within p.phrases k ph is)
      (subst (λ (x : Phrase). list_any (λ a. has a o) x.arms ≡ true) (sym (read_phrase p.phrases k ph is)) any) in
      let alive = holds image w j n m p c b.at b.reached (region_at p.phrases b.at) (itself (region_at p.phrases b.at)) k inside.k (b.region ∙ inside.is) in
      let same : alive.phrase ≡ ph = same_Some alive.phrase ph (sym alive.is ∙ is) in
      ih ph.from (subst (λ (x : Phrase). Backs m p k x.from) same (backs_phrase p fill m k alive))
  around_if outward k o ih b ph is false e false g = ih o (backs_fewer m p k o b)

  around_of : (outward : Bool) (k o : ℕ) → ((x : ℕ) → Backs m p k x → AllAlive m p (around outward p.phrases k x)) → Backs m p (suc k) o
      → (ph : Option Phrase) → slice_get p.phrases k ≡ ph → AllAlive m p (around_at outward k o (around outward p.phrases k) ph)
  unfolding around_at
  around_of outward k o ih b None is = ih o (backs_fewer m p k o b)
  around_of outward k o ih b (Some ph) is = around_if outward k o ih b ph is (covers ph o) refl (outward && list_any (λ a. has a o) ph.arms) refl

  around_alive : (outward : Bool) (k o : ℕ) → Backs m p k o → AllAlive m p (around outward p.phrases k o)
  unfolding around
  around_alive outward zero o b = tt
  around_alive outward (suc k) o b = around_of outward k o (λ x y. around_alive outward k x y) b (slice_get p.phrases k) refl

  first_alive : (numbers : List ℕ) → AllAlive m p numbers → (k : ℕ) → first_of numbers ≡ Some k → Alive m p k
  first_alive [] all k e = absurd (none-some k e)
  first_alive (x ∷ numbers) all k e = subst (λ y. Alive m p y) (same_Some x k e) all.0

  pub beyond_alive : (outward : Bool) (k : ℕ) → Alive m p k → AllAlive m p (beyond outward p.phrases k)
  beyond_alive outward k a =
      subst (λ o. AllAlive m p (around outward p.phrases k (from_of o))) (sym a.is) (around_alive outward k a.phrase.from (backs_phrase p fill m k a))

  -- of a reached offset
  pub search_alive : (outward : Bool) (at : ℕ) → Reached m p at → (k : ℕ) → (search_at outward p.phrases at).phrase ≡ Some k → Alive m p k
  search_alive outward at reached k e =
      first_alive (around outward p.phrases (length p.phrases) at)
      (around_alive outward (length p.phrases) at (record { at = at; reached = reached; region = refl; covered = λ n q l there c. c })) k e

  -- and beyond one of them
  pub next_alive : (outward : Bool) (q : ℕ) → Alive m p q → (k : ℕ) → (search_from (beyond outward p.phrases q)).phrase ≡ Some k → Alive m p k
  next_alive outward q a k e = first_alive (beyond outward p.phrases q) (beyond_alive outward q a) k e

  part_alive : (before : List ℕ) (q : ℕ) (after : List ℕ) → AllAlive m p (before ++ q ∷ after) → Alive m p q
  part_alive [] q after all = all.0
  part_alive (x ∷ before) q after all = part_alive before q after all.1

  asked_alive : (outward : Bool) (o : Option ℕ) → ((k : ℕ) → o ≡ Some k → Alive m p k) → AllAlive m p (asked outward p.phrases o)
  asked_alive outward None h = tt
  asked_alive outward (Some k) h = (h k refl, beyond_alive outward k (h k refl))

  -- each that a search asks
  pub found_alive : (outward : Bool) (search : Search) → ((k : ℕ) → search.phrase ≡ Some k → Alive m p k)
      → (before : List ℕ) (q : ℕ) (after : List ℕ) → asked outward p.phrases search.phrase ≡ before ++ q ∷ after → Alive m p q
  found_alive outward search h before q after e = part_alive before q after (subst (λ numbers. AllAlive m p numbers) e (asked_alive outward search.phrase h))
