-- The ending of an arm by its instructions, one after the other.
use Rattle.std.proofs.Common.{◌≡◌, ◌⊎◌, inl, inr, ⊎_elim, ℕ, ◌+◌, ◌<◌, ◌≤◌, List, length, get_or, Bool, true, false, Some, refl, sym, ap, subst, ◌∙◌, arith}
use Rattle.std.specs.Prelude.{nat_eq, slice_get, if◌then◌else◌}
use Rattle.std.specs.List.{AllWithin}
use Rattle.std.proofs.lemmas.Bool.{cases_lt, eqb-true, eqb-false, false≢true}
use Rattle.std.proofs.lemmas.Option.{same_Some, slice_get_within, slice_get-get_or, get_or_from_slice_get}
use Rattle.code_forms.specs.declared.instruction.Instruction.{Instruction}
use Rattle.code_forms.specs.declared.instruction.Instruction.TheVariants.{ArmEnd, Resume}
use Rattle.code_forms.specs.declared.module_code.Arm.{Arm}
use Rattle.code_forms.specs.declared.module_code.CodeEntry.{CodeEntry}
use Rattle.code_forms.specs.declared.module_code.CodeProcedure.{CodeProcedure}
use Rattle.code_forms.specs.declared.module_code.ModuleCode.{ModuleCode}
use Rattle.code_forms.specs.Ranges.{InOrder}
use Rattle.code_forms.specs.Routine.{Begins, spots}
use Rattle.code_forms.proofs.Leading.{begins_there}
use Rattle.code_forms.proofs.Ordered.{at_rise, begins_once}
use Rattle.machine_rules.specs.LookUps.{instruction_at}
use Rattle.machine_rules.proofs.Located.{starts}
use Rattle.machine_rules.proofs.OneResult.{found}
use Rattle.signaller.proofs.Sweeping.{same_default}
use Rattle.survey_rules.specs.Reached.{Reached, StandsIn}
use Rattle.survey_code.specs.declared.surveyed.Ending.{Ending}
use Rattle.survey_code.specs.declared.surveyed.Ending.TheVariants.{Stops, Resumes, Passes}
use Rattle.survey_code.specs.Endings.{TellReached, ending_with, resumed}
use Rattle.survey_code.specs.Sites.{EndsBy, IsEnding}

abbrev IsEnd : Instruction → Type 0
IsEnd ArmEnd = Unit {0}
IsEnd _ = ⊥

abbrev IsResume : Instruction → Type 0
IsResume (Resume words) = Unit {0}
IsResume _ = ⊥

abbrev words_in : Instruction → ℕ
words_in (Resume words) = words
words_in _ = 0

-- One instruction more is reached: what was is, it is, and whatever else is was.

module _ (P Q : Instruction → Type 0) (to : (i : Instruction) → P i → Q i) where
  two : ((words others : ℕ) × P (Resume words) × P (Resume others) × (words ≡ others → ⊥)) → (words others : ℕ) × Q (Resume words) × Q (Resume others) × (words ≡ others → ⊥)
  two t = (t.0, t.1, to (Resume t.0) t.2, to (Resume t.1) t.3, t.4)

  more : EndsBy P Passes → EndsBy Q Passes
  more h = ⊎_elim
      (λ (a : P ArmEnd). inl (to ArmEnd a))
      (λ (t : (words others : ℕ) × P (Resume words) × P (Resume others) × (words ≡ others → ⊥)). inr (two t))
      h

  same : (ending : Ending) → (Q ArmEnd → P ArmEnd) → ((words : ℕ) → Q (Resume words) → P (Resume words)) → EndsBy P ending → EndsBy Q ending
  same Stops end resume h = ((λ q. h.0 (end q)), (λ words q. h.1 words (resume words q)))
  same (Resumes words) end resume h = ((λ q. h.0 (end q)), to (Resume words) h.1, (λ others q. h.2 others (resume others q)))
  same Passes end resume h = more h

  no_end : (words : ℕ) → ((i : Instruction) → Q i → P i ⊎ (i ≡ Resume words)) → (P ArmEnd → ⊥) → Q ArmEnd → ⊥
  no_end words from none q = ⊎_elim (λ (a : P ArmEnd). none a) (λ (e : ArmEnd ≡ Resume words). subst IsEnd e tt) (from ArmEnd q)

  again : (others words : ℕ) → Q (Resume words) → ((i : Instruction) → Q i → P i ⊎ (i ≡ Resume words)) → EndsBy P (Resumes others) → (b : Bool) → nat_eq others words ≡ b
      → EndsBy Q (if b then Resumes others else Passes)
  again others words here from h true e = (
    no_end words from h.0,
    to (Resume others) h.1,
    λ k q. ⊎_elim (λ (p : P (Resume k)). h.2 k p) (λ (g : Resume k ≡ Resume words). ap words_in g ∙ sym (eqb-true others words e)) (from (Resume k) q),
  )
  again others words here from h false e = inr (others, words, to (Resume others) h.1, here, eqb-false others words e)

  with_resume : (ending : Ending) (words : ℕ) → Q (Resume words) → ((i : Instruction) → Q i → P i ⊎ (i ≡ Resume words)) → EndsBy P ending → EndsBy Q (resumed ending words)
  with_resume Stops words here from h = (
    no_end words from h.0,
    here,
    λ k q. ⊎_elim (λ (p : P (Resume k)). absurd (h.1 k p)) (λ (g : Resume k ≡ Resume words). ap words_in g) (from (Resume k) q),
  )
  with_resume (Resumes others) words here from h = again others words here from h (nat_eq others words) refl
  with_resume Passes words here from h = more h

  with_one : (ending : Ending) (x : Instruction) → Q x → ((i : Instruction) → Q i → P i ⊎ (i ≡ x)) → EndsBy P ending → EndsBy Q (ending_with ending x)
  with_one ending ArmEnd here from h = inl here
  with_one ending (Resume words) here from h = with_resume ending words here from h
  with_one ending _ here from h = same ending
      (λ q. ⊎_elim (λ (p : P ArmEnd). p) (λ (e : ArmEnd ≡ _). absurd (subst IsEnd e tt)) (from ArmEnd q))
      (λ words q. ⊎_elim (λ (p : P (Resume words)). p) (λ (e : Resume words ≡ _). absurd (subst IsResume e tt)) (from (Resume words) q))
      h

-- the instruction of an entry is the one at its offset
pub instruction_there : (code : List CodeEntry) → InOrder code → (k : ℕ) (e : CodeEntry) → slice_get code k ≡ Some e → instruction_at code e.at ≡ Some e.instruction
instruction_there code order k e is =
    let s = starts code k e.at e is refl in
    let f = found code e.at s.instruction s.is in
    let there : Begins (spots code) f.number e.at = subst (λ o. Begins (spots code) f.number o) f.begins (begins_there code f.number f.entry f.is) in
    let same_number : f.number ≡ k = begins_once code f.number k e.at e order there (begins_there code k e is) in
    let one : f.entry ≡ e = same_Some f.entry e (sym f.is ∙ ap (λ n. slice_get code n) same_number ∙ is) in
    s.is ∙ ap Some (sym f.instruction ∙ ap (λ (x : CodeEntry). x.instruction) one)

-- one of the first so many entries, that is reached and in the arm
pub record Among (m : ModuleCode) (p : CodeProcedure) (arm : Arm) (count : ℕ) (i : Instruction) : Type 0 where
  number : ℕ
  entry : CodeEntry
  below : number < count
  is : slice_get p.code number ≡ Some entry
  reached : Reached m p entry.at
  instruction : entry.instruction ≡ i
  behind : arm.start ≤ entry.at
  before : entry.at < arm.end

module _ (m : ModuleCode) (p : CodeProcedure) (arm : Arm) where
  among_more : (count : ℕ) (i : Instruction) → Among m p arm count i → Among m p arm (count + 1) i
  among_more count i a = record {
    number = a.number;
    entry = a.entry;
    below = let l = a.below in omega (arith, l);
    is = a.is;
    reached = a.reached;
    instruction = a.instruction;
    behind = a.behind;
    before = a.before;
  }

  among_fewer : (count : ℕ) (i : Instruction) (e : CodeEntry) → slice_get p.code count ≡ Some e → Among m p arm (count + 1) i
      → Among m p arm count i ⊎ ((i ≡ e.instruction) × Reached m p e.at)
  among_fewer count i e is a = ⊎_elim
      (λ (l : a.number < count). inl (record {
        number = a.number;
        entry = a.entry;
        below = l;
        is = a.is;
        reached = a.reached;
        instruction = a.instruction;
        behind = a.behind;
        before = a.before;
      }))
      (λ (l : count ≤ a.number).
      let b = a.below in
      let at : a.number ≡ count = omega (arith, b, l) in
      let one : a.entry ≡ e = same_Some a.entry e (sym a.is ∙ ap (λ n. slice_get p.code n) at ∙ is) in
      inr (sym a.instruction ∙ ap (λ (x : CodeEntry). x.instruction) one, subst (λ (x : CodeEntry). Reached m p x.at) one a.reached))
      (cases_lt a.number count)

  -- none yet
  pub begun : (first : ℕ) → AllWithin (λ (e : CodeEntry). e.at < arm.start) p.code 0 first → EndsBy (Among m p arm first) Stops
  begun first before = ((λ a. none ArmEnd a), (λ words a. none (Resume words) a))
    where
      none : (i : Instruction) → Among m p arm first i → ⊥
      none i a =
          let low = before a.number a.entry (omega arith) a.below in
          let same_entry = ap (λ (x : CodeEntry). x.at) (get_or_from_slice_get p.code a.number a.entry a.entry a.is) in
          let high = a.behind in
          omega (arith, low, same_entry, high)

  -- one entry more
  pub turned : (marks : List Bool) → TellReached m p marks → (count : ℕ) (e : CodeEntry) → slice_get p.code count ≡ Some e → arm.start ≤ e.at → e.at < arm.end
      → (b : Bool) → get_or marks count false ≡ b → (ending : Ending) → EndsBy (Among m p arm count) ending
      → EndsBy (Among m p arm (count + 1)) (if b then ending_with ending e.instruction else ending)
  turned marks tell count e is low high true marked ending h =
      let here : Among m p arm (count + 1) e.instruction = record {
        number = count;
        entry = e;
        below = omega arith;
        is = is;
        reached = tell.reached count e is marked;
        instruction = refl;
        behind = low;
        before = high;
      } in
      with_one (Among m p arm count) (Among m p arm (count + 1)) (among_more count) ending e.instruction here
      (λ i a. ⊎_elim (λ (x : Among m p arm count i). inl x) (λ (x : (i ≡ e.instruction) × Reached m p e.at). inr x.0) (among_fewer count i e is a)) h
  turned marks tell count e is low high false marked ending h =
      let old : (i : Instruction) → Among m p arm (count + 1) i → Among m p arm count i = λ i a. ⊎_elim
      (λ (x : Among m p arm count i). x)
      (λ (x : (i ≡ e.instruction) × Reached m p e.at). absurd (false≢true (sym marked ∙ tell.all count e is x.1)))
      (among_fewer count i e is a) in
      same (Among m p arm count) (Among m p arm (count + 1)) (among_more count) ending (old ArmEnd) (λ words. old (Resume words)) h

  -- all of the arm
  pub ended : InOrder p.code → (count : ℕ) → ((k : ℕ) (e : CodeEntry) → count ≤ k → slice_get p.code k ≡ Some e → arm.end ≤ e.at) → (ending : Ending)
      → EndsBy (Among m p arm count) ending → IsEnding m p arm ending
  ended order count rest ending h = same (Among m p arm count) (StandsIn m p arm) outward ending (inward ArmEnd) (λ words. inward (Resume words)) h
    where
      outward : (i : Instruction) → Among m p arm count i → StandsIn m p arm i
      outward i a = record {
        at = a.entry.at;
        stands = record { reached = a.reached; is = instruction_there p.code order a.number a.entry a.is ∙ ap Some a.instruction };
        behind = a.behind;
        before = a.before;
      }

      inward : (i : Instruction) → StandsIn m p arm i → Among m p arm count i
      inward i s =
          let f = found p.code s.at i s.stands.is in
          let begins = f.begins in
          let low = s.behind in
          let high = s.before in
          record {
            number = f.number;
            entry = f.entry;
            below = ⊎_elim (λ (l : f.number < count). l) (λ (l : count ≤ f.number). absurd (let r = rest f.number f.entry l f.is in omega (arith, r, begins, high))) (cases_lt f.number count);
            is = f.is;
            reached = subst (λ o. Reached m p o) (sym begins) s.stands.reached;
            instruction = f.instruction;
            behind = omega (arith, begins, low);
            before = omega (arith, begins, high);
          }

-- where one entry begins behind the arm, so do all after it
pub rest_behind : (code : List CodeEntry) → InOrder code → (count end : ℕ) (d : CodeEntry) → count < length code → end ≤ (get_or code count d).at
    → (k : ℕ) (e : CodeEntry) → count ≤ k → slice_get code k ≡ Some e → end ≤ e.at
rest_behind code order count end d l past k e below is =
    let rise = at_rise code order count k d below (slice_get_within code k e is) in
    let same_entry = ap (λ (x : CodeEntry). x.at) (get_or_from_slice_get code k e d is) in
    omega (arith, rise, same_entry, past)

pub none_behind : (code : List CodeEntry) (count end : ℕ) → length code ≤ count → (k : ℕ) (e : CodeEntry) → count ≤ k → slice_get code k ≡ Some e → end ≤ e.at
none_behind code count end l k e below is = absurd (let w = slice_get_within code k e is in omega (arith, l, below, w))

-- The loop over the code of a procedure.

module _ (m : ModuleCode) (p : CodeProcedure) (arm : Arm) (code : List CodeEntry) (same_code : code ≡ p.code) where
  pub starts_so : (first : ℕ) → AllWithin (λ (e : CodeEntry). e.at < arm.start) code 0 first → EndsBy (Among m p arm first) Stops
  starts_so first before = begun m p arm first (subst (λ (xs : List CodeEntry). AllWithin (λ (e : CodeEntry). e.at < arm.start) xs 0 first) same_code before)

  pub goes_on_so : (marks : List Bool) → TellReached m p marks → (first at : ℕ) → AllWithin (λ (e : CodeEntry). arm.start ≤ e.at) code first (length code) → first ≤ at → at < length code
      → (d : CodeEntry) (other : Bool) → (get_or code at d).at < arm.end → (ending after : Ending)
      → after ≡ (if get_or marks at other then ending_with ending (get_or code at d).instruction else ending)
      → EndsBy (Among m p arm at) ending → EndsBy (Among m p arm (at + 1)) after
  goes_on_so marks tell first at low later within d other high ending after is h =
      let e = get_or code at d in
      let there : slice_get p.code at ≡ Some e = subst (λ (xs : List CodeEntry). slice_get xs at ≡ Some e) same_code (slice_get-get_or code at d within) in
      let count = tell.count in
      let long = ap length same_code in
      let mark : get_or marks at other ≡ get_or marks at false = same_default marks at other false (omega (arith, within, count, long)) in
      subst (λ x. EndsBy (Among m p arm (at + 1)) x) (sym (is ∙ ap (λ b. if b then ending_with ending e.instruction else ending) mark))
      (turned m p arm marks tell at e there (low at d later within) high (get_or marks at false) refl ending h)

  pub stops_so : InOrder p.code → (at : ℕ) → at < length code → (d : CodeEntry) → arm.end ≤ (get_or code at d).at → (ending : Ending) → EndsBy (Among m p arm at) ending
      → IsEnding m p arm ending
  stops_so order at within d past ending h = ended m p arm order at
      (rest_behind p.code order at arm.end d (let l = ap length same_code in omega (arith, within, l))
      (subst (λ (xs : List CodeEntry). arm.end ≤ (get_or xs at d).at) same_code past)) ending h

  pub ends_so : InOrder p.code → (at : ℕ) → length code ≤ at → (ending : Ending) → EndsBy (Among m p arm at) ending → IsEnding m p arm ending
  ends_so order at all ending h = ended m p arm order at (none_behind p.code at arm.end (let l = ap length same_code in omega (arith, all, l))) ending h
