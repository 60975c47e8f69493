-- Where an instruction leads, and what the parts of the test say together.
use Rattle.std.proofs.Common.{◌≡◌, ℕ, ◌+◌, ◌<◌, ◌≤◌, inl, inr, ⊎_elim, List, length, get_or, Option, Some, None, refl, sym, ap, subst, ◌∙◌, arith}
use Rattle.std.specs.Prelude.{slice_get, IsTrue, MatchOption}
use Rattle.std.proofs.lemmas.Bool.{cases_lt}
use Rattle.std.proofs.lemmas.Option.{slice_get-map, same_Some, none-some}
use Rattle.std.specs.Option.{option_map}
use Rattle.code_forms.specs.declared.instruction.Instruction.{Instruction}
use Rattle.code_forms.specs.declared.instruction.Instruction.TheVariants.{JumpBack, Leave}
use Rattle.code_forms.specs.declared.module_code.CodeEntry.{CodeEntry}
use Rattle.code_forms.specs.Depths.{forward_target, backward_target, outward_target, Reaches, Leads, Stays}
use Rattle.code_forms.specs.Jumps.{JumpsRightly}
use Rattle.code_forms.specs.Marks.{LeadsTo}
use Rattle.code_forms.specs.Ranges.{InOrder}
use Rattle.code_forms.specs.Rising.{RegionsRise, FromsFirst}
use Rattle.code_forms.specs.Routine.{Routine, Spot, Begins, spot_of, spots, goes_on}
use Rattle.code_forms.proofs.Ordered.{blank, at_less, at_of_begins, begins_once, spot_within, spots_length}
use Rattle.code_forms.proofs.Outward.{out_before}
use Rattle.code_forms.proofs.PhraseOrder.{same_default}

pub spot_there : (code : List CodeEntry) (i : ℕ) (e : CodeEntry) → slice_get code i ≡ Some e → slice_get (spots code) i ≡ Some (spot_of e)
spot_there code i e h = slice_get-map spot_of code i ∙ ap (option_map spot_of) h

pub begins_there : (code : List CodeEntry) (i : ℕ) (e : CodeEntry) → slice_get code i ≡ Some e → Begins (spots code) i e.at
begins_there code i e h = record { spot = spot_of e; is = spot_there code i e h; at = refl }

-- what begins at or before an instruction's offset has no greater number
pub not_later : (code : List CodeEntry) (i j o a : ℕ) → InOrder code → Begins (spots code) i a → Begins (spots code) j o → o ≤ a → j ≤ i
not_later code i j o a order bi bj l =
    ⊎_elim (λ (m : i < j). absurd (let x = at_less code i j blank order m (spot_within code j bj.spot bj.is) in
    let y = at_of_begins code i a blank bi in let z = at_of_begins code j o blank bj in omega (arith, x, y, z, l)))
    (λ (m : j ≤ i). m) (cases_lt i j)

backward_low : (r : Routine) (at : ℕ) (i : Instruction) (offset : ℕ) → backward_target i ≡ Some offset → JumpsRightly r at i → offset ≤ at
backward_low r at (JumpBack target) offset e g = subst (λ k. k ≤ at) (same_Some target offset e) g.before
backward_low r at _ offset e g = absurd (none-some offset e)

outward_low : (r : Routine) (at : ℕ) (i : Instruction) (offset : ℕ) → RegionsRise r.phrases → FromsFirst r.phrases → outward_target i ≡ Some offset → JumpsRightly r at i → offset ≤ at
outward_low r at (Leave arms target) offset rise froms e g =
    let l = out_before r.phrases arms at target rise froms g.some g.region in
    subst (λ k. k ≤ at) (same_Some target offset e) (omega (arith, l))
outward_low r at _ offset rise froms e g = absurd (none-some offset e)

pub back_low : (r : Routine) (code : List CodeEntry) (i : ℕ) (e : CodeEntry) → InOrder code → slice_get code i ≡ Some e → JumpsRightly r e.at e.instruction
    → (j : ℕ) → Reaches (spots code) (backward_target e.instruction) j → j ≤ i
back_low r code i e order is jump j f = not_later code i j f.offset e.at order (begins_there code i e is) f.begins (backward_low r e.at e.instruction f.offset f.is jump)

pub out_low : (r : Routine) (code : List CodeEntry) (i : ℕ) (e : CodeEntry) → InOrder code → RegionsRise r.phrases → FromsFirst r.phrases → slice_get code i ≡ Some e → JumpsRightly r e.at e.instruction
    → (j : ℕ) → Reaches (spots code) (outward_target e.instruction) j → j ≤ i
out_low r code i e order rise froms is jump j f = not_later code i j f.offset e.at order (begins_there code i e is) f.begins (outward_low r e.at e.instruction f.offset rise froms f.is jump)

-- a jump to one target leads to one instruction
pub reached_once : (code : List CodeEntry) (target : Option ℕ) (j k : ℕ) → InOrder code → Reaches (spots code) target j → Reaches (spots code) target k → j ≡ k
reached_once code target j k order f g =
    let e : f.offset ≡ g.offset = same_Some f.offset g.offset (sym f.is ∙ g.is) in
    begins_once code j k g.offset blank order (subst (λ o. Begins (spots code) j o) e f.begins) g.begins

pub next_led : (r : Routine) (code : List CodeEntry) (i : ℕ) (e : CodeEntry) (next : Option ℕ) → r.code ≡ spots code → slice_get code i ≡ Some e
    → MatchOption next (IsTrue (goes_on r e.instruction) → length code ≤ i + 1) (λ j. (j ≡ i + 1) × (j < length code) × IsTrue (goes_on r e.instruction))
    → (j : ℕ) → next ≡ Some j → Leads r i j × (j < length r.code)
next_led r code i e None rc is m j h = absurd (none-some j h)
next_led r code i e (Some k) rc is m j h =
    let s : k ≡ j = same_Some k j h in
    let jn : j ≡ i + 1 = sym s ∙ m.0 in
    let len = ap length rc ∙ spots_length code in
    (record { spot = spot_of e; is = ap (λ (c : List Spot). slice_get c i) rc ∙ spot_there code i e is; later = omega (arith, jn); way = inl (jn, m.2) }, (let l = m.1 in omega (arith, s, l, len)))

pub target_led : (r : Routine) (code : List CodeEntry) (i : ℕ) (e : CodeEntry) (target : Option ℕ) → r.code ≡ spots code → slice_get code i ≡ Some e
    → MatchOption target ((j : ℕ) → i < j → Reaches (spots code) (forward_target e.instruction) j → ⊥) (λ j. (i < j) × Reaches (spots code) (forward_target e.instruction) j)
    → (j : ℕ) → target ≡ Some j → Leads r i j × (j < length r.code)
target_led r code i e None rc is m j h = absurd (none-some j h)
target_led r code i e (Some k) rc is m j h =
    let s : k ≡ j = same_Some k j h in
    let f : Reaches (spots code) (forward_target e.instruction) j = subst (λ n. Reaches (spots code) (forward_target e.instruction) n) s m.1 in
    let lj = spot_within code j f.begins.spot f.begins.is in
    let len = ap length rc ∙ spots_length code in
    (record { spot = spot_of e; is = ap (λ (c : List Spot). slice_get c i) rc ∙ spot_there code i e is; later = (let l = m.0 in omega (arith, s, l)); way = inr (subst (λ (c : List Spot). Reaches c (forward_target e.instruction) j) (sym rc) f) }, omega (arith, lj, len))

all_next : (r : Routine) (code : List CodeEntry) (i : ℕ) (e : CodeEntry) (next : Option ℕ) → Stays r i (spot_of e) → r.code ≡ spots code
    → MatchOption next (IsTrue (goes_on r e.instruction) → length code ≤ i + 1) (λ j. (j ≡ i + 1) × (j < length code) × IsTrue (goes_on r e.instruction))
    → (j : ℕ) → j ≡ i + 1 → IsTrue (goes_on r e.instruction) → next ≡ Some j
all_next r code i e None stays rc m j h g = absurd (let l = m g in let s = (stays g).0 in let len = ap length rc ∙ spots_length code in omega (arith, l, s, len))
all_next r code i e (Some k) stays rc m j h g = ap Some (m.0 ∙ sym h)

all_target : (r : Routine) (code : List CodeEntry) (i : ℕ) (e : CodeEntry) (target : Option ℕ) → InOrder code
    → MatchOption target ((j : ℕ) → i < j → Reaches (spots code) (forward_target e.instruction) j → ⊥) (λ j. (i < j) × Reaches (spots code) (forward_target e.instruction) j)
    → (j : ℕ) → i < j → Reaches (spots code) (forward_target e.instruction) j → target ≡ Some j
all_target r code i e None order m j l f = absurd (m j l f)
all_target r code i e (Some k) order m j l f = ap Some (reached_once code (forward_target e.instruction) k j order m.1 f)

-- the two are all to which it leads
pub leads_to : (r : Routine) (code : List CodeEntry) (i : ℕ) (e : CodeEntry) (next target : Option ℕ) → InOrder code → r.code ≡ spots code → slice_get code i ≡ Some e → Stays r i (spot_of e)
    → MatchOption next (IsTrue (goes_on r e.instruction) → length code ≤ i + 1) (λ j. (j ≡ i + 1) × (j < length code) × IsTrue (goes_on r e.instruction))
    → MatchOption target ((j : ℕ) → i < j → Reaches (spots code) (forward_target e.instruction) j → ⊥) (λ j. (i < j) × Reaches (spots code) (forward_target e.instruction) j)
    → LeadsTo r i next target
leads_to r code i e next target order rc is stays mn mt = record {
  next_led = next_led r code i e next rc is mn;
  target_led = target_led r code i e target rc is mt;
  all = λ j f. (
      let s : f.spot ≡ spot_of e = same_Some f.spot (spot_of e) (sym f.is ∙ (ap (λ (c : List Spot). slice_get c i) rc ∙ spot_there code i e is)) in
      let later = f.later in
      ⊎_elim
      (λ (y : (j ≡ i + 1) × IsTrue (goes_on r f.spot.instruction)). inl (all_next r code i e next stays rc mn j y.0 (subst (λ (x : Spot). IsTrue (goes_on r x.instruction)) s y.1)))
      (λ (y : Reaches r.code (forward_target f.spot.instruction) j).
      inr (all_target r code i e target order mt j later (subst (λ (c : List Spot). Reaches c (forward_target e.instruction) j) rc (subst (λ (x : Spot). Reaches r.code (forward_target x.instruction) j) s y))))
      f.way);
}

-- the depth beside the one instruction to which a jump leads
pub depth_there : (code : List CodeEntry) (target : Option ℕ) (j k depth : ℕ) (d e : CodeEntry) → InOrder code → Reaches (spots code) target k → depth ≡ (get_or code k e).depth
    → Reaches (spots code) target j → depth ≡ (get_or code j d).depth
depth_there code target j k depth d e order f h g =
    let same : k ≡ j = reached_once code target k j order f g in
    let l = spot_within code k f.begins.spot f.begins.is in
    h ∙ (ap (λ (x : CodeEntry). x.depth) (same_default code k e d l) ∙ ap (λ n. (get_or code n d).depth) same)
