-- The depth before each instruction, computed; jumps and the rules on the operand stack, decided.
use Rattle.std.proofs.Common.{◌≡◌, ℕ, zero, suc, ◌+◌, ◌<◌, ◌≤◌, ◌⊎◌, ⊎_elim, List, length, Option, Some, None, IsTrue, refl, sym, ap, subst, ◌∙◌, arith}
use Rattle.std.specs.Prelude.{slice_get}
use Rattle.std.proofs.lemmas.Option.{same_Some, none-some, slice_get_within}
use Rattle.code_forms.specs.declared.instruction.Instruction.{Instruction}
use Rattle.code_forms.specs.declared.instruction.Instruction.TheVariants.{Jump, JumpIf, JumpIfNot, JumpBack, Leave, LeaveReturn}
use Rattle.code_forms.specs.declared.region.Region.TheVariants.{Body}
use Rattle.code_forms.specs.Depths.{depth_after, forward_target, backward_target, outward_target, is_return, Reaches, Leads, Settled, at_none, at_first, DepthFits, AgreesOnward, AgreesAt, Stays, StackIsRight}
use Rattle.code_forms.specs.Instructions.{bytes_of}
use Rattle.code_forms.specs.Jumps.{GoesForward, GoesBack, GoesOut, ReturnsOut, JumpsRightly}
use Rattle.code_forms.specs.Regions.{region_at, outward}
use Rattle.code_forms.specs.Routine.{Routine, Spot, Begins, IsStart, moves, goes_on}
use Rattle.code_forms.proofs.Depths.{settled_once}
use Rattle.code_examples.proofs.Decisions.{dec_by, dec_and, dec_or, dec_if, dec_true, dec_le, dec_lt, dec_eq, dec_upto, not_or_holds, Search, all, first, searched}
use Rattle.code_examples.proofs.Phrases.{dec_start, dec_region, dec_some_region}

-- an instruction of a number begins at an offset
pub begins_none : (code : List Spot) (j o : ℕ) → slice_get code j ≡ None → Begins code j o → ⊥
begins_none code j o e b = none-some b.spot (sym e ∙ b.is)

pub begins_with : (code : List Spot) (j o : ℕ) (s : Spot) → slice_get code j ≡ Some s → s.at ≡ o → Begins code j o
begins_with code j o s e h = record { spot = s; is = e; at = h }

pub begins_where : (code : List Spot) (j o : ℕ) (s : Spot) → slice_get code j ≡ Some s → Begins code j o → s.at ≡ o
begins_where code j o s e b = ap (λ (x : Spot). x.at) (same_Some s b.spot (sym e ∙ b.is)) ∙ b.at

abbrev begins_by : (code : List Spot) (j o : ℕ) (x : Option Spot) → slice_get code j ≡ x → Dec (Begins code j o)
begins_by code j o None e = no (begins_none code j o e)
begins_by code j o (Some s) e = dec_by (begins_with code j o s e) (begins_where code j o s e) (dec_eq s.at o)

pub reaches_none : (code : List Spot) (j : ℕ) → Reaches code None j → ⊥
reaches_none code j r = none-some r.offset r.is

pub reaches_with : (code : List Spot) (o j : ℕ) → Begins code j o → Reaches code (Some o) j
reaches_with code o j b = record { offset = o; is = refl; begins = b }

pub reaches_where : (code : List Spot) (o j : ℕ) → Reaches code (Some o) j → Begins code j o
reaches_where code o j r = subst (λ t. Begins code j t) (sym (same_Some o r.offset r.is)) r.begins

abbrev dec_reaches : (code : List Spot) (target : Option ℕ) (j : ℕ) → Dec (Reaches code target j)
dec_reaches code None j = no (reaches_none code j)
dec_reaches code (Some o) j = dec_by (reaches_with code o j) (reaches_where code o j) (begins_by code j o (slice_get code j) refl)

-- an instruction leads to a later one
abbrev Way : Routine → ℕ → ℕ → Spot → Type 0
Way r i j s = ((j ≡ i + 1) × IsTrue (goes_on r s.instruction)) ⊎ Reaches r.code (forward_target s.instruction) j

pub leads_none : (r : Routine) (i j : ℕ) → slice_get r.code i ≡ None → Leads r i j → ⊥
leads_none r i j e l = none-some l.spot (sym e ∙ l.is)

abbrev pub leads_with : (r : Routine) (i j : ℕ) (s : Spot) → slice_get r.code i ≡ Some s → (i < j) × Way r i j s → Leads r i j
leads_with r i j s e h = record { spot = s; is = e; later = h.0; way = h.1 }

pub leads_where : (r : Routine) (i j : ℕ) (s : Spot) → slice_get r.code i ≡ Some s → Leads r i j → (i < j) × Way r i j s
leads_where r i j s e l = (l.later, subst (λ x. Way r i j x) (sym (same_Some s l.spot (sym e ∙ l.is))) l.way)

abbrev leads_by : (r : Routine) (i j : ℕ) (x : Option Spot) → slice_get r.code i ≡ x → Dec (Leads r i j)
leads_by r i j None e = no (leads_none r i j e)
leads_by r i j (Some s) e = dec_by (leads_with r i j s e) (leads_where r i j s e) (dec_and (dec_lt i j)
    (dec_or (dec_and (dec_eq j (i + 1)) (dec_true (goes_on r s.instruction))) (dec_reaches r.code (forward_target s.instruction) j)))

abbrev dec_leads : (r : Routine) (i j : ℕ) → Dec (Leads r i j)
dec_leads r i j = leads_by r i j (slice_get r.code i) refl

-- the depth before an instruction
pub record Depth (r : Routine) (i : ℕ) : Type 0 where
  pub depth : ℕ
  pub settled : Settled r i depth

pub none_leads : (r : Routine) (i : ℕ) → ((j : ℕ) → j < i → Leads r j i → ⊥) → Settled r i 0
none_leads r i f = at_none i (λ j l. f j l.later l)

pub first_leads : (r : Routine) (i j : ℕ) → ((k : ℕ) → k < j → Leads r k i → ⊥) → (l : Leads r j i) → (d : Depth r j)
    → Settled r i (depth_after r l.spot.instruction d.depth)
first_leads r i j f l d = at_first i j d.depth l.spot l.is l f d.settled

abbrev depth_by : (r : Routine) (i : ℕ) → ((j : ℕ) → j < i → Depth r j) → Search (λ j. Leads r j i → ⊥) (λ j. Leads r j i) i → Depth r i
depth_by r i before (all f) = record { depth = 0; settled = none_leads r i f }
depth_by r i before (first j l f leads) =
    record { depth = depth_after r leads.spot.instruction (before j l).depth; settled = first_leads r i j f leads (before j l) }

pub no_depth : (r : Routine) (i : ℕ) → i < 0 → Depth r i
no_depth r i l = absurd (omega arith)

pub shorter : (j i n : ℕ) → j < i → i < suc n → j < n
shorter j i n l m = omega arith

abbrev depth_within : (r : Routine) (n i : ℕ) → i < n → Depth r i
depth_within r zero i l = no_depth r i l
depth_within r (suc n) i l =
    depth_by r i (λ j m. depth_within r n j (shorter j i n m l)) (searched (λ j. Leads r j i → ⊥) (λ j. Leads r j i) (λ j. not_or_holds (dec_leads r j i)) i)

pub itself : (i : ℕ) → i < suc i
itself i = omega arith

abbrev pub depth_at : (r : Routine) (i : ℕ) → Depth r i
depth_at r i = depth_within r (suc i) i (itself i)

-- the depth is the same on each way
pub same_depth : (r : Routine) (j after : ℕ) (d : Depth r j) → after ≡ d.depth → (settled : ℕ) → Settled r j settled → after ≡ settled
same_depth r j after d e settled s = e ∙ settled_once r j d.depth settled d.settled s

pub no_leads : (r : Routine) (i j after : ℕ) → (Leads r i j → ⊥) → (settled : ℕ) → Leads r i j → Settled r j settled → after ≡ settled
no_leads r i j after h settled l s = absurd (h l)

pub leads_same : (r : Routine) (i j after : ℕ) (d : Depth r j) → after ≡ d.depth → (settled : ℕ) → Leads r i j → Settled r j settled → after ≡ settled
leads_same r i j after d e settled l s = same_depth r j after d e settled s

abbrev onward_by : (r : Routine) (i j after : ℕ) → Dec (Leads r i j) → Dec ((settled : ℕ) → Leads r i j → Settled r j settled → after ≡ settled)
onward_by r i j after (no h) = yes (no_leads r i j after h)
onward_by r i j after (yes l) =
    dec_by (leads_same r i j after (depth_at r j)) (λ f. f (depth_at r j).depth l (depth_at r j).settled) (dec_eq after (depth_at r j).depth)

abbrev OnwardUpto : Routine → ℕ → ℕ → Type 0
OnwardUpto r i after = (j : ℕ) → j < suc (length r.code) → (settled : ℕ) → Leads r i j → Settled r j settled → after ≡ settled

pub reached_within : (code : List Spot) (target : Option ℕ) (j : ℕ) → Reaches code target j → j < length code
reached_within code target j r = slice_get_within code j r.begins.spot r.begins.is

pub led_within : (r : Routine) (i j : ℕ) → Leads r i j → j < suc (length r.code)
led_within r i j l = ⊎_elim
    (λ (w : (j ≡ i + 1) × IsTrue (goes_on r l.spot.instruction)). (let k = slice_get_within r.code i l.spot l.is in let e = w.0 in omega (arith, k, e)))
    (λ (t : Reaches r.code (forward_target l.spot.instruction) j). (let k = reached_within r.code _ j t in omega (arith, k)))
    l.way

pub onward_all : (r : Routine) (i after : ℕ) → OnwardUpto r i after → AgreesOnward r i after
onward_all r i after f j settled l s = f j (led_within r i j l) settled l s

pub onward_upto : (r : Routine) (i after : ℕ) → AgreesOnward r i after → OnwardUpto r i after
onward_upto r i after f j m settled l s = f j settled l s

abbrev dec_onward : (r : Routine) (i after : ℕ) → Dec (AgreesOnward r i after)
dec_onward r i after = dec_by (onward_all r i after) (onward_upto r i after)
    (dec_upto (λ j. (settled : ℕ) → Leads r i j → Settled r j settled → after ≡ settled) (λ j. onward_by r i j after (dec_leads r i j)) (suc (length r.code)))

pub no_reach : (r : Routine) (target : Option ℕ) (j depth : ℕ) → (Reaches r.code target j → ⊥) → (settled : ℕ) → Reaches r.code target j
    → Settled r j settled → depth ≡ settled
no_reach r target j depth h settled t s = absurd (h t)

pub reach_same : (r : Routine) (target : Option ℕ) (j depth : ℕ) (d : Depth r j) → depth ≡ d.depth → (settled : ℕ) → Reaches r.code target j
    → Settled r j settled → depth ≡ settled
reach_same r target j depth d e settled t s = same_depth r j depth d e settled s

abbrev reach_by : (r : Routine) (target : Option ℕ) (j depth : ℕ) → Dec (Reaches r.code target j)
    → Dec ((settled : ℕ) → Reaches r.code target j → Settled r j settled → depth ≡ settled)
reach_by r target j depth (no h) = yes (no_reach r target j depth h)
reach_by r target j depth (yes t) =
    dec_by (reach_same r target j depth (depth_at r j)) (λ f. f (depth_at r j).depth t (depth_at r j).settled) (dec_eq depth (depth_at r j).depth)

abbrev ReachUpto : Routine → Option ℕ → ℕ → Type 0
ReachUpto r target depth = (j : ℕ) → j < length r.code → (settled : ℕ) → Reaches r.code target j → Settled r j settled → depth ≡ settled

pub reach_all : (r : Routine) (target : Option ℕ) (depth : ℕ) → ReachUpto r target depth → AgreesAt r target depth
reach_all r target depth f j settled t s = f j (reached_within r.code target j t) settled t s

pub reach_upto : (r : Routine) (target : Option ℕ) (depth : ℕ) → AgreesAt r target depth → ReachUpto r target depth
reach_upto r target depth f j m settled t s = f j settled t s

abbrev dec_agrees : (r : Routine) (target : Option ℕ) (depth : ℕ) → Dec (AgreesAt r target depth)
dec_agrees r target depth = dec_by (reach_all r target depth) (reach_upto r target depth)
    (dec_upto (λ j. (settled : ℕ) → Reaches r.code target j → Settled r j settled → depth ≡ settled)
    (λ j. reach_by r target j depth (dec_reaches r.code target j)) (length r.code))

-- the rules on the operand stack
pub fits_by : (r : Routine) (i : Instruction) (depth : ℕ) → ((moves r i).takes ≤ depth) × (depth_after r i depth ≤ r.room) → DepthFits r i depth
fits_by r i depth h = record { enough = h.0; room = h.1 }

pub fits_parts : (r : Routine) (i : Instruction) (depth : ℕ) → DepthFits r i depth → ((moves r i).takes ≤ depth) × (depth_after r i depth ≤ r.room)
fits_parts r i depth h = (h.enough, h.room)

abbrev dec_fits : (r : Routine) (i : Instruction) (depth : ℕ) → Dec (DepthFits r i depth)
dec_fits r i depth = dec_by (fits_by r i depth) (fits_parts r i depth) (dec_and (dec_le (moves r i).takes depth) (dec_le (depth_after r i depth) r.room))

abbrev dec_stays : (r : Routine) (i : ℕ) (spot : Spot) → Dec (Stays r i spot)
dec_stays r i spot = dec_if (dec_true (goes_on r spot.instruction))
    (dec_and (dec_lt (i + 1) (length r.code)) (dec_region (region_at r.phrases (spot.at + bytes_of spot.instruction)) (region_at r.phrases spot.at)))

abbrev StackParts : Routine → ℕ → Spot → ℕ → Type 0
StackParts r i spot depth = (DepthFits r spot.instruction depth × ((IsTrue (is_return spot.instruction) → depth ≡ 0) × Stays r i spot))
    × (AgreesOnward r i (depth_after r spot.instruction depth)
    × (AgreesAt r (backward_target spot.instruction) (depth_after r spot.instruction depth) × AgreesAt r (outward_target spot.instruction) 0))

pub stack_by : (r : Routine) (i : ℕ) (spot : Spot) (depth : ℕ) → StackParts r i spot depth → StackIsRight r i spot depth
stack_by r i spot depth h = record { fits = h.0.0; returns = h.0.1.0; stays = h.0.1.1; onward = h.1.0; backward = h.1.1.0; outward = h.1.1.1 }

pub stack_parts : (r : Routine) (i : ℕ) (spot : Spot) (depth : ℕ) → StackIsRight r i spot depth → StackParts r i spot depth
stack_parts r i spot depth s = ((s.fits, (s.returns, s.stays)), (s.onward, (s.backward, s.outward)))

abbrev pub dec_stack : (r : Routine) (i : ℕ) (spot : Spot) (depth : ℕ) → Dec (StackIsRight r i spot depth)
dec_stack r i spot depth = dec_by (stack_by r i spot depth) (stack_parts r i spot depth) (dec_and
    (dec_and (dec_fits r spot.instruction depth) (dec_and (dec_if (dec_true (is_return spot.instruction)) (dec_eq depth 0)) (dec_stays r i spot)))
    (dec_and (dec_onward r i (depth_after r spot.instruction depth))
    (dec_and (dec_agrees r (backward_target spot.instruction) (depth_after r spot.instruction depth)) (dec_agrees r (outward_target spot.instruction) 0))))

-- where jumps lead
pub forward_by : (r : Routine) (at target : ℕ) → IsStart r.code target × ((region_at r.phrases target ≡ region_at r.phrases at) × (at < target))
    → GoesForward r at target
forward_by r at target h = record { start = h.0; region = h.1.0; after = h.1.1 }

pub forward_parts : (r : Routine) (at target : ℕ) → GoesForward r at target
    → IsStart r.code target × ((region_at r.phrases target ≡ region_at r.phrases at) × (at < target))
forward_parts r at target g = (g.start, (g.region, g.after))

abbrev dec_forward : (r : Routine) (at target : ℕ) → Dec (GoesForward r at target)
dec_forward r at target = dec_by (forward_by r at target) (forward_parts r at target)
    (dec_and (dec_start r.code target) (dec_and (dec_region (region_at r.phrases target) (region_at r.phrases at)) (dec_lt at target)))

pub back_by : (r : Routine) (at target : ℕ) → IsStart r.code target × ((region_at r.phrases target ≡ region_at r.phrases at) × (target ≤ at))
    → GoesBack r at target
back_by r at target h = record { start = h.0; region = h.1.0; before = h.1.1 }

pub back_parts : (r : Routine) (at target : ℕ) → GoesBack r at target
    → IsStart r.code target × ((region_at r.phrases target ≡ region_at r.phrases at) × (target ≤ at))
back_parts r at target g = (g.start, (g.region, g.before))

abbrev dec_back : (r : Routine) (at target : ℕ) → Dec (GoesBack r at target)
dec_back r at target = dec_by (back_by r at target) (back_parts r at target)
    (dec_and (dec_start r.code target) (dec_and (dec_region (region_at r.phrases target) (region_at r.phrases at)) (dec_le target at)))

pub out_by : (r : Routine) (at arms target : ℕ)
    → IsStart r.code target × ((1 ≤ arms) × (outward r.phrases arms (region_at r.phrases at) ≡ Some (region_at r.phrases target))) → GoesOut r at arms target
out_by r at arms target h = record { start = h.0; some = h.1.0; region = h.1.1 }

pub out_parts : (r : Routine) (at arms target : ℕ) → GoesOut r at arms target
    → IsStart r.code target × ((1 ≤ arms) × (outward r.phrases arms (region_at r.phrases at) ≡ Some (region_at r.phrases target)))
out_parts r at arms target g = (g.start, (g.some, g.region))

abbrev dec_out : (r : Routine) (at arms target : ℕ) → Dec (GoesOut r at arms target)
dec_out r at arms target = dec_by (out_by r at arms target) (out_parts r at arms target)
    (dec_and (dec_start r.code target)
    (dec_and (dec_le 1 arms) (dec_some_region (outward r.phrases arms (region_at r.phrases at)) (region_at r.phrases target))))

pub returns_by : (r : Routine) (at arms : ℕ) → (1 ≤ arms) × (outward r.phrases arms (region_at r.phrases at) ≡ Some Body) → ReturnsOut r at arms
returns_by r at arms h = record { some = h.0; region = h.1 }

pub returns_parts : (r : Routine) (at arms : ℕ) → ReturnsOut r at arms → (1 ≤ arms) × (outward r.phrases arms (region_at r.phrases at) ≡ Some Body)
returns_parts r at arms g = (g.some, g.region)

abbrev dec_returns : (r : Routine) (at arms : ℕ) → Dec (ReturnsOut r at arms)
dec_returns r at arms = dec_by (returns_by r at arms) (returns_parts r at arms)
    (dec_and (dec_le 1 arms) (dec_some_region (outward r.phrases arms (region_at r.phrases at)) Body))

abbrev pub dec_jumps : (r : Routine) (at : ℕ) (i : Instruction) → Dec (JumpsRightly r at i)
dec_jumps r at (Jump target) = dec_forward r at target
dec_jumps r at (JumpIf target) = dec_forward r at target
dec_jumps r at (JumpIfNot target) = dec_forward r at target
dec_jumps r at (JumpBack target) = dec_back r at target
dec_jumps r at (Leave arms target) = dec_out r at arms target
dec_jumps r at (LeaveReturn arms) = dec_returns r at arms
dec_jumps r at _ = yes tt
