-- The pass over the instructions of a procedure.
use Rattle.std.proofs.Common.{◌≡◌, ℕ, ◌+◌, ◌<◌, ◌≤◌, inl, ⊎_elim, List, length, get_or, Option, Some, refl, sym, ap, subst, ◌∙◌, arith}
use Rattle.std.specs.Prelude.{slice_get, slice_set, All}
use Rattle.std.specs.List.{AllWithin}
use Rattle.std.proofs.lemmas.Bool.{cases_lt}
use Rattle.std.proofs.lemmas.List.Elements.{AllWithin-more_set}
use Rattle.std.proofs.lemmas.Option.{slice_get-get_or, slice_get_within, get_or_from_slice_get, same_Some}
use Rattle.code_forms.specs.Around.{routine_around}
use Rattle.code_forms.specs.declared.around.Around.{Around}
use Rattle.code_forms.specs.declared.bad_code.CodeFault.{CodeFault}
use Rattle.code_forms.specs.declared.limits.TheConstants.{STACK_WORDS}
use Rattle.code_forms.specs.declared.module_code.CodeEntry.{CodeEntry}
use Rattle.code_forms.specs.Depths.{depth_after, DepthFits, Settled, DepthsAreSettled}
use Rattle.code_forms.specs.Instructions.{bytes_of}
use Rattle.code_forms.specs.Marks.{unsettled, Marked, LeadsTo, settled_at}
use Rattle.code_forms.specs.Phrases.{PhrasesFill}
use Rattle.code_forms.specs.Ranges.{InOrder}
use Rattle.code_forms.specs.Routine.{Routine, Spot, spot_of, spots}
use Rattle.code_forms.specs.Valid.{SpotIsRight, SpotsAreRight, FaultAt, FirstFault, in_code}
use Rattle.code_forms.proofs.Depths.{own_mark, onward_mark, same_spots, settled_spots}
use Rattle.code_forms.proofs.Leading.{spot_there}
use Rattle.code_forms.proofs.Ordered.{blank, spot_at, spots_length}

pub same_length : (a b : List CodeEntry) → spots a ≡ spots b → length a ≡ length b
same_length a b e = sym (spots_length a) ∙ (ap length e ∙ spots_length b)

pub same_at : (a b : List CodeEntry) (k : ℕ) (d e : CodeEntry) → spots a ≡ spots b → k < length a → spot_of (get_or a k d) ≡ spot_of (get_or b k e)
same_at a b k d e h l =
    let m : k < length b = (let n = same_length a b h in omega (arith, n, l)) in
    same_Some _ _ (sym (spot_at a k d l) ∙ (ap (λ (c : List Spot). slice_get c k) h ∙ spot_at b k e m))

-- depths do not matter to the order
pub in_order_same : (a b : List CodeEntry) → spots a ≡ spots b → InOrder a → InOrder b
in_order_same a b h o =
    let n = same_length a b h in
    record {
      some = (let s = o.some in omega (arith, s, n));
      first = λ d. ap (λ s. s.at) (sym (same_at a b 0 d d h o.some)) ∙ o.first d;
      joined = λ k d l. (
          let j = o.joined k d (omega (arith, l, n)) in
          let x = ap (λ s. s.at + bytes_of s.instruction) (same_at a b k d d h (omega (arith, l, n))) in
          let y = ap (λ s. s.at) (same_at a b (k + 1) d d h (omega (arith, l, n))) in
          omega (arith, j, x, y));
      short = λ k d l. (
          let j = o.short k d (omega (arith, l, n)) in
          let x = ap (λ s. s.at + bytes_of s.instruction) (same_at a b k d d h (omega (arith, l, n))) in
          omega (arith, j, x));
    }

-- with the depth of the instruction beside it, in the code as it stands then
pub own_marked : (a : Around) (code : List CodeEntry) (i : ℕ) → i < length code → Marked (routine_around a (spots code)) i i code
    → Marked (routine_around a (spots (settled_at code (Some i) 0))) (i + 1) i (settled_at code (Some i) 0)
own_marked a code i l m =
    subst (λ (s : List Spot). Marked (routine_around a s) (i + 1) i (settled_at code (Some i) 0)) (sym (settled_spots code (Some i) 0)) (own_mark (routine_around a (spots code)) i code l m)

-- and then of those to which it leads
pub onward_marked : (a : Around) (old code : List CodeEntry) (i : ℕ) (entry : CodeEntry) (next target : Option ℕ) (depth : ℕ) → spots code ≡ spots old → slice_get code i ≡ Some entry
    → a.room ≤ STACK_WORDS → Marked (routine_around a (spots code)) (i + 1) i code → LeadsTo (routine_around a (spots code)) i next target
    → depth ≡ depth_after (routine_around a (spots code)) entry.instruction entry.depth → DepthFits (routine_around a (spots code)) entry.instruction entry.depth
    → Marked (routine_around a (spots old)) (i + 1) (i + 1) (settled_at (settled_at code next depth) target depth)
onward_marked a old code i entry next target depth h is room m leads e fits =
    let r = routine_around a (spots code) in
    let here : get_or code i entry ≡ entry = get_or_from_slice_get code i entry entry is in
    let st : Settled r i entry.depth = subst (λ (x : CodeEntry). Settled r i x.depth) here ((m i entry (slice_get_within code i entry is)).done (omega arith)) in
    let f = fits.room in
    subst (λ (s : List Spot). Marked (routine_around a s) (i + 1) (i + 1) (settled_at (settled_at code next depth) target depth)) h
    (onward_mark r i code next target (spot_of entry) entry.depth depth (sym (spots_length code)) (spot_there code i entry is) st e (omega (arith, e, f, room)) m leads)

pub onward_spots : (code : List CodeEntry) (next target : Option ℕ) (depth : ℕ) → spots (settled_at (settled_at code next depth) target depth) ≡ spots code
onward_spots code next target depth = settled_spots (settled_at code next depth) target depth ∙ settled_spots code next depth

-- what is said of the entry is said of the spot
pub right_spot : (a : Around) (old code : List CodeEntry) (i : ℕ) (entry : CodeEntry) → spots code ≡ spots old → slice_get code i ≡ Some entry
    → SpotIsRight (routine_around a (spots code)) i (spot_of entry) → (spot : Spot) → slice_get (spots old) i ≡ Some spot → SpotIsRight (routine_around a (spots old)) i spot
right_spot a old code i entry h is right spot e =
    let same : spot_of entry ≡ spot = same_Some (spot_of entry) spot (sym (spot_there code i entry is) ∙ (ap (λ (c : List Spot). slice_get c i) h ∙ e)) in
    subst (λ (s : Spot). SpotIsRight (routine_around a (spots old)) i s) same (subst (λ (c : List Spot). SpotIsRight (routine_around a c) i (spot_of entry)) h right)

pub fault_spot : (a : Around) (old code : List CodeEntry) (i : ℕ) (entry : CodeEntry) (fault : CodeFault) → spots code ≡ spots old → slice_get code i ≡ Some entry
    → FaultAt (routine_around a (spots code)) i (spot_of entry) fault → (spot : Spot) → slice_get (spots old) i ≡ Some spot → FaultAt (routine_around a (spots old)) i spot fault
fault_spot a old code i entry fault h is f spot e =
    let same : spot_of entry ≡ spot = same_Some (spot_of entry) spot (sym (spot_there code i entry is) ∙ (ap (λ (c : List Spot). slice_get c i) h ∙ e)) in
    subst (λ (s : Spot). FaultAt (routine_around a (spots old)) i s fault) same (subst (λ (c : List Spot). FaultAt (routine_around a c) i (spot_of entry) fault) h f)

-- before the pass
pub none_marked : (r : Routine) (code : List CodeEntry) → All (λ e. e.depth ≡ unsettled) code → Marked r 0 0 code
none_marked r code h k d l = record { done = λ q. absurd (omega arith); ahead = λ q. inl (h k d l, λ j m. absurd (omega arith)) }

-- one instruction more
pub right_more : (r : Routine) (i : ℕ) → SpotsAreRight r i → ((spot : Spot) → slice_get r.code i ≡ Some spot → SpotIsRight r i spot) → SpotsAreRight r (i + 1)
right_more r i h here j spot l e = ⊎_elim (λ (m : j < i). h j spot m e)
    (λ (m : i ≤ j). let s : j ≡ i = omega arith in subst (λ k. SpotIsRight r k spot) (sym s) (here spot (ap (λ k. slice_get r.code k) (sym s) ∙ e))) (cases_lt j i)

-- after it
pub all_settled : (r : Routine) (code : List CodeEntry) (n : ℕ) → n ≡ length code → Marked r n n code → DepthsAreSettled r code
all_settled r code n e m i x h =
    let l = slice_get_within code i x h in
    subst (λ (y : CodeEntry). Settled r i y.depth) (get_or_from_slice_get code i x x h) ((m i x l).done (omega (arith, l, e)))

pub first_fault : (r : Routine) (code : List CodeEntry) (i : ℕ) (fault : CodeFault) → r.code ≡ spots code → i < length code → PhrasesFill r.code r.phrases → SpotsAreRight r i
    → ((spot : Spot) → slice_get r.code i ≡ Some spot → FaultAt r i spot fault) → FirstFault r fault
first_fault r code i fault rc l fill right f =
    let d : CodeEntry = blank in
    let is : slice_get r.code i ≡ Some (spot_of (get_or code i d)) = ap (λ (c : List Spot). slice_get c i) rc ∙ spot_at code i d l in
    in_code i (spot_of (get_or code i d)) fault fill is right (f _ is)

-- one depth more is taken away
pub unset_more : (code read new : List CodeEntry) (old : List Spot) (n : ℕ) → read ≡ code → new ≡ slice_set code n (record { at = (get_or read n blank).at; depth = unsettled; instruction = (get_or read n blank).instruction })
    → n < length code → spots code ≡ old → AllWithin (λ e. e.depth ≡ unsettled) code 0 n → (spots new ≡ old) × AllWithin (λ e. e.depth ≡ unsettled) new 0 (n + 1)
unset_more code read new old n e f l h w =
    let x : CodeEntry = record { at = (get_or code n blank).at; depth = unsettled; instruction = (get_or code n blank).instruction } in
    let g : new ≡ slice_set code n x = f ∙ ap (λ (r : List CodeEntry). slice_set code n (record { at = (get_or r n blank).at; depth = unsettled; instruction = (get_or r n blank).instruction })) e in (
      ap spots g ∙ (same_spots code n (get_or code n blank) x (slice_get-get_or code n blank l) refl ∙ h),
      subst (λ l. AllWithin (λ e. e.depth ≡ unsettled) l 0 (n + 1)) (sym g) (AllWithin-more_set code n x l (λ e. e.depth ≡ unsettled) w refl),
    )

-- the entry that is read
pub read_is : (read code : List CodeEntry) (i : ℕ) (d : CodeEntry) → read ≡ code → i < length read → slice_get code i ≡ Some (get_or read i d)
read_is read code i d e l = ap (λ c. slice_get c i) (sym e) ∙ slice_get-get_or read i d l
