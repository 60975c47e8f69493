-- Instructions in order of offset: each is found by its offset.
use Rattle.std.proofs.Common.{◌≡◌, ℕ, ◌+◌, ◌<◌, ◌≤◌, List, length, get_or, Some, refl, sym, ap, subst, ◌∙◌, lit≤, ⊎_elim, arith}
use Rattle.std.specs.Prelude.{slice_get}
use Rattle.std.specs.List.{AllWithin}
use Rattle.std.specs.List.Sorted.{IsNonDecreasingBy}
use Rattle.std.proofs.Math.ListN.{length-map}
use Rattle.std.specs.Option.{option_map}
use Rattle.std.proofs.lemmas.Bool.{cases_lt}
use Rattle.std.proofs.lemmas.List.Sorted.{IsNonDecreasingBy-from_all_adjacent}
use Rattle.std.proofs.lemmas.Option.{slice_get-get_or, slice_get-map, slice_get_within, same_Some}
use Rattle.code_forms.specs.declared.instruction.Instruction.{Instruction}
use Rattle.code_forms.specs.declared.instruction.Instruction.TheVariants.{Lit, Str, LoadL, StoreL, LoadG, StoreG, LoadLX, StoreLX, LoadGX, StoreGX, Index, Add, Sub, Mul, Neg, DivI, ModI, DivC, ModC, Eq, LessI, LessC, Not, CheckI, CheckC, Jump, JumpIf, JumpIfNot, JumpBack, StrLen, StrAt, Call, CallLink, Return, Raise, RaiseLink, RaiseHost, ArmEnd, Resume, Leave, LeaveReturn, Pop, Roll, ZeroL, ZeroG, AddD, SubD, MulD, NegD, DivDI, ModDI, DivDC, ModDC, EqD, LessDI, LessDC, WidenI, WidenC, NarrowI, NarrowC, CheckD}
use Rattle.code_forms.specs.declared.module_code.CodeEntry.{CodeEntry}
use Rattle.code_forms.specs.Instructions.{bytes_of}
use Rattle.code_forms.specs.Ranges.{InOrder}
use Rattle.code_forms.specs.Routine.{Spot, spot_of, spots, Begins, IsStart}

pub some_bytes : (i : Instruction) → 1 ≤ bytes_of i
some_bytes (Lit word) = lit≤ tt
some_bytes (Str literal) = lit≤ tt
some_bytes (LoadL slot words) = lit≤ tt
some_bytes (StoreL slot words) = lit≤ tt
some_bytes (LoadG slot words) = lit≤ tt
some_bytes (StoreG slot words) = lit≤ tt
some_bytes (LoadLX slot extent words) = lit≤ tt
some_bytes (StoreLX slot extent words) = lit≤ tt
some_bytes (LoadGX slot extent words) = lit≤ tt
some_bytes (StoreGX slot extent words) = lit≤ tt
some_bytes (Index count size) = lit≤ tt
some_bytes Add = lit≤ tt
some_bytes Sub = lit≤ tt
some_bytes Mul = lit≤ tt
some_bytes Neg = lit≤ tt
some_bytes DivI = lit≤ tt
some_bytes ModI = lit≤ tt
some_bytes DivC = lit≤ tt
some_bytes ModC = lit≤ tt
some_bytes Eq = lit≤ tt
some_bytes LessI = lit≤ tt
some_bytes LessC = lit≤ tt
some_bytes Not = lit≤ tt
some_bytes (CheckI least most) = lit≤ tt
some_bytes (CheckC least most) = lit≤ tt
some_bytes (Jump target) = lit≤ tt
some_bytes (JumpIf target) = lit≤ tt
some_bytes (JumpIfNot target) = lit≤ tt
some_bytes (JumpBack target) = lit≤ tt
some_bytes StrLen = lit≤ tt
some_bytes StrAt = lit≤ tt
some_bytes (Call procedure) = lit≤ tt
some_bytes (CallLink link) = lit≤ tt
some_bytes Return = lit≤ tt
some_bytes (Raise signal) = lit≤ tt
some_bytes (RaiseLink link) = lit≤ tt
some_bytes (RaiseHost fault) = lit≤ tt
some_bytes ArmEnd = lit≤ tt
some_bytes (Resume words) = lit≤ tt
some_bytes (Leave arms target) = lit≤ tt
some_bytes (LeaveReturn arms) = lit≤ tt
some_bytes (Pop words) = lit≤ tt
some_bytes (Roll words over) = lit≤ tt
some_bytes (ZeroL slot words) = lit≤ tt
some_bytes (ZeroG slot words) = lit≤ tt
some_bytes AddD = lit≤ tt
some_bytes SubD = lit≤ tt
some_bytes MulD = lit≤ tt
some_bytes NegD = lit≤ tt
some_bytes DivDI = lit≤ tt
some_bytes ModDI = lit≤ tt
some_bytes DivDC = lit≤ tt
some_bytes ModDC = lit≤ tt
some_bytes EqD = lit≤ tt
some_bytes LessDI = lit≤ tt
some_bytes LessDC = lit≤ tt
some_bytes WidenI = lit≤ tt
some_bytes WidenC = lit≤ tt
some_bytes NarrowI = lit≤ tt
some_bytes NarrowC = lit≤ tt
some_bytes CheckD = lit≤ tt

-- an entry, where one is asked for
abbrev pub blank : CodeEntry
blank = record { at = 0; depth = 0; instruction = Lit 0 }

pub at_rise : (code : List CodeEntry) → InOrder code → IsNonDecreasingBy (λ e. e.at) code
at_rise code h = IsNonDecreasingBy-from_all_adjacent (λ e. e.at) code (λ k d l. let j = h.joined k d l in omega (arith, j))

-- an instruction ends before or where a later one begins
pub ends_before : (code : List CodeEntry) (i j : ℕ) (d : CodeEntry) → InOrder code → i < j → j < length code → (get_or code i d).at + bytes_of (get_or code i d).instruction ≤ (get_or code j d).at
ends_before code i j d h l u =
    let n = h.joined i d (omega arith) in
    let r = at_rise code h (i + 1) j d (omega arith) u in
    omega (arith, n, r)

pub at_less : (code : List CodeEntry) (i j : ℕ) (d : CodeEntry) → InOrder code → i < j → j < length code → (get_or code i d).at < (get_or code j d).at
at_less code i j d h l u =
    let e = ends_before code i j d h l u in
    let s = some_bytes (get_or code i d).instruction in
    omega (arith, e, s)

-- the instruction of a number
pub spot_at : (code : List CodeEntry) (i : ℕ) (d : CodeEntry) → i < length code → slice_get (spots code) i ≡ Some (spot_of (get_or code i d))
spot_at code i d l = slice_get-map spot_of code i ∙ ap (option_map spot_of) (slice_get-get_or code i d l)

pub spots_length : (code : List CodeEntry) → length (spots code) ≡ length code
spots_length code = length-map code spot_of

pub spot_within : (code : List CodeEntry) (i : ℕ) (s : Spot) → slice_get (spots code) i ≡ Some s → i < length code
spot_within code i s h = let l = slice_get_within (spots code) i s h in let e = spots_length code in omega (arith, l, e)

pub same_spot : (code : List CodeEntry) (i : ℕ) (d : CodeEntry) (s : Spot) → slice_get (spots code) i ≡ Some s → spot_of (get_or code i d) ≡ s
same_spot code i d s h = same_Some _ _ (sym (spot_at code i d (spot_within code i s h)) ∙ h)

pub begins_at : (code : List CodeEntry) (i : ℕ) (d : CodeEntry) → i < length code → Begins (spots code) i (get_or code i d).at
begins_at code i d l = record { spot = spot_of (get_or code i d); is = spot_at code i d l; at = refl }

pub at_of_begins : (code : List CodeEntry) (i o : ℕ) (d : CodeEntry) → Begins (spots code) i o → (get_or code i d).at ≡ o
at_of_begins code i o d b = ap (λ s. s.at) (same_spot code i d b.spot b.is) ∙ b.at

-- no two begin at one offset
pub begins_once : (code : List CodeEntry) (i j o : ℕ) (d : CodeEntry) → InOrder code → Begins (spots code) i o → Begins (spots code) j o → i ≡ j
begins_once code i j o d h b c =
    let x = at_of_begins code i o d b in
    let y = at_of_begins code j o d c in
    let li = spot_within code i b.spot b.is in
    let lj = spot_within code j c.spot c.is in
    ⊎_elim (λ (l : i < j). absurd (let z = at_less code i j d h l lj in omega (arith, x, y, z)))
    (λ (l : j ≤ i). ⊎_elim (λ (m : j < i). absurd (let z = at_less code j i d h m li in omega (arith, x, y, z))) (λ (m : i ≤ j). omega arith) (cases_lt j i))
    (cases_lt i j)

-- where none before a place begins at the offset, and none from it on begins before, the place tells
pub found_start : (code : List CodeEntry) (count o : ℕ) (d : CodeEntry) → count < length code → (get_or code count d).at ≡ o → Begins (spots code) count o
found_start code count o d l e = subst (λ t. Begins (spots code) count t) e (begins_at code count d l)

pub no_start : (code : List CodeEntry) (count o : ℕ) (d : CodeEntry) → InOrder code → AllWithin (λ e. e.at < o) code 0 count → AllWithin (λ e. o ≤ e.at) code count (length code) → (count < length code → (get_or code count d).at ≡ o → ⊥) → IsStart (spots code) o → ⊥
no_start code count o d h before rest none s =
    let i = s.number in
    let x = at_of_begins code i o d s.begins in
    let li = spot_within code i s.begins.spot s.begins.is in
    ⊎_elim (λ (l : i < count). absurd (let b = before i d (omega arith) l in omega (arith, x, b)))
    (λ (l : count ≤ i). ⊎_elim
    (λ (m : count < i). absurd (let r = rest count d (omega arith) (omega arith) in let z = at_less code count i d h m li in omega (arith, x, r, z)))
    (λ (m : i ≤ count). let e : i ≡ count = omega arith in none (omega arith) (ap (λ k. (get_or code k d).at) (sym e) ∙ x))
    (cases_lt count i))
    (cases_lt i count)
