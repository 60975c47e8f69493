-- The loops of the search.
use Rattle.std.proofs.Common.{◌≡◌, ℕ, suc, ◌+◌, ◌<◌, ◌≤◌, List, [], ◌∷◌, Bool, true, false, not, ◌||◌, length, drop, get_or, Option, Some, None, refl, sym, ap, subst, ◌∙◌, ⊎_elim, arith}
use Rattle.std.specs.Prelude.{slice_get, position, nat_lt, sum_by, IfSome, if◌then◌else◌}
use Rattle.std.specs.List.{list_any, position_or_len}
use Rattle.std.proofs.lemmas.List.{drop_more, drop_all}
use Rattle.std.proofs.Math.Seq.{take-length}
use Rattle.std.proofs.lemmas.List.Sums.{prefix_len-drop_no, prefix_len-drop_yes, prefix_len-drop_all, sum_by_more_le}
use Rattle.std.proofs.lemmas.Bool.{cases_lt, lt-ltb, le-ltb}
use Rattle.std.proofs.lemmas.Option.{slice_get-get_or, slice_get_within, get_or_from_slice_get, same_Some, none-some}
use Rattle.code_forms.specs.declared.module_code.Arm.{Arm}
use Rattle.code_forms.specs.declared.module_code.Phrase.{Phrase}
use Rattle.signaller.specs.declared.outward.Asked.{Asked}
use Rattle.signaller.specs.declared.outward.Asked.TheVariants.{Fits, Before}
use Rattle.signaller.specs.declared.place.Place.{Place}
use Rattle.signaller.specs.Search.{covers, from_of, arms_of, around_at, around, beyond, asked, place_at, first_place, arms_before}
use Rattle.signaller.specs.Sought.{passed, fitting, answer, IsPlace}

pub any_more : {X : Type 0} (f : X → Bool) (xs : List X) (i : ℕ) (d : X) → i < length xs → f (get_or xs i d) ≡ false → list_any f (drop (i + 1) xs) ≡ list_any f (drop i xs)
any_more f xs i d h e = sym (ap (λ ys. list_any f ys) (drop_more xs i d h) ∙ ap (λ b. b || list_any f (drop (i + 1) xs)) e)

pub any_here : {X : Type 0} (f : X → Bool) (xs : List X) (i : ℕ) (d : X) → i < length xs → f (get_or xs i d) ≡ true → list_any f (drop i xs) ≡ true
any_here f xs i d h e = ap (λ ys. list_any f ys) (drop_more xs i d h) ∙ ap (λ b. b || list_any f (drop (i + 1) xs)) e

pub any_end : {X : Type 0} (f : X → Bool) (xs : List X) (i : ℕ) → length xs ≤ i → list_any f (drop i xs) ≡ false
any_end f xs i h = ap (λ ys. list_any f ys) (drop_all i xs h)

pub first_more : {X : Type 0} (f : X → Bool) (xs : List X) (i : ℕ) (d : X) → i < length xs → f (get_or xs i d) ≡ false
    → i + 1 + position_or_len f (drop (i + 1) xs) ≡ i + position_or_len f (drop i xs)
first_more f xs i d h e = let s = prefix_len-drop_yes (λ x. not (f x)) xs i d h (ap not e) in omega (arith, s)

pub first_here : {X : Type 0} (f : X → Bool) (xs : List X) (i : ℕ) (d : X) → i < length xs → f (get_or xs i d) ≡ true
    → i + position_or_len f (drop i xs) ≡ position_or_len f xs → position f xs ≡ Some i
first_here f xs i d h e s =
    let z = prefix_len-drop_no (λ x. not (f x)) xs i d h (ap not e) in
    let n : position_or_len f xs ≡ i = omega (arith, z, s) in
    subst (λ k. if nat_lt k (length xs) then Some k else None ≡ Some i) (sym n) (ap (λ b. if b then Some i else None) (lt-ltb i (length xs) h))

pub first_end : {X : Type 0} (f : X → Bool) (xs : List X) (i : ℕ) → length xs ≤ i
    → i + position_or_len f (drop i xs) ≡ position_or_len f xs → position f xs ≡ None
first_end f xs i h s =
    let z = prefix_len-drop_all (λ x. not (f x)) xs i h in
    ap (λ b. if b then Some (position_or_len f xs) else None) (le-ltb (position_or_len f xs) (length xs) (omega (arith, z, s)))

-- what one phrase answers, as what is found of it and of those before it
abbrev pub answered : ℕ → (ℕ → Option Place) → Asked → Option Place
answered number before (Fits arm) = Some (record { phrase = number; arm = arm })
answered number before (Before offset) = before offset

fitting_is : (fits : Arm → Bool) (m : ℕ) (before : ℕ → Option Place) (p : Phrase) (o : Option ℕ) → place_at m o (before p.from) ≡ answered m before (fitting p o)
fitting_is fits m before p None = refl
fitting_is fits m before p (Some arm) = refl

answer_is : (outward : Bool) (fits : Arm → Bool) (table : List Phrase) (m offset : ℕ) (before : ℕ → List ℕ) (p : Phrase) → slice_get table m ≡ Some p
    → first_place fits table (around_at outward m offset before (Some p)) ≡ answered m (λ o. first_place fits table (before o)) (answer outward fits p offset)
unfolding around_at first_place
answer_is outward fits table m offset before p is =
    elim (covers p offset) as (λ b. first_place fits table (if b then m ∷ before p.from else before (passed outward p offset))
    ≡ answered m (λ o. first_place fits table (before o)) (if b then fitting p (position fits p.arms) else Before (passed outward p offset))) [
      | true ↦ ap (λ o. place_at m (position fits (arms_of o)) (first_place fits table (before p.from))) is ∙ fitting_is fits m (λ o. first_place fits table (before o)) p (position fits p.arms)
      | false ↦ refl
    ]

-- a phrase that was read from the table
there : (table : List Phrase) (m : ℕ) (p : Phrase) → p ≡ get_or table m p → m < length table → slice_get table m ≡ Some p
there table m p is h = slice_get-get_or table m p h ∙ ap Some (sym is)

around_read : (outward : Bool) (table : List Phrase) (k m : ℕ) (p : Phrase) → p ≡ get_or table m p → k ≡ m + 1 → m < length table → (offset : ℕ)
    → around outward table k offset ≡ around_at outward m offset (around outward table m) (Some p)
unfolding around
around_read outward table k m p is e h offset =
    let s : k ≡ suc m = omega arith in
    ap (λ n. around outward table n offset) s ∙ ap (λ o. around_at outward m offset (around outward table m) o) (there table m p is h)

-- one phrase of the search
pub place_answered : (outward : Bool) (fits : Arm → Bool) (table : List Phrase) (k m : ℕ) (p : Phrase) → p ≡ get_or table m p → k ≡ m + 1 → m < length table → (offset : ℕ) (a : Asked)
    → a ≡ answer outward fits p offset → first_place fits table (around outward table k offset) ≡ answered m (λ o. first_place fits table (around outward table m o)) a
place_answered outward fits table k m p is e h offset a says =
    ap (λ numbers. first_place fits table numbers) (around_read outward table k m p is e h offset)
    ∙ (answer_is outward fits table m offset (around outward table m) p (there table m p is h)
    ∙ ap (λ b. answered m (λ o. first_place fits table (around outward table m o)) b) (sym says))

pub place_none : (outward : Bool) (fits : Arm → Bool) (table : List Phrase) (k offset : ℕ) → k ≡ 0 → first_place fits table (around outward table k offset) ≡ None
unfolding around first_place
place_none outward fits table k offset e = ap (λ n. first_place fits table (around outward table n offset)) e

pub around_here : (outward : Bool) (table : List Phrase) (k m : ℕ) (p : Phrase) → p ≡ get_or table m p → k ≡ m + 1 → m < length table → (offset : ℕ) → true ≡ covers p offset
    → around outward table k offset ≡ m ∷ around outward table m p.from
unfolding around_at
around_here outward table k m p is e h offset c =
    around_read outward table k m p is e h offset
    ∙ ap (λ b. if b then m ∷ around outward table m p.from else around outward table m (passed outward p offset)) (sym c)

pub around_more : (outward : Bool) (table : List Phrase) (k m : ℕ) (p : Phrase) → p ≡ get_or table m p → k ≡ m + 1 → m < length table → (offset o : ℕ) → false ≡ covers p offset
    → o ≡ passed outward p offset → around outward table k offset ≡ around outward table m o
unfolding around_at
around_more outward table k m p is e h offset o c w =
    around_read outward table k m p is e h offset
    ∙ (ap (λ b. if b then m ∷ around outward table m p.from else around outward table m (passed outward p offset)) (sym c)
    ∙ ap (λ x. around outward table m x) (sym w))

pub around_none : (outward : Bool) (table : List Phrase) (k offset : ℕ) → k ≡ 0 → around outward table k offset ≡ []
unfolding around
around_none outward table k offset e = ap (λ n. around outward table n offset) e

-- the phrases from one on
pub beyond_read : (outward : Bool) (table : List Phrase) (k n : ℕ) (d : Phrase) → k ≡ n → n < length table → around outward table k (get_or table n d).from ≡ beyond outward table n
beyond_read outward table k n d e h =
    ap (λ j. around outward table j (get_or table n d).from) e ∙ sym (ap (λ o. around outward table n (from_of o)) (slice_get-get_or table n d h))

pub asked_here : (outward : Bool) (fits : Arm → Bool) (table : List Phrase) (n k : ℕ) (p : Phrase) (arms : List Arm) → p ≡ get_or table n p → n < length table → arms ≡ p.arms
    → position fits arms ≡ Some k → first_place fits table (asked outward table (Some n)) ≡ Some (record { phrase = n; arm = k })
unfolding first_place
asked_here outward fits table n k p arms is h a e =
    ap (λ o. place_at n (position fits (arms_of o)) (first_place fits table (beyond outward table n))) (there table n p is h)
    ∙ ap (λ m. place_at n m (first_place fits table (beyond outward table n))) (ap (λ xs. position fits xs) (sym a) ∙ e)

pub asked_further : (outward : Bool) (fits : Arm → Bool) (table : List Phrase) (n : ℕ) (p : Phrase) (arms : List Arm) → p ≡ get_or table n p → n < length table → arms ≡ p.arms
    → position fits arms ≡ None → first_place fits table (asked outward table (Some n)) ≡ first_place fits table (around outward table n p.from)
unfolding first_place
asked_further outward fits table n p arms is h a e =
    ap (λ o. place_at n (position fits (arms_of o)) (first_place fits table (around outward table n (from_of o)))) (there table n p is h)
    ∙ ap (λ m. place_at n m (first_place fits table (around outward table n p.from))) (ap (λ xs. position fits xs) (sym a) ∙ e)

pub asked_none : (outward : Bool) (fits : Arm → Bool) (table : List Phrase) → first_place fits table (asked outward table None) ≡ None
unfolding first_place
asked_none outward fits table = refl

-- what is found is an arm of the table
position_within : (fits : Arm → Bool) (arms : List Arm) (k : ℕ) → position fits arms ≡ Some k → k < length arms
position_within fits arms k e =
    let n = position_or_len fits arms in
    ⊎_elim
    (λ (l : n < length arms). let s : Some n ≡ Some k = sym (ap (λ b. if b then Some n else None) (lt-ltb n (length arms) l)) ∙ e in let i = same_Some n k s in omega (arith, l, i))
    (λ (l : length arms ≤ n). absurd (none-some k (sym (ap (λ b. if b then Some n else None) (le-ltb n (length arms) l)) ∙ e)))
    (cases_lt n (length arms))

none_within : (fits : Arm → Bool) (k : ℕ) → position fits [] ≡ Some k → ⊥
none_within fits k e = none-some k e

at_place : (fits : Arm → Bool) (table : List Phrase) (n : ℕ) (o : Option Phrase) (m : Option ℕ) (further : Option Place) (place : Place) → slice_get table n ≡ o → position fits (arms_of o) ≡ m
    → (further ≡ Some place → IsPlace table place) → place_at n m further ≡ Some place → IsPlace table place
at_place fits table n o None further place is m h e = h e
at_place fits table n None (Some k) further place is m h e = absurd (none_within fits k m)
at_place fits table n (Some p) (Some k) further place is m h e =
    subst (λ q. IsPlace table q) (same_Some (record { phrase = n; arm = k }) place e) (record { phrase = p; is = is; arm = position_within fits p.arms k m })

pub found_place : (fits : Arm → Bool) (table : List Phrase) (numbers : List ℕ) (place : Place) → first_place fits table numbers ≡ Some place → IsPlace table place
unfolding first_place
found_place fits table [] place e = absurd (none-some place e)
found_place fits table (n ∷ numbers) place e =
    at_place fits table n (slice_get table n) (position fits (arms_of (slice_get table n))) (first_place fits table numbers) place refl refl (found_place fits table numbers place) e

pub if_place : (fits : Arm → Bool) (table : List Phrase) (numbers : List ℕ) (o : Option Place) → o ≡ first_place fits table numbers → IfSome o (IsPlace table)
if_place fits table numbers None e = tt
if_place fits table numbers (Some place) e = found_place fits table numbers place (sym e)

pub place_within : (table : List Phrase) (place : Place) → IsPlace table place → place.phrase < length table
place_within table place p = slice_get_within table place.phrase p.phrase p.is

-- its number is one of the table's
pub place_few : (table : List Phrase) (place : Place) → IsPlace table place → arms_before table place.phrase + place.arm < arms_before table (length table)
place_few table place p =
    let l = place_within table place p in
    let more = sum_by_more_le (λ q. length q.arms) table place.phrase p.phrase l in
    let here = ap (λ q. length q.arms) (get_or_from_slice_get table place.phrase p.phrase p.phrase p.is) in
    let all = ap (λ t. sum_by (λ (q : Phrase). length q.arms) t) (take-length table) in
    let a = p.arm in
    omega (arith, more, here, all, a)
