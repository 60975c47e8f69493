-- The search of the phrases of one table for an arm (Mesa Language Manual, chapter 8: catch phrases, UNWIND; the numbers are a rule of this project).
use Rattle.std.specs.Prelude.{ℕ, zero, suc, ◌+◌, List, [], ◌∷◌, length, take, filter, reverse, position, sum_by, Bool, true, false, ◌&&◌, ◌||◌, Option, Some, None, nat_eq, nat_lt, nat_le, slice_get, if◌then◌else◌}
use Rattle.std.specs.List.{list_any, range_with_len}
use Rattle.code_forms.specs.declared.module_code.Arm.{Arm}
use Rattle.code_forms.specs.declared.module_code.Label.{Label}
use Rattle.code_forms.specs.declared.module_code.Label.TheVariants as l
use Rattle.code_forms.specs.declared.module_code.Phrase.{Phrase}
use Rattle.signaller.specs.declared.place.Place.{Place}
use Rattle.signaller.specs.declared.search.Found.{Found}
use Rattle.signaller.specs.declared.search.Found.TheVariants.{Arm as FoundArm, Beyond}
use Rattle.signaller.specs.declared.search.Links.{Links}
use Rattle.signaller.specs.declared.search.Search.{Search}
use Rattle.signaller.specs.declared.signal_id.SignalId.{SignalId}
use Rattle.signaller.specs.declared.signal_id.SignalId.TheVariants.{Own, BoundsFault, ZeroDivisor, NoInput, Unnamed}

-- the offset is in the range of the phrase, in the region of the arm
abbrev pub covers : Phrase → ℕ → Bool
covers p offset = nat_le p.from offset && nat_lt offset p.to

abbrev pub has : Arm → ℕ → Bool
has a offset = nat_le a.start offset && nat_lt offset a.end

-- what is asked of the phrase of a number, that may not be there
abbrev pub covers_in : Option Phrase → ℕ → Bool
covers_in None offset = false
covers_in (Some p) offset = covers p offset

abbrev pub from_of : Option Phrase → ℕ
from_of None = 0
from_of (Some p) = p.from

abbrev pub arms_of : Option Phrase → List Arm
arms_of None = []
arms_of (Some p) = p.arms

abbrev pub first_of : List ℕ → Option ℕ
first_of [] = None
first_of (n ∷ numbers) = Some n

-- the phrases that are enabled at an offset, among the first so many, innermost first: an inner one stands behind an outer one
abbrev pub enabled_before : List Phrase → ℕ → ℕ → List ℕ
enabled_before table count offset = filter (λ n. covers_in (slice_get table n) offset) (reverse (range_with_len 0 count))

abbrev pub enabled : List Phrase → ℕ → List ℕ
enabled table offset = enabled_before table (length table) offset

abbrev pub innermost_of : List Phrase → ℕ → Option ℕ
innermost_of table offset = first_of (enabled table offset)

-- the phrases to ask about an offset, among the first so many, innermost first. One that is enabled there is asked, and then those before
-- it about where it begins. Where the offset is in the region of an arm, a search that goes outward comes from the phrase that holds the
-- arm to those before it, about where that phrase begins
unfoldable pub around_at : Bool → ℕ → ℕ → (ℕ → List ℕ) → Option Phrase → List ℕ
around_at outward n offset before None = before offset
around_at outward n offset before (Some p) =
    if covers p offset then n ∷ before p.from
    else before (if outward && list_any (λ a. has a offset) p.arms then p.from else offset)

unfoldable pub around : Bool → List Phrase → ℕ → ℕ → List ℕ
around outward table zero offset = []
around outward table (suc n) offset = around_at outward n offset (around outward table n) (slice_get table n)

-- the phrases beyond one, about where it begins, and those from one on
abbrev pub beyond : Bool → List Phrase → ℕ → List ℕ
beyond outward table n = around outward table n (from_of (slice_get table n))

abbrev pub asked : Bool → List Phrase → Option ℕ → List ℕ
asked outward table None = []
asked outward table (Some n) = n ∷ beyond outward table n

-- the search that asks these phrases, and the one that begins at an offset
abbrev pub search_from : List ℕ → Search
search_from numbers = record { phrase = first_of numbers }

abbrev pub search_at : Bool → List Phrase → ℕ → Search
search_at outward table offset = search_from (around outward table (length table) offset)

-- the first of some phrases with an arm that fits, and its first such arm
abbrev pub place_at : ℕ → Option ℕ → Option Place → Option Place
place_at n None further = further
place_at n (Some arm) further = Some (record { phrase = n; arm = arm })

unfoldable pub first_place : (Arm → Bool) → List Phrase → List ℕ → Option Place
first_place fits table [] = None
first_place fits table (n ∷ numbers) = place_at n (position fits (arms_of (slice_get table n))) (first_place fits table numbers)

-- from a search on
abbrev pub next_place : Bool → (Arm → Bool) → List Phrase → Search → Option Place
next_place outward fits table search = first_place fits table (asked outward table search.phrase)

-- the arms of the phrases before one, as arms are numbered over the table
abbrev pub arms_before : List Phrase → ℕ → ℕ
arms_before table n = sum_by (λ p. length p.arms) (take n table)

-- the arm by its number over the table, with the search beyond its phrase
abbrev pub numbered : Bool → List Phrase → Option Place → Found
numbered outward table None = Beyond
numbered outward table (Some place) = FoundArm (arms_before table place.phrase + place.arm) (search_from (beyond outward table place.phrase))

-- the first arm that fits, from a search on
abbrev pub next : Bool → (Arm → Bool) → List Phrase → Search → Found
next outward fits table search = numbered outward table (next_place outward fits table search)

-- the signal that a label means, where an instance with these links reads it
abbrev pub linked : Option (Option SignalId) → Option SignalId
linked None = None
linked (Some signal) = signal

abbrev pub meant : Links → Label → Option SignalId
meant links l.Any = None
meant links l.Unwind = None
meant links (l.Own k) = Some (Own links.instance k)
meant links (l.Link k) = linked (slice_get links.signals k)
meant links l.BoundsFault = Some BoundsFault
meant links l.ZeroDivisor = Some ZeroDivisor

abbrev pub same_signal : SignalId → SignalId → Bool
same_signal (Own i k) (Own j n) = nat_eq i j && nat_eq k n
same_signal BoundsFault BoundsFault = true
same_signal ZeroDivisor ZeroDivisor = true
same_signal NoInput NoInput = true
same_signal Unnamed Unnamed = true
same_signal _ _ = false

abbrev pub is_meant : Option SignalId → SignalId → Bool
is_meant None signal = false
is_meant (Some one) signal = same_signal one signal

abbrev pub is_any : Label → Bool
is_any l.Any = true
is_any _ = false

abbrev pub is_unwind : Label → Bool
is_unwind l.Unwind = true
is_unwind _ = false

-- ANY fits each signal
abbrev pub label_fits : Links → SignalId → Label → Bool
label_fits links signal label = is_any label || is_meant (meant links label) signal

abbrev pub fits_signal : Links → SignalId → Arm → Bool
fits_signal links signal a = list_any (label_fits links signal) a.labels

abbrev pub fits_jump : Arm → Bool
fits_jump a = list_any is_unwind a.labels

-- a signal goes outward of arms; the passing of a jump stays in a region
abbrev pub next_arm : List Phrase → Search → Links → SignalId → Found
next_arm table search links signal = next true (fits_signal links signal) table search

abbrev pub unwind_next : List Phrase → Search → Found
unwind_next table search = next false fits_jump table search
