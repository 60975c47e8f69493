-- A table with a range in another, and ranges in the regions of arms: which phrases are asked, and which arm is found.
use Rattle.std.specs.Prelude.{◌≡◌, refl, ℕ, List, [], ◌∷◌, length, map, Bool, true, false, Option, Some, None}
use Rattle.code_forms.specs.declared.module_code.Arm.{Arm}
use Rattle.code_forms.specs.declared.module_code.Label.{Label}
use Rattle.code_forms.specs.declared.module_code.Label.TheVariants as l
use Rattle.code_forms.specs.declared.module_code.Phrase.{Phrase}
use Rattle.signaller.specs.declared.search.Found.{Found}
use Rattle.signaller.specs.declared.search.Found.TheVariants.{Arm as FoundArm, Beyond}
use Rattle.signaller.specs.declared.search.Links.{Links}
use Rattle.signaller.specs.declared.search.Search.{Search}
use Rattle.signaller.specs.declared.signal_id.SignalId.{SignalId}
use Rattle.signaller.specs.declared.signal_id.SignalId.TheVariants.{Own, BoundsFault, NoInput, Unnamed}
use Rattle.signaller.specs.Search as s

abbrev arm : ℕ → ℕ → List Label → Arm
arm start end labels = record { labels = labels; slot = 0; words = 0; start = start; end = end }

abbrev range : ℕ → ℕ → List Arm → Phrase
range from to arms = record { from = from; to = to; arms = arms }

-- the body is from 0 to 100, and arms 0 to 4 are behind it: range 1 is in range 0, range 2 in arm 0, range 3 in arm 2
abbrev table : List Phrase
table =
    range 10 60 (arm 100 120 (l.Own 0 ∷ []) ∷ arm 120 140 (l.Any ∷ []) ∷ [])
    ∷ range 20 40 (arm 140 170 (l.Own 1 ∷ l.Unwind ∷ []) ∷ [])
    ∷ range 105 115 (arm 170 200 (l.Link 0 ∷ []) ∷ [])
    ∷ range 150 160 (arm 200 220 (l.Unwind ∷ []) ∷ []) ∷ []

-- instance 7, whose link 0 is bound to signal 4 of instance 3, and link 1 to a procedure
abbrev links : Links
links = record { instance = 7; signals = Some (Own 3 4) ∷ None ∷ [] }

abbrev from : Option ℕ → Search
from phrase = record { phrase = phrase }

around : Bool → ℕ → List ℕ
unfolding s.around_at s.around
around outward offset = s.around outward table (length table) offset

begin : Bool → ℕ → Option ℕ
unfolding s.around_at s.around
begin outward offset = (s.search_at outward table offset).phrase

next : Option ℕ → SignalId → Found
unfolding s.around_at s.around s.first_place
next phrase signal = s.next_arm table (from phrase) links signal

unwind : Option ℕ → Found
unfolding s.around_at s.around s.first_place
unwind phrase = s.unwind_next table (from phrase)

-- innermost first, where ranges begin and end
in_the_body : map (s.enabled table) (5 ∷ 10 ∷ 19 ∷ 20 ∷ 39 ∷ 40 ∷ 59 ∷ 60 ∷ [])
    ≡ [] ∷ (0 ∷ []) ∷ (0 ∷ []) ∷ (1 ∷ 0 ∷ []) ∷ (1 ∷ 0 ∷ []) ∷ (0 ∷ []) ∷ (0 ∷ []) ∷ [] ∷ []
in_the_body = refl

in_arms : map (s.enabled table) (104 ∷ 105 ∷ 114 ∷ 115 ∷ 145 ∷ 155 ∷ 210 ∷ []) ≡ [] ∷ (2 ∷ []) ∷ (2 ∷ []) ∷ [] ∷ [] ∷ (3 ∷ []) ∷ [] ∷ []
in_arms = refl

-- in a region alone; outward of arm 2, at 145, comes range 0, and outward of arm 4, which is in arm 2, the same
inside : map (around false) (30 ∷ 110 ∷ 145 ∷ 155 ∷ 210 ∷ []) ≡ (1 ∷ 0 ∷ []) ∷ (2 ∷ []) ∷ [] ∷ (3 ∷ []) ∷ [] ∷ []
unfolding around
inside = refl

outward : map (around true) (30 ∷ 110 ∷ 145 ∷ 155 ∷ 210 ∷ 180 ∷ []) ≡ (1 ∷ 0 ∷ []) ∷ (2 ∷ []) ∷ (0 ∷ []) ∷ (3 ∷ 0 ∷ []) ∷ (0 ∷ []) ∷ [] ∷ []
unfolding around
outward = refl

-- a search that begins in the region of an arm
begins : begin false 145 ∷ begin true 145 ∷ begin false 155 ∷ begin true 155 ∷ begin true 210 ∷ begin true 130 ∷ [] ≡ None ∷ Some 0 ∷ Some 3 ∷ Some 3 ∷ Some 0 ∷ None ∷ []
unfolding begin
begins = refl

-- from 30 the inner phrase is asked first; ANY takes what no label before it does, of another instance too
signals : map (next (Some 1)) (Own 7 1 ∷ Own 7 0 ∷ Own 8 1 ∷ BoundsFault ∷ NoInput ∷ Unnamed ∷ [])
    ≡ FoundArm 2 (from (Some 0)) ∷ FoundArm 0 (from None) ∷ FoundArm 1 (from None) ∷ FoundArm 1 (from None) ∷ FoundArm 1 (from None) ∷ FoundArm 1 (from None) ∷ []
unfolding next
signals = refl

-- in arm 0 range 2 alone is asked, whose label is a link
linked : next (Some 2) (Own 3 4) ∷ next (Some 2) (Own 3 5) ∷ next (Some 2) (Own 7 0) ∷ next None (Own 3 4) ∷ [] ≡ FoundArm 3 (from None) ∷ Beyond ∷ Beyond ∷ Beyond ∷ []
unfolding next
linked = refl

-- UNWIND is for no signal: from range 3 the search goes on outward of arm 2, beyond range 1, which holds that arm
past_arms : next (Some 3) (Own 7 1) ∷ next (Some 3) (Own 7 0) ∷ [] ≡ FoundArm 1 (from None) ∷ FoundArm 0 (from None) ∷ []
unfolding next
past_arms = refl

-- the search for UNWIND ends with the region of range 3; ANY is not for it
unwinds : map unwind (Some 3 ∷ Some 2 ∷ Some 1 ∷ Some 0 ∷ None ∷ []) ≡ FoundArm 4 (from None) ∷ Beyond ∷ FoundArm 2 (from (Some 0)) ∷ Beyond ∷ Beyond ∷ []
unfolding unwind
unwinds = refl
