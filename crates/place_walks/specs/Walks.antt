-- Walks over places, which mark where they were.
use Rattle.std.specs.Prelude.{◌≡◌, ◌⊎◌, ℕ, ◌+◌, ◌*◌, ◌≤◌, List, length, sum_by, Contains, Bool, false, Option, Some, None, nat_eq, slice_get, if◌then◌else◌}
use Rattle.place_walks.specs.declared.place.Place.{Place}
use Rattle.place_walks.specs.declared.walk.Walk.{Walk}
use Rattle.place_walks.specs.Table.{cell}

-- the marks of a procedure are that of its end, and then those of its phrases
abbrev pub slot_of : Option ℕ → ℕ
slot_of None = 0
slot_of (Some k) = k + 1

abbrev pub mark_at : List (List (List ℕ)) → Place → Option ℕ
mark_at marks x = slice_get (cell marks x.instance x.procedure) (slot_of x.position)

abbrev pub IsThere : List (List (List ℕ)) → Place → Type 0
IsThere marks x = (mark : ℕ) × (mark_at marks x ≡ Some mark)

abbrev pub IsMarked : List (List (List ℕ)) → (round : ℕ) → Place → Type 0
IsMarked marks round x = mark_at marks x ≡ Some round

abbrev pub is_mark : (round : ℕ) → Option ℕ → Bool
is_mark round None = false
is_mark round (Some mark) = nat_eq mark round

-- how many marks are others
abbrev pub other : ℕ → ℕ → ℕ
other round mark = if nat_eq mark round then 0 else 1

abbrev pub others_of : (round : ℕ) → List (List (List ℕ)) → ℕ
others_of round marks = sum_by (sum_by (sum_by (other round))) marks

-- what is left to do
abbrev pub left_of : (round : ℕ) → Walk → ℕ
left_of round walk = 2 * others_of round walk.marks + length walk.work.items

-- a walk came to the places of which P is true, and to no others
pub record Visits (round : ℕ) (P : Place → Type 0) (old new : Walk) : Type 0 where
  pub there : (x : Place) → IsThere old.marks x → IsThere new.marks x
  pub kept : (x : Place) → IsMarked old.marks round x → IsMarked new.marks round x
  pub added : (x : Place) → IsMarked new.marks round x → IsMarked old.marks round x ⊎ P x
  pub done : (x : Place) → P x → IsThere old.marks x → IsMarked new.marks round x
  pub work_kept : (x : Place) → Contains old.work.items x → Contains new.work.items x
  pub work_new : (x : Place) → IsMarked new.marks round x → IsMarked old.marks round x ⊎ Contains new.work.items x
  pub work_marked : (x : Place) → Contains new.work.items x → Contains old.work.items x ⊎ IsMarked new.marks round x
  pub rounds : (x : Place) (mark : ℕ) → mark_at new.marks x ≡ Some mark → (mark_at old.marks x ≡ Some mark) ⊎ (mark ≡ round)
  pub less : left_of round new ≤ left_of round old
