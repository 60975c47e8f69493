-- What stands beside the instructions while their depths are being settled (rule of this project).
use Rattle.std.specs.Prelude.{◌≡◌, ℕ, ◌<◌, ◌≤◌, ◌⊎◌, List, length, Option, Some, None, slice_get, slice_set, slice_index_or, nat_eq, if◌then◌else◌}
use Rattle.code_forms.specs.declared.module_code.CodeEntry.{CodeEntry}
use Rattle.code_forms.specs.Depths.{Leads, Settled}
use Rattle.code_forms.specs.Routine.{Routine}

-- the number that no depth is
abbrev pub unsettled : ℕ
unsettled = 4294967295

-- the first so many have their depths; any other has it where one of the first `count` instructions leads to it
pub record IsMarked (r : Routine) (settled count k place : ℕ) : Type 0 where
  pub done : k < settled → Settled r k place
  pub ahead : settled ≤ k → ((place ≡ unsettled) × ((j : ℕ) → j < count → Leads r j k → ⊥)) ⊎ ((place < unsettled) × Settled r k place)

abbrev pub Marked : Routine → ℕ → ℕ → List CodeEntry → Type 0
Marked r settled count code = (k : ℕ) (d : CodeEntry) → k < length code → IsMarked r settled count k (slice_index_or code k d).depth

-- these are all to which an instruction leads
pub record LeadsTo (r : Routine) (i : ℕ) (next target : Option ℕ) : Type 0 where
  pub next_led : (j : ℕ) → next ≡ Some j → Leads r i j × (j < length r.code)
  pub target_led : (j : ℕ) → target ≡ Some j → Leads r i j × (j < length r.code)
  pub all : (j : ℕ) → Leads r i j → (next ≡ Some j) ⊎ (target ≡ Some j)

-- a depth is written beside an instruction that has none yet
abbrev pub settled_entry : List CodeEntry → ℕ → ℕ → Option CodeEntry → List CodeEntry
settled_entry code j depth None = code
settled_entry code j depth (Some e) =
    if nat_eq e.depth unsettled then slice_set code j (record { at = e.at; depth = depth; instruction = e.instruction }) else code

abbrev pub settled_at : List CodeEntry → Option ℕ → ℕ → List CodeEntry
settled_at code None depth = code
settled_at code (Some j) depth = settled_entry code j depth (slice_get code j)
