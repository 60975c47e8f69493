-- What the run of the topmost activation stands on, and where it pauses (rule of this project).
use Rattle.std.specs.Prelude.{◌≡◌, ℕ, ◌+◌, ◌<◌, ◌≤◌, ◌⊎◌, List, length, Some, slice_get, slice_index}
use Rattle.code_forms.specs.declared.module_code.CodeEntry.{CodeEntry}
use Rattle.code_forms.specs.declared.module_code.CodeProcedure.{CodeProcedure}
use Rattle.code_forms.specs.declared.module_code.ModuleCode.{ModuleCode}
use Rattle.code_forms.specs.Depths.{forward_target, backward_target}
use Rattle.code_forms.specs.Routine.{Begins, spots}
use Rattle.machine_topmost.specs.declared.registers.Registers.{Registers}
use Rattle.machine_topmost.specs.declared.registers.Why.{Why}
use Rattle.machine_topmost.specs.Flat.{Flat, Flowed, Went, Paused, flat}

-- beside each entry stands the number of the entry to which it jumps
pub record HasTargets (code : List CodeEntry) (targets : List ℕ) : Type 0 where
  pub beside : length targets ≡ length code
  pub lead : (i offset : ℕ) (e : CodeEntry) → slice_get code i ≡ Some e
      → (forward_target e.instruction ≡ Some offset) ⊎ (backward_target e.instruction ≡ Some offset) → Begins (spots code) (slice_index targets i) offset

-- a procedure of the module
abbrev pub IsProcedureOf : ModuleCode → CodeProcedure → Type 0
IsProcedureOf m p = (number : ℕ) × (slice_get m.procedures number ≡ Some p)

-- the registers stand at an entry with the operands that it has, which begin at the floor behind the variables; the region has room
-- for as many operands as may be, and the globals are those of the module
pub record Standing (m : ModuleCode) (p : CodeProcedure) (region globals floor : ℕ) (r : Registers) : Type 0 where
  pub within : r.entry < length p.code
  pub deep : (e : CodeEntry) → slice_get p.code r.entry ≡ Some e → r.sp ≡ floor + e.depth
  pub apart : r.slots + p.frame ≤ floor
  pub roomy : floor + p.depth ≤ region
  pub all_globals : globals ≡ m.global_words

-- the instruction of an entry, in a module of this number
abbrev pub flat_at : (texts : ℕ → ℕ → List ℕ) → (number : ℕ) → List ℕ → CodeEntry → Flat → Flowed
flat_at texts number targets e s = flat texts number e.instruction (slice_index targets s.registers.entry) s

-- so many instructions later
pub data FlatRuns (texts : ℕ → ℕ → List ℕ) (number : ℕ) (code : List CodeEntry) (targets : List ℕ) (s : Flat) : ℕ → Flat → Type 0 where
  here : FlatRuns texts number code targets s 0 s
  later : (n : ℕ) (t : Flat) (e : CodeEntry) (u : Flat) → FlatRuns texts number code targets s n t → slice_get code t.registers.entry ≡ Some e
      → flat_at texts number targets e t ≡ Went u → FlatRuns texts number code targets s (n + 1) u

-- so many instructions later it pauses at one, which is begun too
pub record FlatPauses (texts : ℕ → ℕ → List ℕ) (number : ℕ) (code : List CodeEntry) (targets : List ℕ)
    (s : Flat) (begun : ℕ) (why : Why) (u : Flat) : Type 0 where
  pub before : ℕ
  pub runs : FlatRuns texts number code targets s before u
  pub entry : CodeEntry
  pub fetched : slice_get code u.registers.entry ≡ Some entry
  pub pauses : flat_at texts number targets entry u ≡ Paused why
  pub counted : begun ≡ before + 1
