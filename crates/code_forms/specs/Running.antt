-- What a machine finds at each instruction of valid code, so that it need not test (rule of this project).
use Rattle.std.specs.Prelude.{◌≡◌, ℕ, ◌+◌, ◌≤◌, Some, slice_get, IsTrue}
use Rattle.code_forms.specs.declared.module_code.CodeEntry.{CodeEntry}
use Rattle.code_forms.specs.declared.module_code.CodeProcedure.{CodeProcedure}
use Rattle.code_forms.specs.declared.module_code.ModuleCode.{ModuleCode}
use Rattle.code_forms.specs.Depths.{depth_after, forward_target, backward_target, outward_target, is_return, Reaches}
use Rattle.code_forms.specs.Jumps.{JumpsRightly}
use Rattle.code_forms.specs.Operands.{OperandsAreRight}
use Rattle.code_forms.specs.Routine.{Routine, moves, goes_on, routine, spot_of}
use Rattle.code_forms.specs.Valid.{Valid, HasDepths}

-- at the instruction of this number with its depth: the words that it takes are there and there is room for those that it puts; where it
-- goes on, the next one is there with the depth that it leaves; a jump leads to an instruction with that depth, a jump out of arms
-- with 0; its operands are in range
pub record EntryRuns (r : Routine) (p : CodeProcedure) (i : ℕ) (e : CodeEntry) : Type 0 where
  pub enough : (moves r e.instruction).takes ≤ e.depth
  pub room : depth_after r e.instruction e.depth ≤ r.room
  pub next : IsTrue (goes_on r e.instruction) → (f : CodeEntry) × (slice_get p.code (i + 1) ≡ Some f) × (f.depth ≡ depth_after r e.instruction e.depth)
  pub forward : (j : ℕ) (f : CodeEntry) → i + 1 ≤ j → Reaches r.code (forward_target e.instruction) j → slice_get p.code j ≡ Some f
      → f.depth ≡ depth_after r e.instruction e.depth
  pub backward : (j : ℕ) (f : CodeEntry) → Reaches r.code (backward_target e.instruction) j → slice_get p.code j ≡ Some f
      → f.depth ≡ depth_after r e.instruction e.depth
  pub outward : (j : ℕ) (f : CodeEntry) → Reaches r.code (outward_target e.instruction) j → slice_get p.code j ≡ Some f → f.depth ≡ 0
  pub returns : IsTrue (is_return e.instruction) → e.depth ≡ 0
  pub jump : JumpsRightly r e.at e.instruction
  pub operands : OperandsAreRight r (spot_of e)

-- so it is at each instruction of each procedure of valid code
abbrev pub RunsInRange : Type 0
RunsInRange = (m : ModuleCode) → Valid m → HasDepths m → (n : ℕ) (p : CodeProcedure) → slice_get m.procedures n ≡ Some p
    → (i : ℕ) (e : CodeEntry) → slice_get p.code i ≡ Some e → EntryRuns (routine m p) p i e
