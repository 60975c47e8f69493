-- Where jumps may lead (rule of this project).
use Rattle.std.specs.Prelude.{◌≡◌, ℕ, ◌<◌, ◌≤◌, Some}
use Rattle.code_forms.specs.declared.instruction.Instruction.{Instruction}
use Rattle.code_forms.specs.declared.instruction.Instruction.TheVariants.{Jump, JumpIf, JumpIfNot, JumpBack, Leave, LeaveReturn}
use Rattle.code_forms.specs.Routine.{Routine, IsStart}
use Rattle.code_forms.specs.declared.region.Region.TheVariants.{Body}
use Rattle.code_forms.specs.Regions.{region_at, outward}

-- to an instruction of the same region, after this one
pub record GoesForward (r : Routine) (at target : ℕ) : Type 0 where
  pub start : IsStart r.code target
  pub region : region_at r.phrases target ≡ region_at r.phrases at
  pub after : at < target

-- to an instruction of the same region, this one or one before it
pub record GoesBack (r : Routine) (at target : ℕ) : Type 0 where
  pub start : IsStart r.code target
  pub region : region_at r.phrases target ≡ region_at r.phrases at
  pub before : target ≤ at

-- out of at least one arm, to an instruction of the region outward of them
pub record GoesOut (r : Routine) (at arms target : ℕ) : Type 0 where
  pub start : IsStart r.code target
  pub some : 1 ≤ arms
  pub region : outward r.phrases arms (region_at r.phrases at) ≡ Some (region_at r.phrases target)

-- out of at least one arm, outward of which is the body
pub record ReturnsOut (r : Routine) (at arms : ℕ) : Type 0 where
  pub some : 1 ≤ arms
  pub region : outward r.phrases arms (region_at r.phrases at) ≡ Some Body

-- the instruction at an offset leads where it may
abbrev pub JumpsRightly : Routine → ℕ → Instruction → Type 0
JumpsRightly r at (Jump target) = GoesForward r at target
JumpsRightly r at (JumpIf target) = GoesForward r at target
JumpsRightly r at (JumpIfNot target) = GoesForward r at target
JumpsRightly r at (JumpBack target) = GoesBack r at target
JumpsRightly r at (Leave arms target) = GoesOut r at arms target
JumpsRightly r at (LeaveReturn arms) = ReturnsOut r at arms
JumpsRightly r at _ = Unit {0}
