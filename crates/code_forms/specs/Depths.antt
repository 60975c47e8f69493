-- How many words the operand stack has before each instruction (rule of this project).
use Rattle.std.specs.Prelude.{◌≡◌, ℕ, ◌+◌, ◌-◌, ◌<◌, ◌≤◌, ◌⊎◌, List, length, Bool, true, false, Option, Some, None, slice_get, IsTrue}
use Rattle.code_forms.specs.declared.instruction.Instruction.{Instruction}
use Rattle.code_forms.specs.declared.instruction.Instruction.TheVariants.{Jump, JumpIf, JumpIfNot, JumpBack, Return, Leave}
use Rattle.code_forms.specs.declared.module_code.CodeEntry.{CodeEntry}
use Rattle.code_forms.specs.Instructions.{bytes_of}
use Rattle.code_forms.specs.Routine.{Routine, Spot, Begins, moves, goes_on}
use Rattle.code_forms.specs.Regions.{region_at}

-- the words after an instruction: first it takes, then it puts
abbrev pub depth_after : Routine → Instruction → ℕ → ℕ
depth_after r i depth = depth - (moves r i).takes + (moves r i).puts

-- the target of a forward jump, of a jump backward, of a jump out of arms
abbrev pub forward_target : Instruction → Option ℕ
forward_target (Jump target) = Some target
forward_target (JumpIf target) = Some target
forward_target (JumpIfNot target) = Some target
forward_target _ = None

abbrev pub backward_target : Instruction → Option ℕ
backward_target (JumpBack target) = Some target
backward_target _ = None

abbrev pub outward_target : Instruction → Option ℕ
outward_target (Leave arms target) = Some target
outward_target _ = None

abbrev pub is_return : Instruction → Bool
is_return Return = true
is_return _ = false

-- a jump to such a target leads to the instruction of this number
pub record Reaches (code : List Spot) (target : Option ℕ) (j : ℕ) : Type 0 where
  pub offset : ℕ
  pub is : target ≡ Some offset
  pub begins : Begins code j offset

-- an instruction leads to a later one by going on or by a forward jump
pub record Leads (r : Routine) (i j : ℕ) : Type 0 where
  pub spot : Spot
  pub is : slice_get r.code i ≡ Some spot
  pub later : i < j
  pub way : ((j ≡ i + 1) × IsTrue (goes_on r spot.instruction)) ⊎ Reaches r.code (forward_target spot.instruction) j

-- the depth before an instruction: 0 where no earlier one leads to it; else what the first that does leaves
pub data Settled (r : Routine) : ℕ → ℕ → Type 0 where
  at_none : (i : ℕ) → ((j : ℕ) → Leads r j i → ⊥) → Settled r i 0
  at_first : (i j depth : ℕ) (spot : Spot) → slice_get r.code j ≡ Some spot → Leads r j i → ((k : ℕ) → k < j → Leads r k i → ⊥)
      → Settled r j depth → Settled r i (depth_after r spot.instruction depth)

-- the words that an instruction takes are there, and there is room for those that it puts
pub record DepthFits (r : Routine) (i : Instruction) (depth : ℕ) : Type 0 where
  pub enough : (moves r i).takes ≤ depth
  pub room : depth_after r i depth ≤ r.room

-- on each way to an instruction the depth is the same
abbrev pub AgreesOnward : Routine → ℕ → ℕ → Type 0
AgreesOnward r i after = (j settled : ℕ) → Leads r i j → Settled r j settled → after ≡ settled

abbrev pub AgreesAt : Routine → Option ℕ → ℕ → Type 0
AgreesAt r target depth = (j settled : ℕ) → Reaches r.code target j → Settled r j settled → depth ≡ settled

-- what goes on does not end its region
abbrev pub Stays : Routine → ℕ → Spot → Type 0
Stays r i spot = IsTrue (goes_on r spot.instruction) →
    (i + 1 < length r.code) × (region_at r.phrases (spot.at + bytes_of spot.instruction) ≡ region_at r.phrases spot.at)

-- the rules on the operand stack, for an instruction with this number and this depth before it
pub record StackIsRight (r : Routine) (i : ℕ) (spot : Spot) (depth : ℕ) : Type 0 where
  pub fits : DepthFits r spot.instruction depth
  pub returns : IsTrue (is_return spot.instruction) → depth ≡ 0
  pub stays : Stays r i spot
  pub onward : AgreesOnward r i (depth_after r spot.instruction depth)
  pub backward : AgreesAt r (backward_target spot.instruction) (depth_after r spot.instruction depth)
  -- a jump out of arms finds no words
  pub outward : AgreesAt r (outward_target spot.instruction) 0

-- each instruction has its depth beside it
abbrev pub DepthsAreSettled : Routine → List CodeEntry → Type 0
DepthsAreSettled r code = (i : ℕ) (e : CodeEntry) → slice_get code i ≡ Some e → Settled r i e.depth
