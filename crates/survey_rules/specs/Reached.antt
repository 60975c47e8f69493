-- Which instructions of a procedure may be reached, as far as its code alone tells (rule of this project).
use Rattle.std.specs.Prelude.{◌≡◌, ℕ, ◌+◌, ◌<◌, ◌≤◌, true, Some, slice_get}
use Rattle.code_forms.specs.declared.instruction.Instruction.{Instruction}
use Rattle.code_forms.specs.declared.instruction.Instruction.TheVariants.{Jump, JumpIf, JumpIfNot, JumpBack, Leave}
use Rattle.code_forms.specs.declared.module_code.Arm.{Arm}
use Rattle.code_forms.specs.declared.module_code.CodeProcedure.{CodeProcedure}
use Rattle.code_forms.specs.declared.module_code.ModuleCode.{ModuleCode}
use Rattle.code_forms.specs.declared.module_code.Phrase.{Phrase}
use Rattle.code_forms.specs.Instructions.{bytes_of}
use Rattle.code_forms.specs.Routine.{routine, goes_on}
use Rattle.signaller.specs.Search.{covers}
use Rattle.machine_rules.specs.LookUps.{instruction_at}

-- where a jump leads, also one out of arms
abbrev pub LeadsTo : Instruction → (target : ℕ) → Type 0
LeadsTo (Jump goal) target = goal ≡ target
LeadsTo (JumpIf goal) target = goal ≡ target
LeadsTo (JumpIfNot goal) target = goal ≡ target
LeadsTo (JumpBack goal) target = goal ≡ target
LeadsTo (Leave arms goal) target = goal ≡ target
LeadsTo _ target = ⊥

-- the offset 0; what comes behind an instruction that goes on; where a jump leads; the start of each arm of a phrase in whose range an instruction is
-- reached
pub data Reached (m : ModuleCode) (p : CodeProcedure) : ℕ → Type 0 where
  first : Reached m p 0
  onward : (at : ℕ) (i : Instruction) → Reached m p at → instruction_at p.code at ≡ Some i → goes_on (routine m p) i ≡ true → Reached m p (at + bytes_of i)
  jumped : (at target : ℕ) (i : Instruction) → Reached m p at → instruction_at p.code at ≡ Some i → LeadsTo i target → Reached m p target
  in_arm : (at n k : ℕ) (i : Instruction) (phrase : Phrase) (arm : Arm) → Reached m p at → instruction_at p.code at ≡ Some i
      → slice_get p.phrases n ≡ Some phrase → covers phrase at ≡ true → slice_get phrase.arms k ≡ Some arm → Reached m p arm.start

-- an instruction that is reached
pub record Stands (m : ModuleCode) (p : CodeProcedure) (at : ℕ) (i : Instruction) : Type 0 where
  pub reached : Reached m p at
  pub is : instruction_at p.code at ≡ Some i

-- one of an arm: between its start and its end
pub record StandsIn (m : ModuleCode) (p : CodeProcedure) (arm : Arm) (i : Instruction) : Type 0 where
  pub at : ℕ
  pub stands : Stands m p at i
  pub behind : arm.start ≤ at
  pub before : at < arm.end
