-- Valid code has no fault, and code that is not valid has one first fault (rule of this project).
use Rattle.std.specs.Prelude.{◌≡◌, ℕ}
use Rattle.code_forms.specs.declared.bad_code.BadCode.{BadCode}
use Rattle.code_forms.specs.declared.module_code.ModuleCode.{ModuleCode}
use Rattle.code_forms.specs.Depths.{Settled}
use Rattle.code_forms.specs.Routine.{Routine}
use Rattle.code_forms.specs.Valid.{Valid, IsFirstFault}

-- valid code has no first fault
abbrev pub NoFaultOfValid : Type 0
NoFaultOfValid = (m : ModuleCode) (bad : BadCode) → Valid m → IsFirstFault m bad → ⊥

-- code has one first fault at most
abbrev pub OneFirstFault : Type 0
OneFirstFault = (m : ModuleCode) (a b : BadCode) → IsFirstFault m a → IsFirstFault m b → a ≡ b

-- the depth before an instruction is one, on every way to it
abbrev pub OneDepth : Type 0
OneDepth = (r : Routine) (i a b : ℕ) → Settled r i a → Settled r i b → a ≡ b
