-- What the run over the region is for (rule of this project).
use Rattle.std.specs.Prelude.{◌≡◌, ℕ, List, length, false, Some, slice_get}
use Rattle.code_forms.specs.declared.module_code.CodeEntry.{CodeEntry}
use Rattle.code_forms.specs.declared.module_code.CodeProcedure.{CodeProcedure}
use Rattle.code_forms.specs.declared.module_code.ModuleCode.{ModuleCode}
use Rattle.code_forms.specs.Valid.{Valid, HasDepths}
use Rattle.machine_rules.specs.Working.{works}
use Rattle.machine_topmost.specs.Flat.{Flat}
use Rattle.machine_topmost.specs.Running.{IsProcedureOf, Standing, flat_at}
use Rattle.machine_topmost.specs.Shown.{work_shown, worked_shown, jumps_within}

-- in valid code, where the registers stand as they must: an instruction that is no jump makes of the region what the machine's definition
-- makes of the operands, variables and globals that the region shows, or faults as it does, or touches more as it does
abbrev pub WorksAsDefined : Type 0
WorksAsDefined = (m : ModuleCode) (p : CodeProcedure) → Valid m → HasDepths m → IsProcedureOf m p
    → (texts : ℕ → ℕ → List ℕ) (number floor : ℕ) (targets : List ℕ) (s : Flat) (e : CodeEntry)
    → Standing m p (length s.region) (length s.globals) floor s.registers
    → slice_get p.code s.registers.entry ≡ Some e → jumps_within e.instruction ≡ false
    → works texts number e.instruction (work_shown p.frame floor s) ≡ worked_shown p.frame floor (flat_at texts number targets e s)
