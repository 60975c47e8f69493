-- Where the jumps go that stay in their activation (rule of this project).
use Rattle.std.specs.Prelude.{◌≡◌, ℕ, ◌⊎◌, List, All, Some}
use Rattle.code_forms.specs.declared.instruction.Instruction.{Instruction}
use Rattle.code_forms.specs.declared.module_code.CodeEntry.{CodeEntry}
use Rattle.code_forms.specs.Depths.{forward_target, backward_target}
use Rattle.code_forms.specs.Routine.{IsStart, spots}

abbrev pub JumpsTo : Instruction → ℕ → Type 0
JumpsTo i offset = (forward_target i ≡ Some offset) ⊎ (backward_target i ≡ Some offset)

-- each goes to the beginning of an instruction
abbrev pub JumpsToStarts : List CodeEntry → Type 0
JumpsToStarts code = All (λ (e : CodeEntry). (offset : ℕ) → JumpsTo e.instruction offset → IsStart (spots code) offset) code
