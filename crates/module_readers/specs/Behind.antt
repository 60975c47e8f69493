-- What stands behind the number of an instruction.
use Rattle.std.specs.Prelude.{ℕ, ◌≤◌, List}
use Rattle.code_forms.specs.declared.instruction.Instruction.{Instruction}
use Rattle.file_forms.specs.Forms.{Form, built}
use Rattle.object_rules.specs.Instructions.{operands_of, instruction_of, numbers}

-- the instruction with this number, by operands of these sizes
unfoldable pub behind : List ℕ → ℕ → Form Instruction
behind sizes op = built (λ ns. instruction_of (op, ns)) operands_of (numbers sizes)

-- there is such an instruction
abbrev pub IsNumber : ℕ → Type 0
IsNumber op = (1 ≤ op) × (op ≤ 61)
