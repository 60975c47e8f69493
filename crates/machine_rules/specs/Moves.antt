-- The few ways in which an activation goes on, and how turns and activations are counted (rules of this project). Nothing else spends a
-- turn or makes an activation.
use Rattle.std.specs.Prelude.{ℕ, zero, suc, ◌+◌, List, [], ◌∷◌, length, Option, Some, None, nat_lt, if◌then◌else◌}
use Rattle.code_forms.specs.mesa_base.specs.declared.limits.TheConstants.{ACTIVATIONS}
use Rattle.code_forms.specs.declared.instruction.Instruction.{Instruction}
use Rattle.code_forms.specs.Instructions.{bytes_of}
use Rattle.object_files.specs.declared.image.Image.{Image}
use Rattle.machine_rules.specs.declared.end.End.TheVariants.{Spent, FrameLimit}
use Rattle.machine_rules.specs.Words.{push, under}
use Rattle.machine_rules.specs.State.{Active, Activations, Store, Runs, Ended, Stuck, Stepped, Goes, Stops}
use Rattle.machine_rules.specs.LookUps.{instruction_under}

-- goes on with what is there
unfoldable pub with : {A : Type 0} → Option A → Store → (A → Stepped) → Stepped
with None m k = Stops Stuck m
with (Some x) m k = k x

-- a turn is spent, or none is left
unfoldable pub spend_of : ℕ → Store → (Store → Stepped) → Stepped
spend_of zero m k = Stops (Ended Spent) m
spend_of (suc turns) m k = k (record m { turns = turns })

unfoldable pub spend : Store → (Store → Stepped) → Stepped
spend m k = spend_of m.turns m k

-- one activation more, unless there are as many as may be
abbrev pub limit : ℕ
limit = ACTIVATIONS

unfoldable pub enter : Active → Activations → Store → Stepped
enter a S m = if nat_lt (length S) limit then Goes (Runs (a ∷ S) m) else Stops (Ended FrameLimit) m

-- the topmost activation goes on behind an instruction with these operands
unfoldable pub onward : Instruction → List ℕ → Active → Activations → Store → Stepped
onward i operands a S m = Goes (Runs (record a { offset = a.offset + bytes_of i; operands = operands } ∷ S) m)

-- or at an offset
unfoldable pub go_to : ℕ → List ℕ → Active → Activations → Store → Stepped
go_to target operands a S m = Goes (Runs (record a { offset = target; operands = operands } ∷ S) m)

-- the topmost activation is given words in the place of so many operands, and goes on behind the instruction for which it waited
unfoldable pub give : Image → ℕ → List ℕ → Activations → Store → Stepped
give image n words [] m = Stops Stuck m
give image n words (a ∷ S) m = with (instruction_under image a) m λ i. onward i (push words (under n a.operands)) a S m
