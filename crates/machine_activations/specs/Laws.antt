-- What the run of the topmost activation over the region is for the machine (rule of this project).
use Rattle.std.specs.Prelude.{◌≡◌, ℕ, ◌+◌, List, length, Some}
use Rattle.code_forms.specs.declared.module_code.CodeProcedure.{CodeProcedure}
use Rattle.code_forms.specs.declared.module_code.ModuleCode.{ModuleCode}
use Rattle.object_files.specs.declared.image.Image.{Image}
use Rattle.machine_rules.specs.State.{Active, Activations, Store}
use Rattle.machine_rules.specs.LookUps.{module_number, code_of, text_of}
use Rattle.machine_topmost.specs.declared.registers.Registers.{Registers}
use Rattle.machine_topmost.specs.declared.registers.Why.{Why}
use Rattle.machine_topmost.specs.Flat.{Flat}
use Rattle.machine_topmost.specs.Running.{HasTargets, FlatPauses}
use Rattle.machine_activations.specs.declared.row.Layout.{Layout}
use Rattle.machine_activations.specs.declared.row.Row.{Row}
use Rattle.machine_activations.specs.Shows.{IsPrepared, IsAmple, Shows}
use Rattle.machine_activations.specs.Reaching.{Comes}

-- where activations are shown, and the run of the topmost one pauses so many instructions later, the machine comes to where these
-- activations are shown, with these turns and globals, and does there what the pause says
abbrev pub RunsAsDefined : Type 0
RunsAsDefined = (image : Image) (layout : Layout) → IsPrepared image layout
    → (region : List ℕ) (table : List Row) (r : Registers) → IsAmple layout region table r.top
    → (p : CodeProcedure) (a : Active) (S : Activations) → Shows image layout region table r p a S
    → (code : ModuleCode) (number : ℕ) → code_of image a.instance ≡ Some code → module_number image a.instance ≡ Some number
    → (targets : List ℕ) → HasTargets p.code targets
    → (m : Store) → length (m.globals a.instance) ≡ code.global_words
    → (begun : ℕ) (why : Why) (u : Flat)
    → FlatPauses (text_of image) number p.code targets (record { region = region; globals = m.globals a.instance; registers = r; turns = m.turns }) begun why u
    → (before : ℕ) × (begun ≡ before + 1) × Comes image layout table p a S m before why u
