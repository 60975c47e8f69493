-- Where an activation stands in the region, in which each place has a part (rule of this project). The operand pushed last stands last.
use Rattle.std.specs.Prelude.{◌≡◌, ℕ, ◌+◌, ◌*◌, ◌≤◌, List, length, reverse, Some}
use Rattle.code_forms.specs.declared.module_code.CodeProcedure.{CodeProcedure}
use Rattle.object_files.specs.declared.image.Image.{Image}
use Rattle.machine_rules.specs.State.{Role, Frame, InArm, Active}
use Rattle.machine_rules.specs.LookUps.{procedure_of}
use Rattle.machine_topmost.specs.Flat.{part}
use Rattle.machine_activations.specs.declared.row.Layout.{Layout}

-- where the variables of a place begin, and where its operands do
abbrev pub slots_from : Layout → (place : ℕ) → ℕ
slots_from layout q = q * layout.part

abbrev pub floor_at : Layout → (place : ℕ) → ℕ
floor_at layout q = q * layout.part + layout.frame

-- a part has room for each procedure of the image
abbrev pub IsLaidOut : Image → Layout → Type 0
IsLaidOut image layout =
    (j n : ℕ) (p : CodeProcedure) → procedure_of image j n ≡ Some p → (p.frame ≤ layout.frame) × (layout.frame + p.depth ≤ layout.part)

-- the words from a place on are the variables of a frame with so many; an arm has none of its own
unfoldable pub HasVariables : List ℕ → (at frame : ℕ) → Role (List ℕ) → Type 0
HasVariables region at frame (Frame variables) = part region at frame ≡ variables
HasVariables region at frame (InArm own arm why) = Unit {0}

-- an activation's variables and operands stand in the part of its place
pub record Placed (layout : Layout) (region : List ℕ) (q frame : ℕ) (a : Active) : Type 0 where
  pub variables : HasVariables region (slots_from layout q) frame a.role
  pub operands : reverse (part region (floor_at layout q) (length a.operands)) ≡ a.operands
