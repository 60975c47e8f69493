-- What the registers, the region, the table, the globals and the marks of what was started show of the machine (rule of this project).
use Rattle.std.specs.Prelude.{◌≡◌, ℕ, ◌+◌, ◌-◌, ◌*◌, ◌≤◌, List, ◌++◌, length, replicate, Bool, Some, slice_get}
use Rattle.code_forms.specs.declared.module_code.CodeEntry.{CodeEntry}
use Rattle.code_forms.specs.declared.module_code.CodeProcedure.{CodeProcedure}
use Rattle.code_forms.specs.Routine.{Begins, spots}
use Rattle.code_forms.specs.Valid.{HasDepths}
use Rattle.object_files.specs.declared.image.Image.{Image}
use Rattle.object_files.specs.declared.object.Object.{Object}
use Rattle.machine_rules.specs.State.{Active, Activations, Store}
use Rattle.machine_rules.specs.LookUps.{procedure_of}
use Rattle.machine_rules.specs.Activations.{own_frame}
use Rattle.machine_rules.specs.Moves.{limit}
use Rattle.machine_rules.specs.Laws.{HasValidCode}
use Rattle.machine_topmost.specs.declared.registers.Registers.{Registers}
use Rattle.machine_activations.specs.declared.row.Layout.{Layout}
use Rattle.machine_activations.specs.declared.row.Row.{Row}
use Rattle.machine_activations.specs.Links.{BindsLinks}
use Rattle.machine_activations.specs.Placed.{slots_from, floor_at, IsLaidOut, Placed}
use Rattle.machine_activations.specs.Rows.{Rowed}
use Rattle.machine_activations.specs.Below.{over, Owned, Below}

-- an image whose code is valid, with the depth beside each instruction, and whose links are bound to what is like them; and a layout with
-- room for it
pub record IsPrepared (image : Image) (layout : Layout) : Type 0 where
  pub valid : HasValidCode image
  pub depths : (n : ℕ) (o : Object) → slice_get image.modules n ≡ Some o → HasDepths o.code
  pub laid : IsLaidOut image layout
  pub links : BindsLinks image

-- The region grows as deeper places are used, in memory that is kept for it.

-- there is memory for a part for as many activations as may be
abbrev pub IsReserved : Layout → (capacity : ℕ) → Type 0
IsReserved layout capacity = limit * layout.part ≤ capacity

-- a region with the parts of all places up to one; words that it had not are 0
abbrev pub with_places : List ℕ → Layout → (place : ℕ) → List ℕ
with_places region layout q = region ++ replicate ((q + 1) * layout.part - length region) 0

-- it has the parts of the places up to the topmost one, and there is a row for as many activations as may be
pub record IsAmple (layout : Layout) (region : List ℕ) (table : List Row) (top : ℕ) : Type 0 where
  pub wide : (top + 1) * layout.part ≤ length region
  pub long : length table ≡ limit

-- the topmost activation, of this procedure, by the registers, and the others by their rows
pub record Shows (image : Image) (layout : Layout) (region : List ℕ) (table : List Row) (r : Registers)
    (procedure : CodeProcedure) (a : Active) (S : Activations) : Type 0 where
  pub is : procedure_of image a.instance a.procedure ≡ Some procedure
  pub top : r.top ≡ length S
  pub slots : r.slots ≡ slots_from layout (own_frame a S)
  pub sp : r.sp ≡ floor_at layout (length S) + length a.operands
  pub begins : Begins (spots procedure.code) r.entry a.offset
  pub deep : (e : CodeEntry) → slice_get procedure.code r.entry ≡ Some e → length a.operands ≡ e.depth
  pub placed : Placed layout region (length S) procedure.frame a
  pub rowed : Rowed table (length S) a
  pub owned : Owned a S
  pub below : Below image layout region table (over a) S

-- what stands beside the activations
pub record Beside (globals : List (List ℕ)) (started : List Bool) (turns : ℕ) (m : Store) : Type 0 where
  pub globals_there : (j : ℕ) (words : List ℕ) → slice_get globals j ≡ Some words → m.globals j ≡ words
  pub started_there : (j : ℕ) (b : Bool) → slice_get started j ≡ Some b → m.started j ≡ b
  pub same_turns : m.turns ≡ turns
