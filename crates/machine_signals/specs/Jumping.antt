-- Jumps that leave arms: where they go (rule of this project).
use Rattle.std.specs.Prelude.{◌≡◌, ℕ, zero, suc, List, Bool, false, ◌&&◌, Option, Some, None, nat_eq, nat_le, nat_lt, slice_get, IfSome, if◌then◌else◌}
use Rattle.code_forms.specs.declared.module_code.CodeProcedure.{CodeProcedure}
use Rattle.code_forms.specs.declared.module_code.Phrase.{Phrase}
use Rattle.object_files.specs.declared.image.Image.{Image}
use Rattle.machine_rules.specs.State.{Active, Activations, Store, Stepped}
use Rattle.machine_rules.specs.LookUps.{procedure_of, phrases_in}
use Rattle.machine_rules.specs.Leaving.{leave}
use Rattle.machine_topmost.specs.declared.registers.Registers.{Registers}
use Rattle.machine_activations.specs.declared.row.Kind.{Kind}
use Rattle.machine_activations.specs.declared.row.Kind.TheVariants.{Frame, Arm}
use Rattle.machine_activations.specs.declared.row.Layout.{Layout}
use Rattle.machine_activations.specs.declared.row.Row.{Row}
use Rattle.machine_activations.specs.declared.row.Target.{Target}
use Rattle.machine_activations.specs.Frames.{row_at}
use Rattle.machine_activations.specs.Reaching.{Reaches, IsUnstuck}
use Rattle.machine_activations.specs.Shows.{Shows}
use Rattle.machine_signals.specs.declared.arms.Span.{Span}
use Rattle.machine_ready.specs.Openings.{arms_in}
use Rattle.machine_signals.specs.Arms.{span_in}
use Rattle.machine_signals.specs.Raising.{FindsNone}

abbrev pub in_span : Span → ℕ → Bool
in_span s offset = nat_le s.start offset && nat_lt offset s.end

-- a running arm of the frame at a place, in whose region the offset is
abbrev pub has_offset_in : Kind → List Phrase → (owner offset : ℕ) → Bool
has_offset_in Frame phrases own offset = false
has_offset_in (Arm own' arm reason) phrases own offset = nat_eq own' own && in_span (span_in (slice_get (arms_in phrases) arm)) offset

abbrev pub phrases_of : Image → Row → List Phrase
phrases_of image row = phrases_in (procedure_of image row.instance row.procedure)

-- the topmost one of the first so many places with such an arm, or else the frame's place
unfoldable pub place_in : Image → List Row → (count owner offset : ℕ) → ℕ
place_in image table zero own offset = own
place_in image table (suc q) own offset =
    if has_offset_in (row_at table q).kind (phrases_of image (row_at table q)) own offset then q else place_in image table q own offset

-- where a jump goes, by the rows
abbrev pub place_of : Image → List Row → (count owner : ℕ) → Option ℕ → ℕ
place_of image table count own None = own
place_of image table count own (Some offset) = place_in image table count own offset

pub record Aims (image : Image) (table : List Row) (count own : ℕ) (goal : Option ℕ) (target : Target) : Type 0 where
  pub place : target.place ≡ place_of image table count own goal
  pub owner : target.owner ≡ own
  pub goal_is : target.goal ≡ goal

-- some activations are shown, and the machine comes to where a jump leaves the topmost one, an arm; where it goes to an offset, an
-- instruction begins there that finds no operands
pub record Jumps (image : Image) (layout : Layout) (region : List ℕ) (table : List Row) (r : Registers) (goal : Option ℕ) (s : Stepped) (m : Store) : Type 0 where
  pub top : Active
  pub rest : Activations
  pub procedure : CodeProcedure
  pub shows : Shows image layout region table r procedure top rest
  pub finds : IfSome goal (FindsNone procedure)
  pub reaches : Reaches image s (leave image goal top.role rest m)

pub record CanJump (image : Image) (layout : Layout) (region : List ℕ) (table : List Row) (r : Registers) (goal : Option ℕ) : Type 0 where
  pub start : Stepped
  pub unstuck : IsUnstuck image start
  pub store : Store
  pub jumps : Jumps image layout region table r goal start store
