-- What the row of a place tells of the activation there (rule of this project).
use Rattle.std.specs.Prelude.{◌≡◌, ℕ, List, length, Some, slice_get}
use Rattle.machine_rules.specs.State.{Target, Why, ForRaise, ForJump, Role, Frame, InArm, Active}
use Rattle.machine_activations.specs.declared.row.Kind.{Kind}
use Rattle.machine_activations.specs.declared.row.Kind.TheVariants.{Frame as FrameRow, Arm as ArmRow}
use Rattle.machine_activations.specs.declared.row.Reason.{Reason}
use Rattle.machine_activations.specs.declared.row.Reason.TheVariants.{Raise as RaiseRow, Jump as JumpRow}
use Rattle.machine_activations.specs.declared.row.Row.{Row}
use Rattle.machine_activations.specs.declared.row.Target.{Target as TargetRow}

pub record IsTarget (row : TargetRow) (target : Target) : Type 0 where
  pub place : row.place ≡ target.place
  pub owner : row.owner ≡ target.owner
  pub goal : row.goal ≡ target.goal

unfoldable pub IsWhy : Reason → Why → Type 0
IsWhy (RaiseRow signal count beyond) (ForRaise signal' args beyond') = (signal ≡ signal') × (count ≡ length args) × (beyond ≡ beyond')
IsWhy (RaiseRow signal count beyond) (ForJump target beyond') = ⊥
IsWhy (JumpRow target beyond) (ForRaise signal args beyond') = ⊥
IsWhy (JumpRow target beyond) (ForJump target' beyond') = IsTarget target target' × (beyond ≡ beyond')

unfoldable pub IsKind : Kind → Role (List ℕ) → Type 0
IsKind FrameRow (Frame variables) = Unit {0}
IsKind FrameRow (InArm own arm why) = ⊥
IsKind (ArmRow own arm reason) (Frame variables) = ⊥
IsKind (ArmRow own arm reason) (InArm own' arm' why) = (own ≡ own') × (arm ≡ arm') × IsWhy reason why

-- its instance, its procedure and its kind
pub record Rowed (table : List Row) (q : ℕ) (a : Active) : Type 0 where
  pub row : Row
  pub there : slice_get table q ≡ Some row
  pub same_instance : row.instance ≡ a.instance
  pub same_procedure : row.procedure ≡ a.procedure
  pub same_kind : IsKind row.kind a.role
