-- A function value that checks statements at a depth.
use Rattle.std.specs.Prelude.{ℕ, Result}
use Rattle.std.specs.declared.alloc.Global.{Global}
use denote.Ref.{Bor, MutBor}
use Rattle.mesa_types.specs.Plain.{stmt}
use Rattle.syntax_trees.specs.PlainSyntax as plain
use Rattle.syntax_trees.specs.declared.syntax.Statement.{Statement}
use Rattle.mesa_types.specs.declared.typed_tree.TypedStmt.{TypedStmt}
use Rattle.check_rules.specs.Checking as spec
use Rattle.check_rules.specs.declared.fault.CheckFault.{CheckFault}
use Rattle.check_state.specs.Gives.{Gives}
use Rattle.check_state.specs.Views as view
use Rattle.check_state.specs.declared.around.Around.{Around}
use Rattle.check_state.specs.declared.state.State.{State}

pub record Asks (depth : ℕ) (pre : Bor Statement → Global → ℕ → Bor Around → MutBor State → Type 0)
    (post : Bor Statement → Global → ℕ → Bor Around → MutBor State → Result TypedStmt CheckFault → MutBor State → Type 0) : Type 0 where
  pub callable : (one : Bor Statement) (alloc : Global) (around : Bor Around) (old : MutBor State) → pre one alloc depth around old
  pub gives : (one : Bor Statement) (alloc : Global) (around : Bor Around) (old new : MutBor State) (r : Result TypedStmt CheckFault)
      → post one alloc depth around old r new → Gives stmt (spec.statement (view.around around.now) (plain.statement one.now) (view.state old.now)) r (view.state new.now)
