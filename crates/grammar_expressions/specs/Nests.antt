-- Function values that parse statements, expressions and types at a level.
use Rattle.std.specs.Prelude.{ℕ, Result, Option}
use Rattle.std.specs.declared.alloc.Global.{Global}
use denote.Ref.{MutBor}
use Rattle.mesa_base.specs.declared.identifier.Identifier.{Identifier}
use Rattle.syntax_trees.specs.declared.syntax.Statement.{Statement}
use Rattle.syntax_trees.specs.declared.syntax.Expr.{Expr}
use Rattle.syntax_trees.specs.declared.syntax.TypeExp.{TypeExp}
use Rattle.grammar_rules.specs.declared.begun.Begun.{Begun}
use Rattle.token_cursor.specs.declared.cursor.Cursor.{Cursor}
use Rattle.token_cursor.specs.declared.fault.Stopped.{Stopped}
use Rattle.token_cursor.specs.Running.{Reads}
use Rattle.grammar_rules.specs.ReadStatements.{nested}

pub record Nests (depth : ℕ) (stmt_pre : Global → MutBor Cursor → ℕ → Option Identifier → Type 0)
    (stmt_post : Global → MutBor Cursor → ℕ → Option Identifier → Result Statement Stopped → MutBor Cursor → Type 0)
    (expr_pre : Global → MutBor Cursor → ℕ → Begun → Type 0)
    (expr_post : Global → MutBor Cursor → ℕ → Begun → Result Expr Stopped → MutBor Cursor → Type 0)
    (type_pre : Global → MutBor Cursor → ℕ → Option Identifier → Type 0)
    (type_post : Global → MutBor Cursor → ℕ → Option Identifier → Result TypeExp Stopped → MutBor Cursor → Type 0) : Type 0 where
  pub stmt_callable : (alloc : Global) (old : MutBor Cursor) (begun : Option Identifier) → stmt_pre alloc old depth begun
  pub stmt_reads : (alloc : Global) (old new : MutBor Cursor) (begun : Option Identifier) (r : Result Statement Stopped)
      → stmt_post alloc old depth begun r new → Reads ((nested depth).stmt begun old.now.rest.now) r new.now.rest.now
  pub expr_callable : (alloc : Global) (old : MutBor Cursor) (begun : Begun) → expr_pre alloc old depth begun
  pub expr_reads : (alloc : Global) (old new : MutBor Cursor) (begun : Begun) (r : Result Expr Stopped)
      → expr_post alloc old depth begun r new → Reads ((nested depth).expr begun old.now.rest.now) r new.now.rest.now
  pub type_callable : (alloc : Global) (old : MutBor Cursor) (begun : Option Identifier) → type_pre alloc old depth begun
  pub type_reads : (alloc : Global) (old new : MutBor Cursor) (begun : Option Identifier) (r : Result TypeExp Stopped)
      → type_post alloc old depth begun r new → Reads ((nested depth).type begun old.now.rest.now) r new.now.rest.now
