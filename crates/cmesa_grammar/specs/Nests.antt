-- A function value that parses configurations at a level.
use Rattle.std.specs.Prelude.{ℕ, Result}
use Rattle.std.specs.declared.alloc.Global.{Global}
use denote.Ref.{MutBor}
use Rattle.mesa_base.specs.declared.identifier.Identifier.{Identifier}
use Rattle.token_cursor.specs.declared.cursor.Cursor.{Cursor}
use Rattle.token_cursor.specs.declared.fault.Stopped.{Stopped}
use Rattle.token_cursor.specs.Running.{Reads}
use Rattle.cmesa_grammar.specs.declared.syntax.Configuration.{Configuration}
use Rattle.cmesa_grammar.specs.ReadConfigs.{nested}

pub record Nests (depth : ℕ) (pre : Global → MutBor Cursor → ℕ → Identifier → Type 0)
    (post : Global → MutBor Cursor → ℕ → Identifier → Result Configuration Stopped → MutBor Cursor → Type 0) : Type 0 where
  pub callable : (alloc : Global) (old : MutBor Cursor) (i : Identifier) → pre alloc old depth i
  pub reads : (alloc : Global) (old new : MutBor Cursor) (i : Identifier) (r : Result Configuration Stopped)
      → post alloc old depth i r new → Reads (nested depth i old.now.rest.now) r new.now.rest.now
