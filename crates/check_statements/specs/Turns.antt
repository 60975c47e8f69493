-- The rules of lists, one part of a list at a time.
use Rattle.std.specs.Prelude.{List}
use Rattle.mesa_base.specs.declared.identifier.Identifier.{Identifier}
use Rattle.mesa_base.specs.declared.place.Place.{Place}
use Rattle.syntax_trees.specs.PlainSyntax as plain
use Rattle.syntax_trees.specs.declared.syntax.Case.{Case, out-Case}
use Rattle.syntax_trees.specs.declared.syntax.Labeled.{Labeled}
use Rattle.syntax_trees.specs.declared.syntax.PlainItem.{PlainItem}
use Rattle.check_rules.specs.Typed as t
use Rattle.check_rules.specs.Around.{Around}
use Rattle.check_rules.specs.Checking as spec
use Rattle.check_rules.specs.Parts.{join_stmts}
use Rattle.check_rules.specs.Ranges.{Typed}
use Rattle.check_rules.specs.Statements.{Headed}
use Rattle.check_rules.specs.Steps.{Check, ◌>>=◌, pure}

unfoldable pub one_case : Around → Place → Typed → Case → Check (t.Cases → t.Cases)
one_case a l sel x = do
  ts ← spec.tests a l sel (plain.tests (out-Case x).tests)
  b ← spec.statement a (plain.statement (out-Case x).body)
  pure (t.AndCase ts b)

-- what a declaration of a block does when it is reached, behind these statements
unfoldable pub initial_behind : Around → t.Stmts → Labeled (List Identifier) PlainItem → Headed → Check (t.Stmts → t.Stmts)
initial_behind a before x h = spec.initial a x.labels (plain.plain_item x.item) h >>= (λ put. pure (λ rest. join_stmts before (put rest)))
