-- What the code's values stand for.
use Rattle.std.specs.Prelude.{List, map}
use Rattle.mesa_types.specs.Plain as tree
use Rattle.mesa_types.specs.Typed as t
use Rattle.mesa_types.specs.declared.typed_tree.Case.{Case}
use Rattle.check_rules.specs.Statements as rule
use Rattle.check_locals.specs.Views.{headed}
use Rattle.check_statement_lists.specs.Views.{stmts}
use Rattle.check_statements.specs.declared.blocks.Held.{Held}
use Rattle.check_statements.specs.declared.locals.Heads.{Heads}

unfoldable pub cases : List Case → t.Cases → t.Cases
cases cs end = tree.chain (map tree.case cs) end

unfoldable pub heads : Heads → List rule.Headed
heads hs = map headed hs.items.items

abbrev pub held : Held → rule.Held
held x = record { phrase = tree.phrase x.phrase; statements = stmts x.statements }
