-- What the code's values stand for.
use Rattle.std.specs.Prelude.{Option, Some, None}
use Rattle.mesa_types.specs.Plain.{stmt}
use Rattle.mesa_types.specs.Typed as t
use Rattle.mesa_types.specs.declared.typed_tree.TypedStmt.{TypedStmt}
use Rattle.interface_records.specs.PlainTypes.{plain}
use Rattle.check_rules.specs.Statements as rule
use Rattle.check_state.specs.Views.{names}
use Rattle.check_locals.specs.declared.headed.Headed.{Headed}
use Rattle.check_locals.specs.declared.headed.Headed.TheVariants.{Nothing, Variables}

abbrev pub headed : Headed → rule.Headed
headed Nothing = rule.Nothing
headed (Variables homes kind seen words) = rule.Variables homes (plain kind) (names seen) words

-- a statement before others, or none
abbrev pub put : Option TypedStmt → t.Stmts → t.Stmts
put None ss = ss
put (Some s) ss = t.AndStmt (stmt s) ss
