-- What the code's values stand for.
use Rattle.std.specs.Prelude.{map}
use Rattle.mesa_types.specs.Plain.{kinds_of, plain_body, plain_procedure, stmt}
use Rattle.mesa_types.specs.Typed as t
use Rattle.interface_records.specs.PlainTypes.{plain_item}
use Rattle.check_rules.specs.Programs as program
use Rattle.check_heads.specs.check_faces.specs.Offers.{offer}
use Rattle.check_state.specs.Views.{names}
use Rattle.check_programs.specs.Found as found_rule
use Rattle.check_programs.specs.Shown as shown_rule
use Rattle.check_programs.specs.declared.found.Found.{Found}
use Rattle.check_programs.specs.declared.found.Stated.{Stated}
use Rattle.check_programs.specs.declared.found.Stated.TheVariants.{Data, Procedure, Signal}
use Rattle.check_programs.specs.declared.values.Value.{Value}
use Rattle.check_programs.specs.declared.values.Value.TheVariants as value_variant
use Rattle.check_programs.specs.declared.values.Values.{Values}
use Rattle.check_programs.specs.declared.whole.Parts.{Parts}
use Rattle.check_programs.specs.declared.whole.Whole.{Whole}
use Rattle.check_statements.specs.check_locals.specs.Views.{headed}
use Rattle.check_statement_lists.specs.Views.{stmts}

abbrev pub stated : Stated → program.Stated
stated (Data h) = program.DataHead (headed h)
stated (Procedure p) = program.ProcedureHead (plain_item p.item) (names p.scope) p.operands
stated Signal = program.SignalHead

abbrev pub found : Found → found_rule.Found
found f = record { heads = map stated f.heads.items; procedures = f.procedures; signals = map plain_item f.signals; offers = map offer f.offers.items }

abbrev pub value : Value → program.Values → program.Values
value value_variant.Nothing v = v
value (value_variant.OfStatement x) v = program.and_statement (t.AndStmt (stmt x)) v
value (value_variant.OfProcedure p) v = program.and_procedure (plain_procedure p) v

abbrev pub values : Values → program.Values
values v = record { procedures = map plain_procedure v.procedures; statements = stmts v.statements }

abbrev pub parts : Parts → shown_rule.Parts
parts x = record { procedures = map plain_procedure x.procedures; does = stmt x.does }

abbrev pub whole : Whole → shown_rule.Shown
whole w = record {
  signals = map plain_item w.signals;
  offers = map offer w.offers.items;
  procedures = map plain_procedure w.procedures;
  body = plain_body w.body;
  used = w.used;
  globals = kinds_of w.globals;
}
