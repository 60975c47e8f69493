use Rattle.std.proofs.Common.{◌≡◌, drop}
use Rattle.mesa_types.specs.Typed as t
use Rattle.check_rules.specs.Parts.{join_stmts}
use Rattle.check_state.specs.Views as view
use Rattle.check_statement_lists.specs.Views.{stmts}
use Rattle.check_statement_lists.proofs.Chaining.{behind, chained}
use Rattle.check_statement_lists.proofs.ListLaws.{always, one_statement, stays}
use Rattle.check_statement_lists.proofs.phrases.NestedChecker.statements_behind.Given as goal

abbrev pub invariant-loop-one : goal.invariant-loop-one
invariant-loop-one g l =
    behind (join_stmts (stmts l.fn.before)) (chained (always (one_statement (view.around l.around))) stays t.NoStmts tt l.all (view.state l.fn.state))
    ≡ behind (join_stmts (stmts l.done)) (chained (always (one_statement (view.around l.around))) stays t.NoStmts tt (drop l.one-index l.all) (view.state l.state))
