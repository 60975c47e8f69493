use Rattle.std.proofs.Common.{◌≡◌, drop}
use Rattle.mesa_types.specs.Typed as t
use Rattle.check_rules.specs.Parts.{join_stmts}
use Rattle.check_state.specs.Views as view
use Rattle.check_statement_lists.specs.Views.{stmts}
use Rattle.check_statements.specs.Views.{heads}
use Rattle.check_statement_lists.proofs.Chaining.{behind, chained}
use Rattle.check_statements.proofs.ListLaws.{one_initial, other_heads}
use Rattle.check_statements.proofs.checker.StatementChecker.initials.Given as goal

abbrev pub invariant-loop-one : goal.invariant-loop-one
invariant-loop-one g l =
    chained (one_initial (view.around l.around)) other_heads t.NoStmts (heads l.fn.heads) l.all (view.state l.fn.state)
    ≡ behind (join_stmts (stmts l.done)) (chained (one_initial (view.around l.around)) other_heads t.NoStmts (heads l.rest) (drop l.one-index l.all) (view.state l.state))
