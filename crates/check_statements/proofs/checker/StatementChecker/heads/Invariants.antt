use Rattle.std.proofs.Common.{◌≡◌, [], drop}
use Rattle.check_state.specs.Views as view
use Rattle.check_statements.specs.Views.{heads}
use Rattle.check_statement_lists.proofs.Chaining.{behind, chained}
use Rattle.check_statement_lists.proofs.ListLaws.{always, stays}
use Rattle.check_statements.proofs.ListLaws.{heads_before, one_head}
use Rattle.check_statements.proofs.checker.StatementChecker.heads.Given as goal

abbrev pub invariant-loop-one : goal.invariant-loop-one
invariant-loop-one g l =
    chained (always (one_head (view.around l.around))) stays [] tt l.all (view.state l.fn.state)
    ≡ behind (heads_before (heads l.done)) (chained (always (one_head (view.around l.around))) stays [] tt (drop l.one-index l.all) (view.state l.state))
