use Rattle.std.proofs.Common.{◌≡◌, drop}
use Rattle.check_state.specs.Views as view
use Rattle.check_statement_lists.proofs.Chaining.{behind, chained}
use Rattle.check_statement_lists.proofs.ListLaws.{stays}
use Rattle.check_statements.proofs.ListLaws.{case_before, cases_before}
use Rattle.check_statements.proofs.checker.StatementChecker.cases.Given as goal

abbrev pub invariant-loop-one : goal.invariant-loop-one
invariant-loop-one g l =
    chained (case_before (view.around l.around) l.start (view.typed l.selector)) stays (λ cs. cs) tt l.all (view.state l.fn.state)
    ≡ behind (cases_before l.done) (chained (case_before (view.around l.around) l.start (view.typed l.selector)) stays (λ cs. cs) tt (drop l.one-index l.all) (view.state l.state))
