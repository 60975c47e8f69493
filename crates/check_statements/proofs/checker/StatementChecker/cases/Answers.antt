use Rattle.std.proofs.Common.{rules, refl, ◌∙◌}
use Rattle.mesa_types.specs.Plain as tree
use Rattle.check_state.specs.Views as view
use Rattle.check_statements.specs.Views as views
use Rattle.check_statement_lists.proofs.Chaining.{chained_at, chained_end, chained_turn, nothing_behind}
use Rattle.check_statement_lists.proofs.ListLaws.{stays}
use Rattle.check_statements.proofs.ListLaws.{case_before, case_given, case_put, cases_are, cases_before, cases_onto}
use Rattle.check_statements.proofs.checker.StatementChecker.cases.Goals as goal

pub loop-one-init : goal.loop-one-init
unfolding views.cases
loop-one-init g c = rw c.new-done.ensures (nothing_behind _)

pub loop-one-preserved : goal.loop-one-preserved
loop-one-preserved g c =
    c.loop-one.invariant
    ∙ chained_turn (case_before (view.around c.args.around.now) c.args.start (view.typed c.args.selector.now)) stays (λ cs. cs) tt tt (cases_before c.loop-one.done) (cases_before c.in_ok-done.done) (case_put (tree.case c.in_ok-held.case)) c.args.all.now c.loop-one.one-index c.one-item.result (view.state c.loop-one.state) (view.state c.case.new.state)
    (search rules) (search rules) (case_given (view.around c.args.around.now) c.args.start (view.typed c.args.selector.now) c.one-item.result (tree.case c.in_ok-held.case) (view.state c.loop-one.state) (view.state c.case.new.state) (search rules)) (cases_onto c.loop-one.done c.in_ok-done.done c.in_ok-held.case (search rules)) refl

pub returns-in_err-held : goal.returns-in_err-held
unfolding case_before
returns-in_err-held g c =
    rw (cases_are (view.around c.args.around.now) c.args.start (view.typed c.args.selector.now) c.args.all.now (view.state c.args.state.now)) (
    rw c.loop-one.invariant (
    rw (chained_at (case_before (view.around c.args.around.now) c.args.start (view.typed c.args.selector.now)) stays (λ cs. cs) tt (cases_before c.loop-one.done) c.args.all.now c.loop-one.one-index c.one-item.result (view.state c.loop-one.state) (search rules) (search rules))
    (search rules)))

pub returns : goal.returns
returns g c =
    rw (cases_are (view.around c.args.around.now) c.args.start (view.typed c.args.selector.now) c.args.all.now (view.state c.args.state.now)) (
    rw c.loop-one.invariant (
    rw (chained_end (case_before (view.around c.args.around.now) c.args.start (view.typed c.args.selector.now)) stays (λ cs. cs) tt (cases_before c.loop-one.done) c.args.all.now c.loop-one.one-index (view.state c.loop-one.state) (search rules))
    (search rules)))
