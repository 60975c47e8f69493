use Rattle.std.proofs.Common.{rules, refl, ◌∙◌}
use Rattle.mesa_types.specs.Plain as tree
use Rattle.mesa_types.specs.Typed as t
use Rattle.check_rules.specs.Parts.{join_stmts}
use Rattle.check_state.specs.Views as view
use Rattle.check_statement_lists.specs.Views as views
use Rattle.check_statement_lists.proofs.Chaining.{chained_at, chained_end, chained_turn}
use Rattle.check_statement_lists.proofs.ListLaws.{always, behind_are, join_none, one_statement, statement_put, stays, stmts_onto}
use Rattle.check_statement_lists.proofs.phrases.NestedChecker.statements_behind.Goals as goal

pub loop-one-preserved : goal.loop-one-preserved
loop-one-preserved g c =
    c.loop-one.invariant
    ∙ chained_turn (always (one_statement (view.around c.args.around.now))) stays t.NoStmts tt tt (join_stmts (views.stmts c.loop-one.done)) (join_stmts (views.stmts c.in_ok-done.done)) (t.AndStmt (tree.stmt c.in_ok-held.next))
    c.args.all.now c.loop-one.one-index c.one-item.result (view.state c.loop-one.state) (view.state c.statement.new.state)
    (search rules) (search rules) (statement_put (view.around c.args.around.now) c.one-item.result (tree.stmt c.in_ok-held.next) (view.state c.loop-one.state) (view.state c.statement.new.state) (search rules))
    (stmts_onto c.loop-one.done c.in_ok-done.done c.in_ok-held.next (search rules)) refl

pub returns-in_err-held : goal.returns-in_err-held
unfolding one_statement
returns-in_err-held g c =
    rw (behind_are (view.around c.args.around.now) (views.stmts c.args.before) c.args.all.now (view.state c.args.state.now)) (
    rw c.loop-one.invariant (
    rw (chained_at (always (one_statement (view.around c.args.around.now))) stays t.NoStmts tt (join_stmts (views.stmts c.loop-one.done)) c.args.all.now c.loop-one.one-index c.one-item.result (view.state c.loop-one.state) (search rules) (search rules))
    (search rules)))

pub returns : goal.returns
returns g c =
    rw (behind_are (view.around c.args.around.now) (views.stmts c.args.before) c.args.all.now (view.state c.args.state.now)) (
    rw c.loop-one.invariant (
    rw (chained_end (always (one_statement (view.around c.args.around.now))) stays t.NoStmts tt (join_stmts (views.stmts c.loop-one.done)) c.args.all.now c.loop-one.one-index (view.state c.loop-one.state) (search rules), join_none (views.stmts c.loop-one.done))
    (search rules)))
