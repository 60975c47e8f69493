use Rattle.std.proofs.Common.{◌∷◌, drop, rules, refl, sym, ap, ◌∙◌}
use Rattle.mesa_types.specs.Typed as t
use Rattle.check_rules.specs.Parts.{join_stmts}
use Rattle.check_locals.specs.Views.{headed}
use Rattle.check_state.specs.Views as view
use Rattle.check_statement_lists.specs.Views.{stmts}
use Rattle.check_statements.specs.Views.{heads}
use Rattle.check_statement_lists.proofs.Chaining.{behind, chained, chained_end, made_at, made_turn, nothing_behind}
use Rattle.check_statement_lists.proofs.ListLaws.{join_none}
use Rattle.check_statements.proofs.ListLaws.{initial_made, initials_are, initials_out, one_initial, other_heads}
use Rattle.check_statements.proofs.checker.StatementChecker.initials.Goals as goal

pub loop-one-init : goal.loop-one-init
unfolding stmts join_stmts
loop-one-init g c = rw c.new-done.ensures (nothing_behind _)

pub loop-one-preserved : goal.loop-one-preserved
loop-one-preserved g c =
    c.loop-one.invariant
    ∙ ap (λ hs. behind (join_stmts (stmts c.loop-one.done)) (chained (one_initial (view.around c.args.around.now)) other_heads t.NoStmts hs (drop c.loop-one.one-index c.args.all.now) (view.state c.loop-one.state))) c.in-Some.ensures
    ∙ made_turn (one_initial (view.around c.args.around.now)) other_heads t.NoStmts (headed c.in-Some.headed ∷ heads c.first_head.new.heads) (heads c.in_ok-held.held) (join_stmts (stmts c.loop-one.done)) (join_stmts (stmts c.in_ok-held.more))
    c.args.all.now c.loop-one.one-index c.one-item.result (view.state c.loop-one.state) (view.state c.initial_behind-more.new.state)
    (search rules) (search rules)
    (sym (initial_made (view.around c.args.around.now) (stmts c.loop-one.done) c.one-item.result (headed c.in-Some.headed) (heads c.first_head.new.heads) (view.state c.loop-one.state)) ∙ search rules) (search rules)

pub returns-in_err-held : goal.returns-in_err-held
returns-in_err-held g c =
    rw (initials_are (view.around c.args.around.now) c.args.all.now (heads c.args.heads) (view.state c.args.state.now)) (
    rw c.loop-one.invariant (
    rw c.in-Some.ensures (
    rw (made_at (one_initial (view.around c.args.around.now)) other_heads t.NoStmts (headed c.in-Some.headed ∷ heads c.first_head.new.heads) (join_stmts (stmts c.loop-one.done)) c.args.all.now c.loop-one.one-index c.one-item.result (view.state c.loop-one.state) (search rules) (search rules)) (
    rw (sym (initial_made (view.around c.args.around.now) (stmts c.loop-one.done) c.one-item.result (headed c.in-Some.headed) (heads c.first_head.new.heads) (view.state c.loop-one.state)))
    (search rules)))))

pub returns-in_default : goal.returns-in_default
returns-in_default g c =
    let none = rw c.in_default.is at c.first_head.ensures in
    rw (initials_are (view.around c.args.around.now) c.args.all.now (heads c.args.heads) (view.state c.args.state.now)) (
    rw c.loop-one.invariant (
    rw none (
    rw (initials_out (view.around c.args.around.now) c.args.all.now c.loop-one.one-index (stmts c.loop-one.done) (view.state c.loop-one.state), join_none (stmts c.loop-one.done))
    (search rules))))

pub returns : goal.returns
returns g c =
    rw (initials_are (view.around c.args.around.now) c.args.all.now (heads c.args.heads) (view.state c.args.state.now)) (
    rw c.loop-one.invariant (
    rw (chained_end (one_initial (view.around c.args.around.now)) other_heads t.NoStmts (heads c.loop-one.rest) (join_stmts (stmts c.loop-one.done)) c.args.all.now c.loop-one.one-index (view.state c.loop-one.state) (search rules), join_none (stmts c.loop-one.done))
    (search rules)))
