use Rattle.std.proofs.Common.{◌∷◌, [], rules, refl, ◌∙◌}
use Rattle.check_locals.specs.Views.{headed}
use Rattle.check_state.specs.Views as view
use Rattle.check_statements.specs.Views.{heads}
use Rattle.check_statement_lists.proofs.Chaining.{chained_at, chained_end, chained_turn}
use Rattle.check_statement_lists.proofs.ListLaws.{always, stays}
use Rattle.check_statements.proofs.ListLaws.{head_given, heads_are, heads_before, heads_onto, one_head}
use Rattle.check_statements.proofs.checker.StatementChecker.heads.Goals as goal

pub loop-one-preserved : goal.loop-one-preserved
loop-one-preserved g c =
    c.loop-one.invariant
    ∙ chained_turn (always (one_head (view.around c.args.around.now))) stays [] tt tt (heads_before (heads c.loop-one.done)) (heads_before (heads c.in_ok-done.done)) (λ hs. headed c.in_ok-held.next ∷ hs)
    c.args.all.now c.loop-one.one-index c.one-item.result (view.state c.loop-one.state) (view.state c.head-next.new.state)
    (search rules) (search rules) (head_given (view.around c.args.around.now) c.one-item.result (headed c.in_ok-held.next) (view.state c.loop-one.state) (view.state c.head-next.new.state) (search rules))
    (heads_onto (heads c.loop-one.done) (heads c.in_ok-done.done) (headed c.in_ok-held.next) (search rules)) refl

pub returns-in_err-held : goal.returns-in_err-held
unfolding one_head
returns-in_err-held g c =
    rw (heads_are (view.around c.args.around.now) c.args.all.now (view.state c.args.state.now)) (
    rw c.loop-one.invariant (
    rw (chained_at (always (one_head (view.around c.args.around.now))) stays [] tt (heads_before (heads c.loop-one.done)) c.args.all.now c.loop-one.one-index c.one-item.result (view.state c.loop-one.state) (search rules) (search rules))
    (search rules)))

pub returns : goal.returns
returns g c =
    rw (heads_are (view.around c.args.around.now) c.args.all.now (view.state c.args.state.now)) (
    rw c.loop-one.invariant (
    rw (chained_end (always (one_head (view.around c.args.around.now))) stays [] tt (heads_before (heads c.loop-one.done)) c.args.all.now c.loop-one.one-index (view.state c.loop-one.state) (search rules))
    (search rules)))
