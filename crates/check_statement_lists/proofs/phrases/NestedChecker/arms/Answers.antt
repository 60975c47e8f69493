use Rattle.std.proofs.Common.{map, rules, refl, ◌∙◌}
use Rattle.mesa_types.specs.Plain as tree
use Rattle.mesa_types.specs.Typed as t
use Rattle.check_state.specs.Views as view
use Rattle.check_statement_lists.specs.Turns.{one_arm}
use Rattle.check_statement_lists.specs.Views as views
use Rattle.check_statement_lists.proofs.Chaining.{chained_at, chained_end, chained_turn}
use Rattle.check_statement_lists.proofs.ListLaws.{always, arms_are, chain_onto, stays}
use Rattle.check_statement_lists.proofs.phrases.NestedChecker.arms.Goals as goal

pub loop-one-preserved : goal.loop-one-preserved
loop-one-preserved g c =
    c.loop-one.invariant
    ∙ chained_turn (always (one_arm (view.around c.args.around.now))) stays t.NoArms tt tt (tree.chain (map tree.arm c.loop-one.done)) (tree.chain (map tree.arm c.in_ok-done.done)) (tree.arm c.in_ok-held.arm)
    c.args.all.now c.loop-one.one-index c.one-item.result (view.state c.loop-one.state) (view.state c.arm.new.state)
    (search rules) (search rules) (search rules) (chain_onto tree.arm c.loop-one.done c.in_ok-done.done c.in_ok-held.arm (search rules)) refl

pub returns-in_err-held : goal.returns-in_err-held
returns-in_err-held g c =
    rw (arms_are (view.around c.args.around.now) c.args.all.now (view.state c.args.state.now)) (
    rw c.loop-one.invariant (
    rw (chained_at (always (one_arm (view.around c.args.around.now))) stays t.NoArms tt (tree.chain (map tree.arm c.loop-one.done)) c.args.all.now c.loop-one.one-index c.one-item.result (view.state c.loop-one.state) (search rules) (search rules))
    (search rules)))

pub returns : goal.returns
unfolding views.arms
returns g c =
    rw (arms_are (view.around c.args.around.now) c.args.all.now (view.state c.args.state.now)) (
    rw c.loop-one.invariant (
    rw (chained_end (always (one_arm (view.around c.args.around.now))) stays t.NoArms tt (tree.chain (map tree.arm c.loop-one.done)) c.args.all.now c.loop-one.one-index (view.state c.loop-one.state) (search rules))
    (search rules)))
