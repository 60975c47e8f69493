use Rattle.std.proofs.Common.{sym, ◌∙◌}
use Rattle.check_rules.specs.Programs.{passed_over}
use Rattle.check_state.specs.Views as words
use Rattle.check_heads.proofs.AgainLaws.{behind_none, gone_on}
use Rattle.check_heads.proofs.again.behind_all.Goals as goal

pub loop-other-init : goal.loop-other-init
loop-other-init g c =
    c.in_ok-state.ensures
    ∙ sym (behind_none g.T.Tries.named (g.T.Tries.rule c.args.tries.now (words.around c.args.around.now)) (passed_over (g.T.Tries.named c.args.one.now) (g.T.Tries.before c.args.tries.now)))

pub loop-other-preserved : goal.loop-other-preserved
loop-other-preserved g c =
    gone_on g.T.Tries.named (g.T.Tries.rule c.args.tries.now (words.around c.args.around.now)) c.args.others.now c.loop-other.other-index c.other-item.result
    (passed_over (g.T.Tries.named c.args.one.now) (g.T.Tries.before c.args.tries.now)) (words.state c.loop-other.state) (words.state c.in_ok-state-2.state)
    c.loop-other-test.true c.other-item.is c.loop-other.invariant c.in_ok-state-2.ensures
