use Rattle.check_state.specs.Views as words
use Rattle.check_heads.proofs.AgainLaws.{retried_by}
use Rattle.check_heads.proofs.again.retried.Goals as goal

pub returns : goal.returns
returns g c =
    retried_by g.T.Tries.named (g.T.Tries.rule c.args.tries.now) (words.around c.args.around.now) c.args.one.now c.args.others.now (g.T.Tries.before c.args.tries.now)
    (words.around c.with_heads-around.result) (words.names c.in_ok-heads.heads) (words.state c.in_ok-state.state) (words.state c.in_ok-state-2.state)
    (words.state c.declare.new.state) c.declare.result c.in_ok-state.ensures c.in_ok-heads.ensures c.with_heads-around.ensures c.in_ok-state-2.ensures c.declare.ensures
