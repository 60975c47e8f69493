use Rattle.std.proofs.Common.{rules}
use Rattle.check_state.specs.Views.{state, meaning}
use Rattle.check_state.proofs.DeclaringLoops.{all_mean_at, all_mean_out, settle_all}
use Rattle.check_state.proofs.state.State.settle.Goals as goal

pub loop-name-preserved : goal.loop-name-preserved
loop-name-preserved c = rw c.loop-name.invariant (rw (all_mean_at _ c.args.names.now c.loop-name.name-index c.name-item.result _ (search rules) (search rules)) (search rules))

pub returns : goal.returns
returns c =
    rw (settle_all c.args.names.now (meaning c.args.meaning.now) (state c.args.self.now))
    (rw c.loop-name.invariant (rw (all_mean_out _ c.args.names.now c.loop-name.name-index _ (search rules)) (search rules)))
