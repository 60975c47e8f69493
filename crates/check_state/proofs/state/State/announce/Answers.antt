use Rattle.std.proofs.Common.{rules}
use Rattle.check_state.proofs.DeclaringLoops.{announce_at, announce_out}
use Rattle.check_state.proofs.state.State.announce.Goals as goal

pub loop-name-preserved : goal.loop-name-preserved
loop-name-preserved c = rw c.loop-name.invariant (rw (announce_at c.args.names.now c.loop-name.name-index c.name-item.result _ (search rules) (search rules)) (search rules))

pub returns-in_err-announce_one : goal.returns-in_err-announce_one
returns-in_err-announce_one c = rw c.loop-name.invariant (rw (announce_at c.args.names.now c.loop-name.name-index c.name-item.result _ (search rules) (search rules)) (search rules))

pub returns : goal.returns
returns c = rw c.loop-name.invariant (rw (announce_out c.args.names.now c.loop-name.name-index _ (search rules)) (search rules))
