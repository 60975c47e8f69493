use Rattle.std.proofs.Common.{rules}
use Rattle.check_state.specs.Views.{fields}
use Rattle.check_jumps.proofs.Tests.{giving_at, giving_out}
use Rattle.check_jumps.proofs.likeness.all_give.Goals as goal

pub loop-one-preserved : goal.loop-one-preserved
loop-one-preserved c = rw c.loop-one.invariant (rw (giving_at (fields c.args.fields.now) c.args.labels.now c.loop-one.one-index c.one-item.result (search rules) (search rules)) (search rules))

pub returns-then-not-gives : goal.returns-then-not-gives
returns-then-not-gives c = rw c.loop-one.invariant (rw (giving_at (fields c.args.fields.now) c.args.labels.now c.loop-one.one-index c.one-item.result (search rules) (search rules)) (search rules))

pub returns : goal.returns
returns c = rw c.loop-one.invariant (rw (giving_out (fields c.args.fields.now) c.args.labels.now c.loop-one.one-index (search rules)) (search rules))
