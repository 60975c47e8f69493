use Rattle.std.proofs.Common.{rules}
use Rattle.interface_records.specs.PlainTypes.{plain_item}
use Rattle.check_jumps.proofs.Tests.{alike_at, alike_out}
use Rattle.check_jumps.proofs.likeness.all_like.Goals as goal

pub loop-one-preserved : goal.loop-one-preserved
loop-one-preserved c = rw c.loop-one.invariant (rw (alike_at (plain_item c.args.head.now) c.args.labels.now c.loop-one.one-index c.one-item.result (search rules) (search rules)) (search rules))

pub returns-then-not-is_like : goal.returns-then-not-is_like
returns-then-not-is_like c = rw c.loop-one.invariant (rw (alike_at (plain_item c.args.head.now) c.args.labels.now c.loop-one.one-index c.one-item.result (search rules) (search rules)) (search rules))

pub returns : goal.returns
returns c = rw c.loop-one.invariant (rw (alike_out (plain_item c.args.head.now) c.args.labels.now c.loop-one.one-index (search rules)) (search rules))
