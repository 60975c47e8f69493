use Rattle.std.proofs.Common.{rules}
use Rattle.check_jumps.proofs.Tests.{resumable_at, resumable_out}
use Rattle.check_jumps.proofs.likeness.all_resumable.Goals as goal

pub loop-one-preserved : goal.loop-one-preserved
loop-one-preserved c = rw c.loop-one.invariant (rw (resumable_at c.args.labels.now c.loop-one.one-index c.one-item.result (search rules) (search rules)) (search rules))

pub returns-then-not-is_resumable : goal.returns-then-not-is_resumable
returns-then-not-is_resumable c = rw c.loop-one.invariant (rw (resumable_at c.args.labels.now c.loop-one.one-index c.one-item.result (search rules) (search rules)) (search rules))

pub returns : goal.returns
returns c = rw c.loop-one.invariant (rw (resumable_out c.args.labels.now c.loop-one.one-index (search rules)) (search rules))
