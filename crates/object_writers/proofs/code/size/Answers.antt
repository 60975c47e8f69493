use Rattle.std.proofs.Common.{arith, sym}
use Rattle.object_writers.proofs.Sizes.{size_none, size_step}
use Rattle.object_writers.proofs.code.size.Goals as goal

pub entries-init : goal.entries-init
entries-init c = sym (size_none c.args.code.now)

pub overflow_add-sum : goal.overflow_add-sum
overflow_add-sum c =
    let room = (size_step c.args.code.now c.entries.entry-index c.entries.sum c.bytes-sum.result _ c.requires c.entries.invariant c.entries-test.true c.bytes-sum.ensures).0 in
    omega (arith, room)

pub entries-preserved : goal.entries-preserved
entries-preserved c =
    (size_step c.args.code.now c.entries.entry-index c.entries.sum c.bytes-sum.result _ c.requires c.entries.invariant c.entries-test.true c.bytes-sum.ensures).1
