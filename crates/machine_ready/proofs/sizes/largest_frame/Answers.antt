use Rattle.std.proofs.Common.{arith}
use Rattle.machine_ready.proofs.Largest.{module_more}
use Rattle.machine_ready.proofs.sizes.largest_frame.Goals as goal

pub loop-object-preserved : goal.loop-object-preserved
loop-object-preserved c =
    let more = module_more (λ p. p.frame) c.args.modules.now c.loop-object.object-index c.object-item.result c.loop-object-test.true c.object-item.is in
    let i = c.loop-object.invariant in grind (arith, more, i)
