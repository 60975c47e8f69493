use Rattle.std.proofs.Common.{arith}
use Rattle.machine_ready.proofs.Largest.{procedure_more}
use Rattle.machine_ready.proofs.sizes.largest_frame_of.Goals as goal

pub loop-procedure-preserved : goal.loop-procedure-preserved
loop-procedure-preserved c =
    let more = procedure_more (λ p. p.frame) c.args.least c.args.procedures.now c.loop-procedure.procedure-index c.procedure-item.result c.loop-procedure-test.true c.procedure-item.is in
    let i = c.loop-procedure.invariant in grind (arith, more, i)
