use Rattle.std.proofs.Common.{arith}
use Rattle.signaller.proofs.Telling.{indexes}
use Rattle.signaller.proofs.sweep.segments_of.Goals as goal

pub returns : goal.returns
returns c =
    let i = c.loop-i.invariant in let t = c.loop-i-test.false in let e = c.in_ok-edges.ensures in
    let count = e.count in let most = i.3 in
    indexes c.args.table.now c.loop-i.sweep.segments.items c.in_ok-edges.edges.items c.loop-i.sweep.at i.0.told e (omega arith) (λ j l. i.1 j (omega arith))
