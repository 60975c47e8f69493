use Rattle.std.proofs.Common.{arith}
use Rattle.code_forms.proofs.Passing.{same_length, unset_more}
use Rattle.code_forms.proofs.settling.unsettle.Goals as goal

pub loop-number-preserved : goal.loop-number-preserved
loop-number-preserved c =
    let i = c.loop-number.invariant in
    let n = same_length c.loop-number.code c.args.code.now i.0 in
    let t = c.loop-number-test.true in let e = c.len-number-end.ensures in
    unset_more c.loop-number.code c.as_slice.result.now c.set.new.self _ c.loop-number.number c.as_slice.ensures c.set.ensures (omega (arith, n, t, e)) i.0 i.1
