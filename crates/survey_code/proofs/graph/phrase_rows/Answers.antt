use Rattle.std.proofs.Common.{◌<◌, length, arith}
use Rattle.survey_code.proofs.Building.{phrase_step}
use Rattle.survey_code.proofs.graph.phrase_rows.Goals as goal

pub loop-number-preserved : goal.loop-number-preserved
loop-number-preserved c =
    let l : c.loop-number.number < length c.args.procedure.now.phrases = (let t = c.loop-number-test.true in let e = c.len-number-end.ensures in omega (arith, t, e)) in
    phrase_step c.args.procedure.now c.as_slice.result.now c.as_slice-arms.result.now c.args.beyonds.now c.loop-number.rows c.push.new.self c.in_ok-row.row c.loop-number.number
    c.index-as_slice-number.result c.as_slice.ensures c.as_slice-arms.ensures c.loop-number.invariant.0 l c.requires.many c.requires.beyonds c.loop-number.invariant.1 c.in_ok-row.ensures
    c.in_ok-push.ensures.ok
