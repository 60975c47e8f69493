use Rattle.survey_code.proofs.Passings.{one_ending}
use Rattle.survey_code.proofs.passing.endings_of.Goals as goal

pub loop-arm-preserved : goal.loop-arm-preserved
loop-arm-preserved c =
    let w = c.loop-arm.invariant in
    one_ending c.args.procedure.now c.args.marks.now c.args.arms.now c.loop-arm.endings c.push.new.self c.arm-item.result c.ending_of.result c.loop-arm.arm-index w.0 c.loop-arm-test.true c.arm-item.is w.1
    c.ending_of.ensures c.in_ok-push.ensures.ok
