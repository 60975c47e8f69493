use Rattle.std.proofs.Common.{arith}
use Rattle.survey_code.proofs.Endings.{starts_so, goes_on_so, stops_so, ends_so}
use Rattle.survey_code.proofs.ending.ending_of.Goals as goal

pub loop-at-init : goal.loop-at-init
loop-at-init c m tell =
    starts_so m c.args.procedure.now c.args.arm.now c.as_slice-code.result.now c.as_slice-code.ensures c.entries_before-at.result c.entries_before-at.ensures.before

pub returns-then-arm-code : goal.returns-then-arm-code
returns-then-arm-code c m tell =
    stops_so m c.args.procedure.now c.args.arm.now c.as_slice-code.result.now c.as_slice-code.ensures c.requires.order c.loop-at.at c.loop-at-test.true _ c.if-arm-code.true c.loop-at.ending
    (c.loop-at.invariant m tell)

pub loop-at-preserved : goal.loop-at-preserved
loop-at-preserved c m tell =
    goes_on_so m c.args.procedure.now c.args.arm.now c.as_slice-code.result.now c.as_slice-code.ensures c.args.marks.now tell c.entries_before-at.result c.loop-at.at c.entries_before-at.ensures.rest
    c.loop-at.auto.at c.loop-at-test.true _ _ (let l = c.if-arm-code.false in omega (arith, l)) c.loop-at.ending c.ending_by-ending.result c.ending_by-ending.ensures (c.loop-at.invariant m tell)

pub returns : goal.returns
returns c m tell =
    ends_so m c.args.procedure.now c.args.arm.now c.as_slice-code.result.now c.as_slice-code.ensures c.requires.order c.loop-at.at (let l = c.loop-at-test.false in omega (arith, l)) c.loop-at.ending
    (c.loop-at.invariant m tell)
