use Rattle.machine_signals.proofs.Numbers.{arm_here, arm_later}
use Rattle.machine_signals.proofs.arms.span_at.Goals as goal

pub returns-then-left-arms : goal.returns-then-left-arms
returns-then-left-arms c =
    arm_here c.args.phrases.now c.loop-phrase.phrase-index c.phrase-item.result c.loop-phrase-test.true c.phrase-item.is c.as_slice-arms.result.now c.as_slice-arms.ensures
    c.loop-phrase.left c.args.number c.index-arms-left.result c.of_arm.result c.if-left-arms.true c.index-arms-left.is c.of_arm.ensures c.loop-phrase.invariant

pub loop-phrase-preserved : goal.loop-phrase-preserved
loop-phrase-preserved c =
    arm_later c.args.phrases.now c.loop-phrase.phrase-index c.phrase-item.result c.loop-phrase-test.true c.phrase-item.is c.as_slice-arms.result.now c.as_slice-arms.ensures
    c.loop-phrase.left c.args.number c.if-left-arms.false c.loop-phrase.invariant
