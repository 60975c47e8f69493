use Rattle.std.proofs.Common.{arith}
use Rattle.signal_survey.proofs.Ordering.{first_preceding, all_there}
use Rattle.signal_survey.proofs.signals.signals_of.Goals as goal

pub loop-instance-init : goal.loop-instance-init
loop-instance-init c = first_preceding c.args.image.now c.in_ok-signals.signals c.in_ok-signals.ensures

pub returns-clause-all : goal.returns-clause-all
returns-clause-all c =
    all_there c.args.image.now c.loop-instance.instance c.loop-instance.signals
    (let t = c.loop-instance-test.false in let e = c.len-instance-end.ensures in omega (arith, t, e)) c.loop-instance.invariant
