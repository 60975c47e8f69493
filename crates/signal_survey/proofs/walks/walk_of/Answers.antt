use Rattle.std.proofs.Common.{arith}
use Rattle.signal_survey.proofs.Fresh.{has_places, is_resting}
use Rattle.signal_survey.proofs.walks.walk_of.Goals as goal

pub returns-clause-places : goal.returns-clause-places
returns-clause-places c =
    has_places c.args.image.now c.loop-instance.marks c.loop-instance.instance
    (let t = c.loop-instance-test.false in let e = c.len-instance-end.ensures in omega (arith, t, e)) c.loop-instance.invariant

pub returns-clause-rests : goal.returns-clause-rests
returns-clause-rests c = is_resting c.args.image.now c.loop-instance.instance (record { marks = c.loop-instance.marks; work = c.new.result }) c.loop-instance.invariant c.new.ensures.items
