use Rattle.signal_survey.proofs.Callers.{calls_own, calls_other}
use Rattle.signal_survey.proofs.calling.add_caller.Goals as goal

pub returns-in_ok-push-2 : goal.returns-in_ok-push-2
returns-in_ok-push-2 c =
    calls_other c.args.image.now c.args.it.now c.event_callee.result c.in-Some.callee.instance c.in-Some.callee.procedure c.event_callee.ensures c.in-Some.is c.args.edges.now c.push.new.self
    c.push-then-callee-it.new.self c.if-callee-it.true c.in_ok-push.ensures.ok c.in_ok-push-2.ensures.ok

pub returns-else-callee-it : goal.returns-else-callee-it
returns-else-callee-it c =
    calls_own c.args.image.now c.args.it.now c.event_callee.result c.in-Some.callee.instance c.in-Some.callee.procedure c.event_callee.ensures c.in-Some.is c.args.edges.now c.push.new.self
    c.if-callee-it.false c.in_ok-push.ensures.ok
