use Rattle.machine_ready.specs.Ready.{IsPlan}
use Rattle.machine_ready.proofs.Each.{zip_more, zip_all}
use Rattle.machine_ready.proofs.plan.plans_of.Goals as goal

pub loop-procedure-preserved : goal.loop-procedure-preserved
loop-procedure-preserved c =
    zip_more IsPlan c.args.procedures.now c.loop-procedure.plans c.push.new.self c.loop-procedure.procedure-index c.procedure-item.result c.in_ok-plan_of.field-0
    c.loop-procedure-test.true c.procedure-item.is c.in_ok-push.ensures.ok c.loop-procedure.invariant c.in_ok-plan_of.ensures

pub returns : goal.returns
returns c = zip_all IsPlan c.args.procedures.now c.loop-procedure.plans c.loop-procedure.procedure-index c.loop-procedure-test.false c.loop-procedure.invariant
