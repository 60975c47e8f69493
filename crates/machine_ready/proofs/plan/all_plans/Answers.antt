use Rattle.machine_ready.specs.Ready.{IsPlanned}
use Rattle.machine_ready.proofs.Each.{zip_more, zip_all}
use Rattle.machine_ready.proofs.plan.all_plans.Goals as goal

pub loop-object-preserved : goal.loop-object-preserved
loop-object-preserved c =
    zip_more IsPlanned c.args.modules.now c.loop-object.plans c.push.new.self c.loop-object.object-index c.object-item.result c.in_ok-plans_of_object.field-0
    c.loop-object-test.true c.object-item.is c.in_ok-push.ensures.ok c.loop-object.invariant c.in_ok-plans_of_object.ensures

pub returns : goal.returns
returns c = zip_all IsPlanned c.args.modules.now c.loop-object.plans c.loop-object.object-index c.loop-object-test.false c.loop-object.invariant
