use Rattle.file_forms.proofs.Loops.{each_goes_on, each_is_cut, each_is_done}
use Rattle.object_rules.specs.CatchForms.{arm}
use Rattle.module_readers.proofs.catching.each_arm.Goals as goal

pub arms-preserved : goal.arms-preserved
arms-preserved c =
    each_goes_on (λ _. arm c.args.signals.now c.args.links.now) c.args.count c.arms.counter c.arms.all c.push.new.self c.in-Ok.arm c.arms.input.rest.now c.arm.new.input.rest.now _
    c.arms-test.true c.arms.invariant c.in-Ok.ensures c.in_ok-push.ensures.ok

pub returns-in-Err : goal.returns-in-Err
returns-in-Err c = λ other.
    each_is_cut (λ _. arm c.args.signals.now c.args.links.now) c.args.count c.arms.counter c.arms.all c.in-Err.why c.arms.input.rest.now _
    c.arms-test.true c.arms.invariant (c.in-Err.ensures other)

pub returns : goal.returns
returns c = each_is_done (λ _. arm c.args.signals.now c.args.links.now) c.args.count c.arms.counter c.arms.all c.arms.input.rest.now _ c.arms-test.false c.arms.invariant
