use Rattle.file_forms.proofs.Loops.{each_goes_on, each_is_cut, each_is_done}
use Rattle.object_rules.specs.CatchForms.{label}
use Rattle.module_readers.proofs.catching.each_label.Goals as goal

pub labels-preserved : goal.labels-preserved
labels-preserved c =
    each_goes_on (λ _. label c.args.signals.now c.args.links.now) c.args.count c.labels.counter c.labels.all c.push.new.self c.in-Ok.label c.labels.input.rest.now c.label.new.input.rest.now _
    c.labels-test.true c.labels.invariant c.in-Ok.ensures c.in_ok-push.ensures.ok

pub returns-in-Err : goal.returns-in-Err
returns-in-Err c = λ other.
    each_is_cut (λ _. label c.args.signals.now c.args.links.now) c.args.count c.labels.counter c.labels.all c.in-Err.why c.labels.input.rest.now _
    c.labels-test.true c.labels.invariant (c.in-Err.ensures other)

pub returns : goal.returns
returns c = each_is_done (λ _. label c.args.signals.now c.args.links.now) c.args.count c.labels.counter c.labels.all c.labels.input.rest.now _ c.labels-test.false c.labels.invariant
