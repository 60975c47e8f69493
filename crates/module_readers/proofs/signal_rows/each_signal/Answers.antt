use Rattle.file_forms.proofs.Loops.{each_goes_on, each_is_cut, each_is_done}
use Rattle.object_rules.specs.ModuleForms.{signal}
use Rattle.module_readers.proofs.signal_rows.each_signal.Goals as goal

pub signals-preserved : goal.signals-preserved
signals-preserved c =
    each_goes_on (λ _. signal) c.args.count c.signals.counter c.signals.all c.push.new.self c.in-Ok.signal c.signals.input.rest.now c.signal.new.input.rest.now _
    c.signals-test.true c.signals.invariant c.in-Ok.ensures c.in_ok-push.ensures.ok

pub returns-in-Err : goal.returns-in-Err
returns-in-Err c = λ other.
    each_is_cut (λ _. signal) c.args.count c.signals.counter c.signals.all c.in-Err.why c.signals.input.rest.now _
    c.signals-test.true c.signals.invariant (c.in-Err.ensures other)

pub returns : goal.returns
returns c = each_is_done (λ _. signal) c.args.count c.signals.counter c.signals.all c.signals.input.rest.now _ c.signals-test.false c.signals.invariant
