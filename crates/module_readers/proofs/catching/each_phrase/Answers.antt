use Rattle.file_forms.proofs.Loops.{each_goes_on, each_is_cut, each_is_done}
use Rattle.object_rules.specs.CatchForms.{phrase}
use Rattle.module_readers.proofs.catching.each_phrase.Goals as goal

pub phrases-preserved : goal.phrases-preserved
phrases-preserved c =
    each_goes_on (λ _. phrase c.args.signals.now c.args.links.now) c.args.count c.phrases.counter c.phrases.all c.push.new.self c.in-Ok.phrase c.phrases.input.rest.now c.phrase.new.input.rest.now _
    c.phrases-test.true c.phrases.invariant c.in-Ok.ensures c.in_ok-push.ensures.ok

pub returns-in-Err : goal.returns-in-Err
returns-in-Err c = λ other.
    each_is_cut (λ _. phrase c.args.signals.now c.args.links.now) c.args.count c.phrases.counter c.phrases.all c.in-Err.why c.phrases.input.rest.now _
    c.phrases-test.true c.phrases.invariant (c.in-Err.ensures other)

pub returns : goal.returns
returns c = each_is_done (λ _. phrase c.args.signals.now c.args.links.now) c.args.count c.phrases.counter c.phrases.all c.phrases.input.rest.now _ c.phrases-test.false c.phrases.invariant
