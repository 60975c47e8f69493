use Rattle.file_forms.proofs.Loops.{each_goes_on, each_is_cut, each_is_done}
use Rattle.object_rules.specs.ModuleForms.{text}
use Rattle.module_readers.proofs.string_rows.each_text.Goals as goal

pub texts-preserved : goal.texts-preserved
texts-preserved c =
    each_goes_on (λ _. text) c.args.count c.texts.counter c.texts.all c.push.new.self c.in-Ok.text c.texts.input.rest.now c.text.new.input.rest.now _
    c.texts-test.true c.texts.invariant c.in-Ok.ensures c.in_ok-push.ensures.ok

pub returns-in-Err : goal.returns-in-Err
returns-in-Err c = λ other.
    each_is_cut (λ _. text) c.args.count c.texts.counter c.texts.all c.in-Err.why c.texts.input.rest.now _
    c.texts-test.true c.texts.invariant (c.in-Err.ensures other)

pub returns : goal.returns
returns c = each_is_done (λ _. text) c.args.count c.texts.counter c.texts.all c.texts.input.rest.now _ c.texts-test.false c.texts.invariant
