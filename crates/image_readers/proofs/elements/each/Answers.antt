use Rattle.file_forms.proofs.Loops.{each_goes_on, each_is_cut, each_is_done}
use Rattle.image_readers.proofs.elements.each.Goals as goal

pub elements-preserved : goal.elements-preserved
elements-preserved g c =
    each_goes_on (g.E.Element.form c.args.element.now) c.args.count c.elements.counter c.elements.all c.push.new.self c.in-Ok.one c.elements.input.rest.now c.read.new.input.rest.now _
    c.elements-test.true c.elements.invariant c.in-Ok.ensures c.in_ok-push.ensures.ok

pub returns-in-Err : goal.returns-in-Err
returns-in-Err g c = λ other.
    each_is_cut (g.E.Element.form c.args.element.now) c.args.count c.elements.counter c.elements.all c.in-Err.why c.elements.input.rest.now _
    c.elements-test.true c.elements.invariant (c.in-Err.ensures other)

pub returns : goal.returns
returns g c = each_is_done (g.E.Element.form c.args.element.now) c.args.count c.elements.counter c.elements.all c.elements.input.rest.now _ c.elements-test.false c.elements.invariant
