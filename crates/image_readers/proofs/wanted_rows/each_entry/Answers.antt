use Rattle.file_forms.proofs.Loops.{each_goes_on, each_is_cut, each_is_done}
use Rattle.object_rules.specs.ImageForms.{entry}
use Rattle.image_readers.proofs.wanted_rows.each_entry.Goals as goal

pub entries-preserved : goal.entries-preserved
entries-preserved c =
    each_goes_on (λ _. entry c.args.version) c.args.count c.entries.counter c.entries.all c.in_ok-all.all c.in-Ok.entry c.entries.input.rest.now c.entry.new.input.rest.now _
    c.entries-test.true c.entries.invariant c.in-Ok.ensures c.in_ok-all.ensures

pub returns-in-Err : goal.returns-in-Err
returns-in-Err c = λ other.
    each_is_cut (λ _. entry c.args.version) c.args.count c.entries.counter c.entries.all c.in-Err.why c.entries.input.rest.now _
    c.entries-test.true c.entries.invariant (c.in-Err.ensures other)

pub returns : goal.returns
returns c = each_is_done (λ _. entry c.args.version) c.args.count c.entries.counter c.entries.all c.entries.input.rest.now _ c.entries-test.false c.entries.invariant
