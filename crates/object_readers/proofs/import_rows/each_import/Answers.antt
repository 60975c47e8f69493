use Rattle.file_forms.proofs.Loops.{each_goes_on, each_is_cut, each_is_done}
use Rattle.object_rules.specs.ModuleForms.{import_form}
use Rattle.object_readers.proofs.import_rows.each_import.Goals as goal

pub imports-preserved : goal.imports-preserved
imports-preserved c =
    each_goes_on (λ _. import_form c.args.version) c.args.count c.imports.counter c.imports.all c.in_ok-all.all c.in-Ok.import c.imports.input.rest.now c.import.new.input.rest.now _
    c.imports-test.true c.imports.invariant c.in-Ok.ensures c.in_ok-all.ensures

pub returns-in-Err : goal.returns-in-Err
returns-in-Err c = λ other.
    each_is_cut (λ _. import_form c.args.version) c.args.count c.imports.counter c.imports.all c.in-Err.why c.imports.input.rest.now _
    c.imports-test.true c.imports.invariant (c.in-Err.ensures other)

pub returns : goal.returns
returns c = each_is_done (λ _. import_form c.args.version) c.args.count c.imports.counter c.imports.all c.imports.input.rest.now _ c.imports-test.false c.imports.invariant
