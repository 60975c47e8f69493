use Rattle.file_forms.proofs.Loops.{each_goes_on, each_is_cut, each_is_done}
use Rattle.std.specs.Prelude.{map}
use Rattle.object_rules.specs.ModuleForms.{export_form}
use Rattle.object_rules.specs.Parts.{procedure_part}
use Rattle.object_readers.proofs.export_rows.each_export.Goals as goal

pub exports-preserved : goal.exports-preserved
exports-preserved c =
    each_goes_on (λ _. export_form c.args.version c.args.signals.now (map procedure_part c.args.procedures.now)) c.args.count c.exports.counter c.exports.all c.in_ok-all.all c.in-Ok.export c.exports.input.rest.now c.export.new.input.rest.now _
    c.exports-test.true c.exports.invariant c.in-Ok.ensures c.in_ok-all.ensures

pub returns-in-Err : goal.returns-in-Err
returns-in-Err c = λ other.
    each_is_cut (λ _. export_form c.args.version c.args.signals.now (map procedure_part c.args.procedures.now)) c.args.count c.exports.counter c.exports.all c.in-Err.why c.exports.input.rest.now _
    c.exports-test.true c.exports.invariant (c.in-Err.ensures other)

pub returns : goal.returns
returns c = each_is_done (λ _. export_form c.args.version c.args.signals.now (map procedure_part c.args.procedures.now)) c.args.count c.exports.counter c.exports.all c.exports.input.rest.now _ c.exports-test.false c.exports.invariant
