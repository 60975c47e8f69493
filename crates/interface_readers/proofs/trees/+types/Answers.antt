use Rattle.face_rules.specs.TypeForms.{any, field_form, type_form}
use Rattle.file_forms.proofs.Loops.{each_goes_on, each_is_cut, each_is_done}
use Rattle.interface_readers.proofs.trees.+types.Goals as goal

pub each_field-fields-preserved : goal.each_field-fields-preserved
each_field-fields-preserved t c = record {
  reads = each_goes_on (field_form (type_form c.args.version c.args.levels any)) c.args.count c.fields.counter c.fields.all c.in_ok-all.all c.in-Ok.field c.fields.input.rest.now c.field.new.input.rest.now _ c.fields-test.true c.fields.invariant.reads c.in-Ok.ensures c.in_ok-all.ensures.0;
  shows = c.in_ok-all.ensures.1;
}

pub each_field-returns-in-Err : goal.each_field-returns-in-Err
each_field-returns-in-Err t c = λ other. each_is_cut (field_form (type_form c.args.version c.args.levels any)) c.args.count c.fields.counter c.fields.all c.in-Err.why c.fields.input.rest.now _ c.fields-test.true c.fields.invariant.reads (c.in-Err.ensures other)

pub each_field-returns : goal.each_field-returns
each_field-returns t c = each_is_done (field_form (type_form c.args.version c.args.levels any)) c.args.count c.fields.counter c.fields.all c.fields.input.rest.now _ c.fields-test.false c.fields.invariant.reads
