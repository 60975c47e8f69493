use Rattle.std.proofs.Common.{map}
use Rattle.file_forms.proofs.Loops.{each_goes_on, each_is_cut, each_is_done}
use Rattle.object_rules.specs.ModuleForms.{procedure}
use Rattle.object_rules.specs.Parts.{procedure_part}
use Rattle.module_readers.proofs.Turns.{parts_more, order_more}
use Rattle.module_readers.proofs.procedure_rows.each_procedure.Goals as goal

pub procedures-preserved : goal.procedures-preserved
procedures-preserved c = record {
  reads = each_goes_on (procedure c.args.signals.now c.args.links.now) c.args.count c.procedures.counter (map procedure_part c.procedures.all) (map procedure_part c.push.new.self) (procedure_part c.in-Ok.procedure)
      c.procedures.input.rest.now c.procedure.new.input.rest.now _ c.procedures-test.true c.procedures.invariant.reads c.in-Ok.ensures.read
      (parts_more c.procedures.all c.push.new.self c.in-Ok.procedure c.in_ok-push.ensures.ok);
  order = order_more c.procedures.all c.push.new.self c.in-Ok.procedure c.in_ok-push.ensures.ok c.procedures.invariant.order c.in-Ok.ensures.order;
}

pub returns-in-Err-clause-read : goal.returns-in-Err-clause-read
returns-in-Err-clause-read c = λ other.
    each_is_cut (procedure c.args.signals.now c.args.links.now) c.args.count c.procedures.counter (map procedure_part c.procedures.all) c.in-Err.why c.procedures.input.rest.now _
    c.procedures-test.true c.procedures.invariant.reads (c.in-Err.ensures.read other)

pub returns-clause-read : goal.returns-clause-read
returns-clause-read c =
    each_is_done (procedure c.args.signals.now c.args.links.now) c.args.count c.procedures.counter (map procedure_part c.procedures.all) c.procedures.input.rest.now _
    c.procedures-test.false c.procedures.invariant.reads
