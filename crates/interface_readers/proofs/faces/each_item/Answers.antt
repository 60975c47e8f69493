use Rattle.file_forms.specs.Names.{fresh_name}
use Rattle.face_rules.specs.FaceForms.{item_named, item_names}
use Rattle.file_forms.proofs.Loops.{each_goes_on, each_is_cut, each_is_done}
use Rattle.interface_readers.proofs.faces.each_item.Goals as goal

pub items-preserved : goal.items-preserved
items-preserved c = record {
  reads = each_goes_on (λ before. item_named (fresh_name (item_names before)) c.args.version) c.args.count c.items.counter c.items.all c.in_ok-all.all c.in-Ok.item c.items.input.rest.now c.fresh_item.new.input.rest.now _ c.items-test.true c.items.invariant.reads (c.in-Ok.ensures _ c.items.invariant.shows) c.in_ok-all.ensures.0;
  shows = c.in_ok-all.ensures.1;
}

pub returns-in-Err-clause-read : goal.returns-in-Err-clause-read
returns-in-Err-clause-read c = λ other. each_is_cut (λ before. item_named (fresh_name (item_names before)) c.args.version) c.args.count c.items.counter c.items.all c.in-Err.why c.items.input.rest.now _ c.items-test.true c.items.invariant.reads (c.in-Err.ensures _ c.items.invariant.shows other)

pub returns-clause-read : goal.returns-clause-read
returns-clause-read c = each_is_done (λ before. item_named (fresh_name (item_names before)) c.args.version) c.args.count c.items.counter c.items.all c.items.input.rest.now _ c.items-test.false c.items.invariant.reads
