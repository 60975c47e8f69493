use Rattle.file_forms.specs.Names.{fresh_name}
use Rattle.file_forms.proofs.Loops.{each_goes_on, each_is_cut, each_is_done}
use Rattle.file_forms.proofs.cursor.FileCursor.distinct_names.Goals as goal

pub names-preserved : goal.names-preserved
names-preserved c = record {
  reads = each_goes_on fresh_name c.args.count c.names.counter c.names.all c.push.new.self c.in-Ok.name c.names.self.rest.now c.fresh_name.new.self.rest.now _ c.names-test.true c.names.invariant.reads (c.in-Ok.ensures _ c.names.invariant.shows) c.in_ok-push.ensures.ok;
  shows = rw (c.in_ok-push.ensures.ok, ← c.bytes.ensures) (c.in_ok-add.ensures _ c.names.invariant.shows);
}

pub returns-in-Err : goal.returns-in-Err
returns-in-Err c = λ other. each_is_cut fresh_name c.args.count c.names.counter c.names.all c.in-Err.why c.names.self.rest.now _ c.names-test.true c.names.invariant.reads (c.in-Err.ensures _ c.names.invariant.shows other)

pub returns : goal.returns
returns c = each_is_done fresh_name c.args.count c.names.counter c.names.all c.names.self.rest.now _ c.names-test.false c.names.invariant.reads
