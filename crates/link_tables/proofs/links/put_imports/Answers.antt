use Rattle.link_tables.specs.Passes.{pass}
use Rattle.link_tables.proofs.Passing.{one_more}
use Rattle.link_tables.proofs.links.put_imports.Goals as goal

pub loop-import-preserved : goal.loop-import-preserved
loop-import-preserved c = record {
  done = one_more c.args.bindings.now (pass c.loop-import.wanting.entries c.loop-import.table) (pass c.put_import.new.wanting.entries c.put_import.new.table) _
      c.args.imports.now c.loop-import.import-index c.import-item.result c.loop-import-test.true c.import-item.is c.in_ok-put_import.ensures.bound c.loop-import.invariant.done;
  indexed = c.in_ok-put_import.ensures.indexed;
}
