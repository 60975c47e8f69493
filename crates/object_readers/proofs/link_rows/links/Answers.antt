use Rattle.std.proofs.Common.{sym, ◌∙◌}
use Rattle.object_readers.proofs.Linked.{import_more, no_import, import_whole}
use Rattle.object_readers.proofs.link_rows.links.Goals as goal

pub loop-import-init : goal.loop-import-init
loop-import-init c = c.new-links.ensures ∙ no_import

pub loop-import-preserved : goal.loop-import-preserved
loop-import-preserved c =
    import_more c.args.imports.now c.loop-import.import-index c.import-item.result c.loop-import.links c.put_used.new.links c.loop-import-test.true
    (sym c.import-item.is) c.in_ok-put_used.ensures c.loop-import.invariant

pub returns : goal.returns
returns c = import_whole c.args.imports.now c.loop-import.import-index c.loop-import.links c.loop-import-test.false c.loop-import.invariant
