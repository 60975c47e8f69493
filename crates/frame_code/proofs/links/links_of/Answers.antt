use Rattle.std.proofs.Common.{sym, ◌∙◌}
use Rattle.frame_code.proofs.Linked.{import_more, no_import, import_whole, import_there}
use Rattle.frame_code.proofs.links.links_of.Goals as goal

pub loop-import-init : goal.loop-import-init
loop-import-init c = c.new-links.ensures ∙ no_import

pub loop-import-preserved : goal.loop-import-preserved
loop-import-preserved c =
    import_more c.args.imports.now c.loop-import.import-index c.import-item.result c.loop-import.links c.put_used.new.links c.loop-import-test.true
    (sym c.import-item.is) c.in_ok-put_used.ensures c.loop-import.invariant

pub returns : goal.returns
returns c = import_whole c.args.imports.now c.loop-import.import-index c.loop-import.links c.loop-import-test.false c.loop-import.invariant

pub put_used-requires : goal.put_used-requires
put_used-requires c = import_there c.args.imports.now c.loop-import.import-index c.import-item.result c.requires c.loop-import-test.true c.import-item.is
