use Rattle.config_rules.specs.declared.tree.Outgoing.{Outgoing}
use Rattle.config_rules.specs.Outgoing.{export_of}
use Rattle.import_binder.specs.Index.{mentions_by}
use Rattle.import_binder.proofs.Looping.{one_more}
use Rattle.import_binder.proofs.index.index_of.Goals as goal

pub loop-entry-preserved : goal.loop-entry-preserved
loop-entry-preserved c =
    one_more (λ (g : Outgoing). mentions_by g (export_of c.args.tree.now g.exporter)) c.loop-entry.index.entries c.args.entries.now c.loop-entry.entry-index _
    c.note_entry.new.index.entries c.entry-item.result c.entry-item.result c.loop-entry-test.true c.entry-item.is c.in_ok-note_entry.ensures c.loop-entry.invariant
