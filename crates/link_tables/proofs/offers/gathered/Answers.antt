use Rattle.std.proofs.Common.{◌++◌, ap, ◌∙◌, sym}
use Rattle.link_tables.specs.Gathered.{taken, is_out}
use Rattle.link_tables.proofs.Gathering.{out_more}
use Rattle.link_tables.proofs.offers.gathered.Goals as goal

pub loop-entry-preserved : goal.loop-entry-preserved
loop-entry-preserved c = λ r.
    c.in_ok-note_entry.ensures r ∙ ap (λ l. l ++ taken (is_out r c.entry-item.result) c.entry-item.result.exporter) (c.loop-entry.invariant r)
    ∙ sym (out_more c.args.entries.now c.loop-entry.entry-index c.entry-item.result r c.loop-entry-test.true c.entry-item.is)
