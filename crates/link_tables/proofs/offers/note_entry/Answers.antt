use Rattle.std.proofs.Common.{◌++◌, ap, ◌∙◌}
use Rattle.link_tables.specs.Gathered.{under, taken, TakesEntry}
use Rattle.link_tables.proofs.Gathering.{on_ok, not_out, is_its}
use Rattle.link_tables.proofs.offers.note_entry.Goals as goal

pub returns-then-entry-ne0 : goal.returns-then-entry-ne0
returns-then-entry-ne0 c = λ r. not_out (under c.args.index.now r) c.args.entry.now r c.if-entry-ne0.true

pub returns : goal.returns
returns c =
    on_ok c.note.result _ (TakesEntry c.args.index.now c.note.new.index c.args.entry.now)
    (λ h r. h r ∙ ap (λ b. under c.args.index.now r ++ taken b c.args.entry.now.exporter) (is_its c.args.entry.now r c.if-entry-ne0.false))
    c.note.ensures
