use Rattle.std.proofs.Common.{List, sym, ap, ◌∙◌}
use Rattle.std.specs.Map.{set_value}
use Rattle.indexmap.specs.IndexMap.{insert_entry}
use Rattle.config_rules.specs.declared.tree.Exporter.{Exporter}
use Rattle.import_binder.specs.Keys.{same_key}
use Rattle.import_binder.proofs.Putting.{put_present, put_absent}
use Rattle.import_binder.proofs.index.note.Goals as goal

pub returns-in-Some : goal.returns-in-Some
returns-in-Some c =
    let written = (c.get_mut.follows.holds c.push.new.self).0 in
    let value = c.in-Some.ensures.value in
    let pushed = c.in_ok-push.ensures.ok in
    written ∙ ap (λ (l : List Exporter). set_value (same_key c.args.key) c.args.index.now.entries l) pushed
    ∙ put_present c.args.key c.args.exporter c.args.index.now.entries c.in-Some.exporters.now (sym value)

pub returns : goal.returns
returns c =
    c.in_ok-insert.ensures.entries
    ∙ (λ j. insert_entry same_key (c.get_mut.follows.holds-at-none j).entries c.args.key (c.in_ok-exporters.ensures j))
    ∙ put_absent c.args.key c.args.exporter c.args.index.now.entries (sym c.in_default.ensures.value)
