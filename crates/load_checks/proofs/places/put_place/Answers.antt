use Rattle.std.proofs.Common.{List, sym, ap, ◌∙◌}
use Rattle.std.specs.Map.{set_value}
use Rattle.indexmap.specs.IndexMap.{insert_entry}
use Rattle.load_checks.specs.declared.places.Numbered.{Numbered}
use Rattle.link_tables.specs.Keys.{same_key}
use Rattle.load_checks.proofs.Placing.{put_present, put_absent}
use Rattle.load_checks.proofs.places.put_place.Goals as goal

pub returns-in-Some : goal.returns-in-Some
returns-in-Some c =
    let written = (c.get_mut.follows.holds c.push.new.self).0 in
    written ∙ ap (λ (l : List Numbered). set_value (same_key c.args.key) c.args.places.now.entries l) c.in_ok-push.ensures.ok
    ∙ put_present c.args.key c.args.item c.args.places.now.entries c.in-Some.items.now (sym c.in-Some.ensures.value)

pub returns : goal.returns
returns c =
    c.in_ok-insert.ensures.entries
    ∙ (λ j. insert_entry same_key (c.get_mut.follows.holds-at-none j).entries c.args.key (c.in_ok-items.ensures j))
    ∙ put_absent c.args.key c.args.item c.args.places.now.entries (sym c.in_default.ensures.value)
