use Rattle.std.proofs.Common.{List, ap, ◌∙◌}
use Rattle.config_rules.specs.declared.tree.RecordPair.{RecordPair}
use Rattle.config_rules.specs.declared.tree.Outgoing.{Outgoing}
use Rattle.link_tables.specs.Gathered.{under, exporters_out, offers_by}
use Rattle.link_tables.proofs.Gathering.{if_ok, offers_there, no_offers}
use Rattle.link_tables.proofs.offers.offers_of.Goals as goal

pub returns-in-Some : goal.returns-in-Some
returns-in-Some c =
    if_ok c.all_under.result _ _
    (λ made h.
    h ∙ ap (λ (ps : List RecordPair). offers_by (under c.in_ok-index.index) ps) c.as_slice-in-Some.ensures
    ∙ offers_there c.args.tree.now c.requires (under c.in_ok-index.index)
    (λ r. c.in_ok-index.ensures r ∙ ap (λ (gs : List Outgoing). exporters_out gs r) (c.as_slice.ensures ∙ c.in_ok-entries.ensures))
    c.in-Some.outermost.now c.in-Some.ensures)
    c.all_under.ensures

pub returns : goal.returns
returns c = c.new.ensures ∙ no_offers c.args.tree.now c.requires c.in-None.ensures
