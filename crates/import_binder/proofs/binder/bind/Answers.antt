use Rattle.std.proofs.Common.{subst, sym, ap, ◌∙◌}
use Rattle.import_binder.specs.Exporting.{HoldsExporters}
use Rattle.import_binder.specs.Index.{Entries, listed_under}
use Rattle.import_binder.proofs.Bound.{are_bindings}
use Rattle.import_binder.proofs.Holding.{index_holds_exporters}
use Rattle.import_binder.proofs.Indexing.{index_finds}
use Rattle.import_binder.proofs.Ordered.{each_gives_once}
use Rattle.import_binder.proofs.binder.bind.Goals as goal

pub all_links-requires : goal.all_links-requires
all_links-requires c = record {
  order = c.requires;
  records = c.in_ok-imported.ensures;
  finds = λ k. ap (listed_under k) c.in_ok-exporters.ensures ∙ index_finds c.args.tree.now (each_gives_once c.args.tree.now c.requires) c.requires.tree.inward k;
}

pub returns-clause-ok : goal.returns-clause-ok
returns-clause-ok c = record {
  none_bad = c.in_ok-links.ensures.none_bad;
  links_are = are_bindings c.args.tree.now c.before.in_ok-links.links c.in_ok-links.ensures.ok;
  exporters_are =
      let P : Entries → Type 0 = λ es. HoldsExporters c.args.tree.now es in
      subst P (sym c.in_ok-exporters.ensures) (index_holds_exporters c.args.tree.now c.requires);
}
