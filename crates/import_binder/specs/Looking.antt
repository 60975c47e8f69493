-- A tree with its indexes.
use Rattle.std.specs.Prelude.{◌≡◌}
use Rattle.config_tree.specs.Outward.{imported, outsides, shown}
use Rattle.import_binder.specs.declared.lookup.IndexedTree.{IndexedTree}
use Rattle.import_binder.specs.Exporting.{FindsExporters}
use Rattle.import_binder.specs.InOrder.{IsInOrder}

-- the tree is in order, and the indexes are those of it
pub record IsIndexed (i : IndexedTree) : Type 0 where
  pub order : IsInOrder i.tree.now
  pub records : shown i.imported.now ≡ outsides imported i.tree.now
  pub finds : FindsExporters i.tree.now i.exporters.now.entries
