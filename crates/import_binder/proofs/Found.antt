-- What an item stands for that is looked up at a place, by the index.
use Rattle.std.proofs.Common.{◌≡◌, ℕ, List, Option, Some, None, subst, sym, ap, ◌∙◌}
use Rattle.mesa_types.specs.declared.faces.Face.{Face}
use Rattle.config_rules.specs.declared.tree.Exporter.{Exporter}
use Rattle.config_rules.specs.Exporters.{Outlet, exporters}
use Rattle.config_rules.specs.Resolves.{Resolution, Left, among, resolved_at}
use Rattle.import_binder.specs.declared.finder.Place.{Place}
use Rattle.import_binder.specs.declared.key.ExporterKey.{ExporterKey}
use Rattle.import_binder.specs.declared.lookup.IndexedTree.{IndexedTree}
use Rattle.import_binder.specs.Choosing.{AreOf}
use Rattle.import_binder.specs.Index.{listed_under}
use Rattle.import_binder.specs.Looking.{IsIndexed}
use Rattle.import_binder.specs.Places.{spot_at, place_shown}
use Rattle.import_binder.proofs.Outlets.{visible_are}

module _ (i : IndexedTree) (h : IsIndexed i) (face : Face) (name : List ℕ) (place : Option Place) where
  pub nowhere : place ≡ None → Left ≡ resolved_at i.tree.now face name (place_shown place)
  unfolding resolved_at place_shown
  nowhere is = ap (λ o. resolved_at i.tree.now face name (place_shown o)) (sym is)

  -- those that are found under the key are the visible exporters
  found_are : (k : ExporterKey) (es : List Exporter) → es ≡ listed_under k i.exporters.now.entries → AreOf i.tree.now es (exporters i.tree.now (spot_at k.scope k.record_name) k.item)
  found_are k es is =
      let P : List Exporter → Type 0 = λ l. AreOf i.tree.now l (exporters i.tree.now (spot_at k.scope k.record_name) k.item) in
      subst P (sym (is ∙ h.finds k)) (visible_are i.tree.now (spot_at k.scope k.record_name) k.item)

  pub somewhere : (p : Place) → place ≡ Some p → (r item : List ℕ) → r ≡ p.record_name.now → item ≡ name → (es : List Exporter)
      → es ≡ listed_under (record { scope = p.scope; record_name = r; item = item }) i.exporters.now.entries
      → (x : Resolution) → ((all : List Outlet) → AreOf i.tree.now es all → x ≡ among face name all) → x ≡ resolved_at i.tree.now face name (place_shown place)
  unfolding resolved_at place_shown
  somewhere p is r item same_record same_item es found x says =
      says (exporters i.tree.now (spot_at p.scope r) item) (found_are (record { scope = p.scope; record_name = r; item = item }) es found)
      ∙ (λ j. among face name (exporters i.tree.now (spot_at p.scope (same_record j)) (same_item j)))
      ∙ ap (λ o. resolved_at i.tree.now face name (place_shown o)) (sym is)
