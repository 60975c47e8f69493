-- A linked image by its modules and its instances.
use Rattle.std.specs.Prelude.{◌≡◌, ℕ, ◌+◌, ◌*◌, ◌≤◌, List, [], ◌∷◌, length, map, All}
use Rattle.std.proofs.Common.{refl, arith}
use Rattle.mesa_types.specs.declared.faces.Import.{Import}
use Rattle.interface_records.specs.Spelled.{ShapeCanBeSpelled}
use Rattle.object_files.specs.declared.image.Offer.{Offer}
use Rattle.config_rules.specs.Resolves.{Want, wants_in, wants}
use Rattle.config_rules.specs.declared.tree.Tree.{Tree}
use Rattle.config_rules.specs.declared.tree.TreeInstance.{TreeInstance}
use Rattle.link_tables.specs.Linked.{instance_of, wanted_of, entry_of, links_of, offers, image_of}
use Rattle.checking_laws.specs.UsedItems.{used_items}
use Rattle.file_sizes.specs.Sizes.{total, item_size, entry_size, name_size, instance_size, table_size, offer_size, image_size}
use Rattle.object_sizes.specs.TextSizes.{shape_cost}
use Rattle.image_sizes.specs.Laws.{LinkedImagesAreSized, ShapesCanBeSpelled}
use Rattle.image_sizes.specs.Trees.{PathIsShort, TreeIsShort, instance_cost}
use Rattle.image_sizes.proofs.Totals.{total_map, total_flat, total_less, total_both, total_most}
use Rattle.image_sizes.proofs.Wants.{want_cost, wants_cost, links_cost, wanted_cost}

-- ---- one instance

path_cost : (path : List (List ℕ)) → PathIsShort path → total name_size path ≤ 8192
path_cost path h =
    let names : total name_size path ≤ 256 * length path = total_most name_size 256 (λ (x : List ℕ). length x ≤ 255) (λ x l. omega (arith, l)) path h.names in
    let few : length path ≤ 32 = h.few in
    omega (arith, names, few)

module _ (t : Tree) where
  -- what the used items of an instance cost
  abbrev wanting : TreeInstance → ℕ
  wanting x = total want_cost (wants_in t x)

  wanting_short : (x : TreeInstance) → ShapeCanBeSpelled x.shape
      → wanting x ≤ 271 * used_items x.shape.imports + total (λ (i : Import). total item_size i.face.items) x.shape.imports
  wanting_short x h = wants_cost t x x.imports x.shape.imports h.imports

  -- ---- all instances

  instances_cost : All (λ (x : TreeInstance). PathIsShort x.path) t.instances → total instance_size (map (instance_of t.instances) t.instances)
      ≤ total (λ (x : TreeInstance). 8197) t.instances
  instances_cost h =
      let same : total instance_size (map (instance_of t.instances) t.instances) ≡ total (λ (x : TreeInstance). 5 + total name_size x.path) t.instances =
      total_map instance_size (instance_of t.instances) t.instances in
      let each = total_less (λ (x : TreeInstance). 5 + total name_size x.path) (λ (x : TreeInstance). 8197) (λ (x : TreeInstance). PathIsShort x.path)
      (λ x p. let q = path_cost x.path p in omega (arith, q)) t.instances h in
      omega (arith, same, each)

  tables_cost : total table_size (map (links_of t) t.instances) ≤ total (λ (x : TreeInstance). total (λ (w : Want). 9) (wants_in t x)) t.instances
  tables_cost =
      let same : total table_size (map (links_of t) t.instances) ≡ total (λ (x : TreeInstance). table_size (links_of t x)) t.instances =
      total_map table_size (links_of t) t.instances in
      let each = total_less (λ (x : TreeInstance). table_size (links_of t x)) (λ (x : TreeInstance). total (λ (w : Want). 9) (wants_in t x)) (λ x. Unit {0})
      (λ x p. links_cost (wanted_of (wants t)) (wants_in t x)) t.instances (λ k d l. tt) in
      omega (arith, same, each)

  entries_cost : total entry_size (wanted_of (wants t)) ≤ total (λ (x : TreeInstance). total (λ (w : Want). entry_size (entry_of w)) (wants_in t x)) t.instances
  entries_cost = omega (arith, wanted_cost (wants t), total_flat (λ (w : Want). entry_size (entry_of w)) (wants_in t) t.instances)

  wanting_cost : (xs : List TreeInstance) → total wanting xs ≡ total (λ (x : TreeInstance). total (λ (w : Want). 9) (wants_in t x)) xs
      + total (λ (x : TreeInstance). total (λ (w : Want). entry_size (entry_of w)) (wants_in t x)) xs
  unfolding total
  wanting_cost [] = refl
  wanting_cost (x ∷ xs) = omega (arith, total_both (λ (w : Want). 9) (λ (w : Want). entry_size (entry_of w)) (wants_in t x), wanting_cost xs)

  offers_cost : TreeIsShort t → total offer_size (offers t) ≤ 264 * length (offers t)
  offers_cost h = total_most offer_size 264 (λ (o : Offer). length o.name ≤ 255) (λ o l. omega (arith, l)) (offers t) h.records

  -- what each instance adds, its shape aside and by its shape
  costs_are : (xs : List TreeInstance) → total instance_cost xs ≡ total (λ (x : TreeInstance). 8197) xs + 4 * length xs
      + total (λ (x : TreeInstance). 271 * used_items x.shape.imports + total (λ (i : Import). total item_size i.face.items) x.shape.imports) xs
      + 264 * total (λ (x : TreeInstance). length x.shape.exports) xs
  unfolding total shape_cost
  costs_are [] = refl
  costs_are (x ∷ xs) = omega (arith, costs_are xs)

  shapes_cost : ShapesCanBeSpelled t → total wanting t.instances
      ≤ total (λ (x : TreeInstance). 271 * used_items x.shape.imports + total (λ (i : Import). total item_size i.face.items) x.shape.imports) t.instances
  shapes_cost h = total_less wanting (λ (x : TreeInstance). 271 * used_items x.shape.imports + total (λ (i : Import). total item_size i.face.items) x.shape.imports)
      (λ (x : TreeInstance). ShapeCanBeSpelled x.shape) wanting_short t.instances h

pub linked_images_are_sized : LinkedImagesAreSized
unfolding image_of image_size
linked_images_are_sized t objects short spelled = omega (
  arith,
  instances_cost t short.paths,
  tables_cost t,
  entries_cost t,
  wanting_cost t t.instances,
  offers_cost t short,
  short.offered,
  short.started,
  costs_are t t.instances,
  shapes_cost t spelled,
)
