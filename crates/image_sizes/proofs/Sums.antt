-- The file of a linked image is within the limit where the sum of the texts' sizes is.
use Rattle.std.specs.Prelude.{◌≡◌, ℕ, ◌+◌, ◌*◌, ◌≤◌, List, length, Some, slice_get}
use Rattle.std.proofs.Common.{ap, arith}
use Rattle.object_files.specs.declared.object.Object.{Object}
use Rattle.config_rules.specs.declared.tree.Tree.{Tree}
use Rattle.config_rules.specs.declared.tree.TreeInstance.{TreeInstance}
use Rattle.link_tables.specs.Linked.{kept, image_of}
use Rattle.file_sizes.specs.Sizes.{total, module_size, image_size}
use Rattle.file_sizes.proofs.Lists.{total_of}
use Rattle.object_sizes.specs.TextSizes.{shape_cost}
use Rattle.image_sizes.specs.Laws.{ComponentsAreShort, LinkedImagesAreShort}
use Rattle.image_sizes.specs.Trees.{instance_cost, at_or_none, left_out, size_sum}
use Rattle.image_sizes.proofs.Images.{linked_images_are_sized}
use Rattle.image_sizes.proofs.Kept.{kept_within}
use Rattle.image_sizes.proofs.Totals.{total_less, total_both}

module _ (t : Tree) (sizes : List ℕ) where
  -- the size of a component's text
  abbrev size_of : ℕ → ℕ
  size_of c = at_or_none (slice_get sizes c)

  size_is : (c s : ℕ) → slice_get sizes c ≡ Some s → size_of c ≡ s
  size_is c s e = ap at_or_none e

  with_each : (n : ℕ) (xs : List TreeInstance) → total (λ (x : TreeInstance). size_of x.component + n) xs ≡ total (λ (x : TreeInstance). size_of x.component) xs + n * length xs
  with_each n xs = omega (arith, total_both (λ (x : TreeInstance). size_of x.component) (λ (x : TreeInstance). n) xs, total_of n xs)

  module _ (objects : List Object) (short : ComponentsAreShort t sizes objects) where
    modules_within : total module_size (kept t.instances 0 objects) ≤ total (λ (x : TreeInstance). size_of x.component) t.instances + 1000 * length t.instances
    modules_within =
        let all = kept_within (λ c. size_of c + 1000) module_size t.instances objects (λ c o e.
        let h = short.objects_short c o e in
        let s = size_is c h.0 h.1 in
        omega (arith, s, h.2)) in
        omega (arith, all, with_each 1000 t.instances)

    instances_within : total instance_cost t.instances ≤ total (λ (x : TreeInstance). size_of x.component) t.instances + 9201 * length t.instances
    instances_within =
        let all = total_less instance_cost (λ (x : TreeInstance). size_of x.component + 9201)
        (λ (x : TreeInstance). (s : ℕ) × (slice_get sizes x.component ≡ Some s) × (shape_cost x.shape ≤ s + 1000))
        (λ x h. let s = size_is x.component h.0 h.1 in omega (arith, s, h.2)) t.instances short.instances_short in
        omega (arith, all, with_each 9201 t.instances)

together : (size modules costs sum out many : ℕ) → size ≤ 24 + modules + costs → modules ≤ sum + 1000 * many → costs ≤ sum + 9201 * many → sum + out ≤ 200000000 → many ≤ 1024
    → size ≤ 536870912
together size modules costs sum out many a b c d e = omega (arith, a, b, c, d, e)

pub linked_images_are_short : LinkedImagesAreShort
unfolding size_sum
linked_images_are_short t sizes objects tree spelled few short within =
    together (image_size (image_of t objects)) (total module_size (kept t.instances 0 objects)) (total instance_cost t.instances)
    (total (λ (x : TreeInstance). at_or_none (slice_get sizes x.component)) t.instances) (left_out t.instances 0 sizes) (length t.instances)
    (linked_images_are_sized t objects tree spelled) (modules_within t sizes objects short) (instances_within t sizes objects short) within few
