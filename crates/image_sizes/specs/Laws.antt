-- The image that is linked from a tree is bounded by its objects and its instances (rule of this project).
use Rattle.std.specs.Prelude.{◌≡◌, ℕ, ◌+◌, ◌≤◌, List, length, All, Some, slice_get}
use Rattle.mesa_base.specs.declared.limits.TheConstants.{FILE_BYTES, INSTANCES}
use Rattle.interface_records.specs.Spelled.{ShapeCanBeSpelled}
use Rattle.object_files.specs.declared.object.Object.{Object}
use Rattle.config_rules.specs.declared.tree.Tree.{Tree}
use Rattle.config_rules.specs.declared.tree.TreeInstance.{TreeInstance}
use Rattle.link_tables.specs.Linked.{kept, image_of}
use Rattle.file_sizes.specs.Sizes.{total, module_size, object_size, image_size}
use Rattle.object_sizes.specs.TextSizes.{shape_cost}
use Rattle.image_sizes.specs.Trees.{TreeIsShort, instance_cost, size_sum}

-- files can spell the shapes of the instances
abbrev pub ShapesCanBeSpelled : Tree → Type 0
ShapesCanBeSpelled t = All (λ (x : TreeInstance). ShapeCanBeSpelled x.shape) t.instances

-- the modules that are kept, and what each instance adds
abbrev pub LinkedImagesAreSized : Type 0
LinkedImagesAreSized = (t : Tree) (objects : List Object) → TreeIsShort t → ShapesCanBeSpelled t
    → image_size (image_of t objects) ≤ 24 + total module_size (kept t.instances 0 objects) + total instance_cost t.instances

-- a component's object is no longer than its text's size and 1,000 bytes, and no more is what an instance of it adds
pub record ComponentsAreShort (t : Tree) (sizes : List ℕ) (objects : List Object) : Type 0 where
  pub objects_short : (c : ℕ) (o : Object) → slice_get objects c ≡ Some o → (s : ℕ) × (slice_get sizes c ≡ Some s) × (object_size o ≤ s + 1000)
  pub instances_short : All (λ (x : TreeInstance). (s : ℕ) × (slice_get sizes x.component ≡ Some s) × (shape_cost x.shape ≤ s + 1000)) t.instances

-- where the sum of the texts' sizes is at most 200,000,000, the image's file is within the limit of files
abbrev pub LinkedImagesAreShort : Type 0
LinkedImagesAreShort = (t : Tree) (sizes : List ℕ) (objects : List Object) → TreeIsShort t → ShapesCanBeSpelled t → length t.instances ≤ INSTANCES
    → ComponentsAreShort t sizes objects → size_sum t sizes ≤ 200000000 → image_size (image_of t objects) ≤ FILE_BYTES
