-- How much the tree of a configuration has besides the modules of its instances (rule of this project).
use Rattle.std.specs.Prelude.{ℕ, suc, ◌+◌, ◌≤◌, List, [], ◌∷◌, length, All, if◌then◌else◌, Option, Some, None, slice_get}
use Rattle.mesa_base.specs.declared.limits.TheConstants.{CONFIGURATION_DEPTH, IDENTIFIER_BYTES}
use Rattle.object_files.specs.declared.image.Offer.{Offer}
use Rattle.config_rules.specs.declared.tree.Tree.{Tree}
use Rattle.config_rules.specs.declared.tree.TreeInstance.{TreeInstance}
use Rattle.link_tables.specs.Linked.{has_instance, offers}
use Rattle.file_sizes.specs.Sizes.{total}
use Rattle.object_sizes.specs.TextSizes.{shape_cost}

-- at most 32 names of at most 255 bytes
pub record PathIsShort (path : List (List ℕ)) : Type 0 where
  pub few : length path ≤ CONFIGURATION_DEPTH
  pub names : All (λ (x : List ℕ). length x ≤ IDENTIFIER_BYTES) path

-- paths are such; what is offered has names of at most 255 bytes, and each export of an instance is offered once at most; and so is each instance started
pub record TreeIsShort (t : Tree) : Type 0 where
  pub paths : All (λ (x : TreeInstance). PathIsShort x.path) t.instances
  pub records : All (λ (o : Offer). length o.name ≤ IDENTIFIER_BYTES) (offers t)
  pub offered : length (offers t) ≤ total (λ (x : TreeInstance). length x.shape.exports) t.instances
  pub started : length t.control ≤ length t.instances

-- what an instance adds to an image: its path and its module's number, its place among those that are started, and what its shape adds
abbrev pub instance_cost : TreeInstance → ℕ
instance_cost x = 8201 + shape_cost x.shape

-- ---- sums over a tree

abbrev pub at_or_none : Option ℕ → ℕ
at_or_none None = 0
at_or_none (Some n) = n

-- of these, one for each component from number `n` on, those of the components without an instance
unfoldable pub left_out : List TreeInstance → (n : ℕ) → List ℕ → ℕ
left_out xs n [] = 0
left_out xs n (s ∷ ss) = (if has_instance xs n then 0 else s) + left_out xs (suc n) ss

-- the sizes of the components' texts, over the instances, and once for each component without one
unfoldable pub size_sum : Tree → List ℕ → ℕ
size_sum t sizes = total (λ (x : TreeInstance). at_or_none (slice_get sizes x.component)) t.instances + left_out t.instances 0 sizes
