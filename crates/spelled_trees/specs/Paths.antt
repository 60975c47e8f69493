-- What files ask of the paths and the records of a tree (rule of this project).
use Rattle.std.specs.Prelude.{◌≡◌, ℕ, ◌≤◌, List, length, All, Some, slice_get}
use Rattle.mesa_base.specs.Name.{IsName}
use Rattle.mesa_base.specs.declared.limits.TheConstants.{CONFIGURATION_DEPTH}
use Rattle.config_rules.specs.declared.tree.RecordPair.{RecordPair}
use Rattle.config_rules.specs.declared.tree.Tree.{Tree}
use Rattle.config_rules.specs.declared.tree.TreeInstance.{TreeInstance}
use Rattle.link_tables.specs.Linked.{outermost_exports}

-- a path has 1 to 32 names
pub record PathCanBeSpelled (path : List (List ℕ)) : Type 0 where
  pub some : 1 ≤ length path
  pub few : length path ≤ CONFIGURATION_DEPTH
  pub names : All IsName path

-- no two instances have one path, and the records that the outermost configuration exports have names
pub record PathsAndRecords (t : Tree) : Type 0 where
  pub paths : All (λ (x : TreeInstance). PathCanBeSpelled x.path) t.instances
  pub differ : (j k : ℕ) (x y : TreeInstance) → slice_get t.instances j ≡ Some x → slice_get t.instances k ≡ Some y → x.path ≡ y.path → j ≡ k
  pub records : All (λ (r : RecordPair). IsName r.inside) (outermost_exports t.scopes)
