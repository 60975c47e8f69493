-- Trees that are made of configurations are short (rule of this project).
use Rattle.std.specs.Prelude.{◌≡◌, ℕ, ◌≤◌, List, All, Ok, length}
use Rattle.mesa_base.specs.Name.{IsName}
use Rattle.mesa_base.specs.declared.limits.TheConstants.{CONFIGURATION_DEPTH}
use Rattle.mesa_types.specs.declared.faces.Shape.{Shape}
use Rattle.cmesa_grammar.specs.Syntax.{Configuration}
use Rattle.config_rules.specs.declared.tree.RecordPair.{RecordPair}
use Rattle.config_rules.specs.declared.tree.Tree.{Tree}
use Rattle.config_rules.specs.declared.tree.TreeInstance.{TreeInstance}
use Rattle.config_rules.specs.Through.{Module}
use Rattle.config_rules.specs.Tree.{made, single_tree}
use Rattle.link_tables.specs.Linked.{outermost_exports}
use Rattle.image_sizes.specs.Trees.{TreeIsShort}

pub record IsNamedPath (path : List (List ℕ)) : Type 0 where
  pub few : length path ≤ CONFIGURATION_DEPTH
  pub names : All IsName path

-- paths of at most 32 names, and names of records
pub record TreeIsNamed (t : Tree) : Type 0 where
  pub paths : All (λ (x : TreeInstance). IsNamedPath x.path) t.instances
  pub records : All (λ (r : RecordPair). IsName r.inside) (outermost_exports t.scopes)

-- each export of an instance is offered once at most, and each instance started once at most
abbrev pub MadeTreesAreShort : Type 0
MadeTreesAreShort = (modules : List Module) (c : Configuration) (t : Tree) → made modules c ≡ Ok t → TreeIsNamed t → TreeIsShort t

-- so it is with the tree of one module
abbrev pub SinglesAreShort : Type 0
SinglesAreShort = (s : Shape) → TreeIsNamed (single_tree s) → TreeIsShort (single_tree s)
