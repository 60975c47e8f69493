-- Several trees as one: the tree whose outermost scope imports the built-in interface alone, and has the trees as instances I1, I2 and so on, by records
-- of their own names, and as CONTROL their lists in order (rule of this project).
use Rattle.std.specs.Prelude.{ℕ, suc, ◌+◌, List, [], ◌∷◌, ◌++◌, length, map, flat_map, codes, decimal, Option, Some, None}
use Rattle.mesa_types.specs.Typed.{Module}
use Rattle.interface_records.specs.Faces.{iodefs}
use Rattle.object_files.specs.declared.image.Image.{Image}
use Rattle.object_files.specs.declared.object.Object.{Object}
use Rattle.config_rules.specs.declared.tree.RecordPair.{RecordPair}
use Rattle.config_rules.specs.declared.tree.Tree.{Tree}
use Rattle.config_rules.specs.declared.tree.TreeInstance.{TreeInstance}
use Rattle.config_rules.specs.declared.tree.TreeScope.{TreeScope}

-- what an image is built from: a tree, and the typed modules and the objects of its components
pub record Source : Type 0 where
  pub tree : Tree
  pub modules : List Module
  pub objects : List Object
  pub image : Image

-- one of several, and those before it
pub record Place : Type 0 where
  pub before : List Source
  pub source : Source

abbrev pub place : List Source → Source → Place
place before source = record { before = before; source = source }

unfoldable pub places_behind : (before : List Source) → List Source → List Place
places_behind before [] = []
places_behind before (s ∷ ss) = place before s ∷ places_behind (before ++ s ∷ []) ss

-- each of them
abbrev pub places : List Source → List Place
places sources = places_behind [] sources

-- what they have, one behind the other
abbrev pub scopes_of : List Source → List TreeScope
scopes_of sources = flat_map (λ (s : Source). s.tree.scopes) sources

abbrev pub instances_of : List Source → List TreeInstance
instances_of sources = flat_map (λ (s : Source). s.tree.instances) sources

abbrev pub modules_of : List Source → List Module
modules_of sources = flat_map (λ (s : Source). s.modules) sources

abbrev pub images_of : List Source → List Image
images_of sources = map (λ (s : Source). s.image) sources

-- so many stand before those of one of them: the outermost scope, and those of the trees before
abbrev pub scopes_before : Place → ℕ
scopes_before p = suc (length (scopes_of p.before))

abbrev pub instances_before : Place → ℕ
instances_before p = length (instances_of p.before)

abbrev pub modules_before : Place → ℕ
modules_before p = length (modules_of p.before)

-- the instance's name: I1, I2 and so on
abbrev pub name_of : Place → List ℕ
name_of p = codes "I" ++ decimal (length p.before + 1)

-- ---- scopes

-- around it stands a record of the same name
abbrev pub by_own_name : RecordPair → RecordPair
by_own_name r = record { inside = r.inside; outside = r.inside }

-- a tree's outermost scope stands in the new one
abbrev pub scope_by : Place → TreeScope → Option ℕ → TreeScope
scope_by p s None = record { around = Some 0; imports = map by_own_name s.imports; exports = map by_own_name s.exports }
scope_by p s (Some n) = record { around = Some (scopes_before p + n); imports = s.imports; exports = s.exports }

abbrev pub scope_in : Place → TreeScope → TreeScope
scope_in p s = scope_by p s s.around

abbrev pub outermost : TreeScope
outermost = record { around = None; imports = record { inside = iodefs.face.name; outside = iodefs.face.name } ∷ []; exports = [] }

-- ---- instances, and those that are started

abbrev pub instance_in : Place → TreeInstance → TreeInstance
instance_in p x = record {
  path = name_of p ∷ x.path;
  component = modules_before p + x.component;
  scope = scopes_before p + x.scope;
  shape = x.shape;
  imports = x.imports;
  exports = x.exports;
}

abbrev pub started_in : Place → ℕ → ℕ
started_in p j = instances_before p + j

-- the components are those of the trees, one behind the other
unfoldable pub together : List Source → Tree
together sources = record {
  scopes = outermost ∷ flat_map (λ (p : Place). map (scope_in p) p.source.tree.scopes) (places sources);
  instances = flat_map (λ (p : Place). map (instance_in p) p.source.tree.instances) (places sources);
  control = flat_map (λ (p : Place). map (started_in p) p.source.tree.control) (places sources);
}
