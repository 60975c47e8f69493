-- The parts of an image that are made before the objects are moved.
use Rattle.std.specs.Prelude.{◌≡◌, ℕ, ◌<◌, List, map, All}
use Rattle.mesa_types.specs.declared.faces.Shape.{Shape}
use Rattle.object_files.specs.declared.object.Object.{Object}
use Rattle.config_rules.specs.declared.tree.Tree.{Tree}
use Rattle.config_rules.specs.declared.tree.TreeInstance.{TreeInstance}
use Rattle.link_tables.specs.Linked.{instance_of, offers}
use Rattle.link_tables.specs.Modules.{AreMarks}
use Rattle.link_tables.specs.Passes.{Tables, tables}
use Rattle.link_tables.specs.declared.linking.LinkedTables.{LinkedTables}
use Rattle.link_tables.specs.declared.linking.Plain.{Plain}

abbrev pub shapes_of : List Object → List Shape
shapes_of os = map (λ (o : Object). o.shape) os

-- each component is one of so many
abbrev pub Fits : ℕ → Tree → Type 0
Fits many t = All (λ (x : TreeInstance). x.component < many) t.instances

pub record ArePlain (many : ℕ) (t : Tree) (p : Plain) : Type 0 where
  pub marks : AreMarks t.instances 0 many p.marks.items
  pub instances : p.instances ≡ map (instance_of t.instances) t.instances
  pub offered : p.offered ≡ offers t
  pub control : p.control ≡ t.control

abbrev pub tables_in : LinkedTables → Tables
tables_in l = tables l.wanted l.links
