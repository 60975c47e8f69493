-- What a tree is bound on: it is one in order, of shapes in order.
use Rattle.std.specs.Prelude.{◌≡◌, ℕ, true, false, List, [], ◌∷◌, map, Contains, Option, Some, None, slice_get}
use Rattle.mesa_types.specs.declared.faces.Export.{Export}
use Rattle.mesa_types.specs.declared.faces.Face.{Face}
use Rattle.mesa_types.specs.declared.faces.Pair.{Pair}
use Rattle.mesa_types.specs.declared.faces.Shape.{Shape}
use Rattle.config_rules.specs.declared.tree.Exporter.{Exporter}
use Rattle.config_rules.specs.declared.tree.Tree.{Tree}
use Rattle.config_rules.specs.Exporters.{is_named, is_given}
use Rattle.config_rules.specs.InOrder.{NamesDiffer, NumbersIn, ShapeInOrder, TreeIn}
use Rattle.config_rules.specs.Outgoing.{export_of}

pub record IsInOrder (t : Tree) : Type 0 where
  pub shapes : List Shape
  pub each : (s : Shape) → Contains shapes s → ShapeInOrder s
  pub tree : TreeIn shapes t

-- what is asked of an export of such a shape
pub record ExportInOrder (x : Export) : Type 0 where
  pub names : NamesDiffer x.face
  pub numbers : NumbersIn x.face (map (λ (p : Pair). p.item) x.given)

-- no item of a name is given twice
abbrev pub GivenOnce : Face → List Pair → Type 0
GivenOnce face [] = Unit {0}
GivenOnce face (p ∷ ps) = ((name : List ℕ) → is_named name (slice_get face.items p.item) ≡ true → is_given name face ps ≡ false) × GivenOnce face ps

abbrev pub GivesOnce : Option Export → Type 0
GivesOnce None = Unit {0}
GivesOnce (Some x) = GivenOnce x.face x.given

abbrev pub EachGivesOnce : Tree → Type 0
EachGivesOnce t = (e : Exporter) → GivesOnce (export_of t e)
