-- Which checked modules can be linked (rule of this project).
use Rattle.std.specs.Prelude.{◌≤◌, List, map, All}
use Rattle.mesa_base.specs.declared.limits.TheConstants.{TREE_NODES}
use Rattle.mesa_types.specs.Nodes.{nodes}
use Rattle.mesa_types.specs.Plain.{plain}
use Rattle.mesa_types.specs.Sound.{Sound}
use Rattle.mesa_types.specs.Typed.{Module}
use Rattle.mesa_types.specs.declared.faces.Shape.{Shape}
use Rattle.mesa_types.specs.declared.typed_tree.TypedModule.{TypedModule}
use Rattle.interface_records.specs.Spelled.{ShapeCanBeSpelled}
use Rattle.built_runs.specs.bound_images.specs.Programs.{shape_of}

-- sound ones, with few enough nodes to be translated, whose imports and exports a file can hold
pub record CanBeLinked (m : Module) : Type 0 where
  pub sound : Sound m
  pub few : nodes m ≤ TREE_NODES
  pub spelled : ShapeCanBeSpelled (shape_of m)

abbrev pub AllCanBeLinked : List Module → Type 0
AllCanBeLinked modules = All CanBeLinked modules

abbrev pub shapes_of : List Module → List Shape
shapes_of modules = map shape_of modules

abbrev pub shape_in : TypedModule → Shape
shape_in m = shape_of (plain m)
