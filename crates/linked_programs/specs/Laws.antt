-- What is so of the trees of modules that can be linked, and of the images that are linked from them (rule of this project).
use Rattle.std.specs.Prelude.{◌≡◌, List, [], ◌∷◌, length, None, Ok}
use Rattle.mesa_types.specs.Typed.{Module}
use Rattle.mesa_types.specs.declared.faces.Shape.{Shape}
use Rattle.cmesa_grammar.specs.Syntax.{Config}
use Rattle.object_files.specs.declared.image.Image.{Image}
use Rattle.object_files.specs.declared.object.Object.{Object}
use Rattle.config_rules.specs.Components.{components}
use Rattle.config_rules.specs.InOrder.{ShapeInOrder, TreeIn}
use Rattle.config_rules.specs.Resolves.{wants, first_bad}
use Rattle.config_rules.specs.Through.{Answer}
use Rattle.config_rules.specs.Tree.{Agree, IsSingle, IsTree, all_faces}
use Rattle.config_rules.specs.declared.tree.Tree.{Tree}
use Rattle.built_runs.specs.link_tables.specs.Linked.{image_of}
use Rattle.built_runs.specs.bound_images.specs.Built.{Built}
use Rattle.built_runs.specs.bound_images.specs.Programs.{shape_of}
use Rattle.linked_programs.specs.Modules.{AllCanBeLinked, CanBeLinked, shapes_of}
use Rattle.linked_programs.specs.Objects.{AreObjectsOf}

-- a tree is one of the shapes, and of all their faces those of one name and stamp are one
pub record IsOfShapes (shapes : List Shape) (t : Tree) : Type 0 where
  pub tree : TreeIn shapes t
  pub agree : Agree (all_faces shapes)

-- so is the tree of a configuration, and that of one module alone
abbrev pub TreesAreOfTheirShapes : Type 0
TreesAreOfTheirShapes = (c : Config) (shapes : List Shape) (t : Tree) → length shapes ≡ length (components c) → IsTree c shapes (Ok t) → IsOfShapes shapes t

abbrev pub SinglesAreOfTheirShape : Type 0
SinglesAreOfTheirShape = (s : Shape) (t : Tree) → IsSingle s (Ok t) → IsOfShapes (s ∷ []) t

-- a configuration has one answer for these shapes, and so has one module
abbrev pub TreesAreOne : Type 0
TreesAreOne = (c : Config) (shapes : List Shape) (a b : Answer Tree) → IsTree c shapes a → IsTree c shapes b → a ≡ b

abbrev pub SinglesAreOne : Type 0
SinglesAreOne = (s : Shape) (a b : Answer Tree) → IsSingle s a → IsSingle s b → a ≡ b

-- the shape of a module that can be linked is in order
abbrev pub LinkableShapesAreInOrder : Type 0
LinkableShapesAreInOrder = (m : Module) → CanBeLinked m → ShapeInOrder (shape_of m)

-- the image of such a tree without a bad item, and of the modules' objects, is built from them
abbrev pub LinkedImagesAreBuilt : Type 0
LinkedImagesAreBuilt = (t : Tree) (modules : List Module) (objects : List Object) (image : Image) → IsOfShapes (shapes_of modules) t
    → AllCanBeLinked modules → AreObjectsOf modules objects → first_bad (wants t) ≡ None → image ≡ image_of t objects
    → Built t modules objects image
