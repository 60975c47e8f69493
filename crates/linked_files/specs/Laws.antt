-- An image that is linked from objects which files can spell has a file (rule of this project).
use Rattle.std.specs.Prelude.{◌≡◌, List, length, map, All, None}
use Rattle.mesa_types.specs.declared.faces.Shape.{Shape}
use Rattle.object_files.specs.declared.object.Object.{Object}
use Rattle.config_rules.specs.declared.tree.Tree.{Tree}
use Rattle.config_rules.specs.InOrder.{TreeIn}
use Rattle.config_rules.specs.Resolves.{wants, first_bad}
use Rattle.config_rules.specs.Tree.{Agree, all_faces}
use Rattle.spelled_trees.specs.link_tables.specs.Linked.{wanted_of, offers, image_of}
use Rattle.interface_records.specs.Spelled.{InFourBytes}
use Rattle.object_rules.specs.ImageForms.{parts_of_image, image_form}
use Rattle.object_rules.specs.ModuleForms.{module_form}
use Rattle.object_rules.specs.Parts.{parts_of}
use Rattle.spelled_trees.specs.Paths.{PathsAndRecords}

-- paths and records that files can spell, and no more is wanted, offered and started than files can count
pub record TreeCanBeSpelled (t : Tree) : Type 0 where
  pub named : PathsAndRecords t
  pub wanted : InFourBytes (length (wanted_of (wants t)))
  pub offered : InFourBytes (length (offers t))
  pub started : InFourBytes (length t.control)

abbrev pub shapes_of : List Object → List Shape
shapes_of objects = map (λ (o : Object). o.shape) objects

-- a tree in order with objects of its components, which agree on their faces and whose items all bind
pub record CanBeLinked (t : Tree) (objects : List Object) : Type 0 where
  pub tree : TreeIn (shapes_of objects) t
  pub agree : Agree (all_faces (shapes_of objects))
  pub none_bad : first_bad (wants t) ≡ None
  pub fit : All (λ (o : Object). (module_form 2).fits (parts_of o)) objects
  pub spelled : TreeCanBeSpelled t

-- the form of images in version 2 fits the linked image
abbrev pub LinkedImagesFit : Type 0
LinkedImagesFit = (t : Tree) (objects : List Object) → CanBeLinked t objects → (image_form 2).fits (parts_of_image (image_of t objects))
