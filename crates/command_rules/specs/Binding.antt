-- From the files of a configuration and of its components' objects to the tree that is bound (Language Manual, chapter 7; the order of
-- refusals is a rule of this project).
use Rattle.std.specs.Prelude.{◌≡◌, ℕ, List, map}
use Rattle.object_files.specs.declared.image.Image.{Image}
use Rattle.object_files.specs.declared.object.Object.{Object}
use Rattle.object_rules.specs.Parts.{ModulePart}
use Rattle.cmesa_grammar.specs.Syntax.{Config}
use Rattle.config_rules.specs.Components.{components}
use Rattle.config_rules.specs.Tree.{IsTree}
use Rattle.config_rules.specs.declared.tree.Component.{Component}
use Rattle.config_rules.specs.declared.tree.Tree.{Tree}
use Rattle.linked_programs.specs.link_tables.specs.Linked.{image_of}
use Rattle.command_rules.specs.Case.{Case}
use Rattle.command_rules.specs.Configurations.{config_in, tree_in}
use Rattle.command_rules.specs.Forms.{config_file, object_file}
use Rattle.command_rules.specs.Objects.{object_in, shape_in, AreObjectsWith}
use Rattle.command_rules.specs.Passes.{Pass, given, and_then, each}

-- what is bound: a tree in which every item binds, and what the objects of its components hold
pub record Bound : Type 0 where
  pub tree : Tree
  pub parts : List ModulePart

abbrev pub object_of : Component → Pass Case ModulePart
object_of x = object_in (object_file x.file)

-- of the components, in the order in which they are mentioned first
abbrev pub objects_of : Config → Pass Case (List ModulePart)
objects_of c = each object_of (components c)

unfoldable pub binding_of : (file : List ℕ) → Config → Pass Case Bound
binding_of file c =
    and_then (objects_of c) (λ parts.
    and_then (tree_in file (IsTree c (map shape_in parts))) (λ t.
    given (record { tree = t; parts = parts })))

unfoldable pub bound_in : (base : List ℕ) → Pass Case Bound
bound_in base = and_then (config_in (config_file base)) (binding_of (config_file base))

-- the image that is linked from it
pub record IsImageOf (b : Bound) (image : Image) : Type 0 where
  pub objects : List Object
  pub their : AreObjectsWith b.parts objects
  pub linked : image ≡ image_of b.tree objects
