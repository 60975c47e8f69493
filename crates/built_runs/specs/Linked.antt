-- From what an image is linked (rule of this project).
use Rattle.std.specs.Prelude.{List}
use Rattle.mesa_types.specs.Typed.{Module}
use Rattle.object_files.specs.declared.image.Image.{Image}
use Rattle.object_files.specs.declared.object.Object.{Object}
use Rattle.import_binder.specs.config_rules.specs.declared.tree.Tree.{Tree}
use Rattle.bound_images.specs.Built.{Built}

-- from the tree, whose items all bind, and some code for each of the modules of its components
abbrev pub IsLinkedFrom : Tree → List Module → Image → Type 0
IsLinkedFrom t modules image = (objects : List Object) × Built t modules objects image
