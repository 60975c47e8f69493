-- An image that is linked from a tree, and wants nothing but the host's items, is one of the tree's program.
use Rattle.std.specs.Prelude.{List}
use Rattle.mesa_types.specs.Typed.{Module}
use Rattle.object_files.specs.declared.image.Image.{Image}
use Rattle.linked_run.specs.agreement_rules.specs.Stands.{WantsTheHost}
use Rattle.import_binder.specs.config_rules.specs.declared.tree.Tree.{Tree}
use Rattle.bound_images.specs.Programs.{program_of}
use Rattle.bound_images.proofs.Running.{programs_are_lawful, images_stand, leave_to_the_host}
use Rattle.linked_run.specs.Meant.{IsImageOf}
use Rattle.built_runs.specs.Linked.{IsLinkedFrom}

pub meant : (t : Tree) (modules : List Module) (image : Image) → IsLinkedFrom t modules image → WantsTheHost image → IsImageOf (program_of t modules) image
meant t modules image (objects, built) host = record {
  lawful = programs_are_lawful t modules objects image built (leave_to_the_host t modules objects image built host);
  stands = images_stand t modules objects image built;
  host = host;
}
