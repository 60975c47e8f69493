-- The laws on built images.
use Rattle.std.proofs.Common.{List, sym, subst}
use Rattle.mesa_types.specs.Typed.{Module}
use Rattle.agreement_laws.proofs.Agreement.{images_run}
use Rattle.agreement_laws.specs.agreement_rules.specs.Stands.{Stands, WantsTheHost}
use Rattle.config_rules.specs.declared.tree.Tree.{Tree}
use Rattle.machine_ready.specs.Order.{ImageInOrder}
use Rattle.object_files.specs.declared.image.Image.{Image}
use Rattle.object_files.specs.declared.object.Object.{Object}
use Rattle.bound_images.specs.Built.{Built}
use Rattle.bound_images.specs.Laws.{BuiltImagesAreInOrder, BuiltImagesRunAsTheirSource, BuiltImagesStand, BuiltImagesWantTheHost, BuiltProgramsAreLawful, ImagesThatWantTheHostLeaveToIt}
use Rattle.bound_images.specs.Programs.{program_of}
use Rattle.bound_images.proofs.Lawful as lawful
use Rattle.bound_images.proofs.Modules.{World}
use Rattle.bound_images.proofs.Ordered.{in_order}
use Rattle.bound_images.proofs.Standing as standing
use Rattle.bound_images.proofs.Standing.{wants_host, leaves_to_host}

-- a built image is the linked one
abbrev world : (t : Tree) (modules : List Module) (objects : List Object) (image : Image) → Built t modules objects image → World
world t modules objects image B = record { tree = t; modules = modules; objects = objects; built = subst (Built t modules objects) B.linked B }

pub programs_are_lawful : BuiltProgramsAreLawful
programs_are_lawful t modules objects image B host = lawful.whole (world t modules objects image B) host

pub images_stand : BuiltImagesStand
images_stand t modules objects image B = subst (Stands (program_of t modules)) (sym B.linked) (standing.whole (world t modules objects image B))

pub images_want_the_host : BuiltImagesWantTheHost
images_want_the_host t modules objects image B host = subst WantsTheHost (sym B.linked) (wants_host (world t modules objects image B) host)

pub leave_to_the_host : ImagesThatWantTheHostLeaveToIt
leave_to_the_host t modules objects image B wants = leaves_to_host (world t modules objects image B) (subst WantsTheHost B.linked wants)

pub images_are_in_order : BuiltImagesAreInOrder
images_are_in_order t modules objects image B = subst ImageInOrder (sym B.linked) (in_order (world t modules objects image B))

pub built_images_run : BuiltImagesRunAsTheirSource
built_images_run t modules objects image B host =
    images_run (program_of t modules) image (programs_are_lawful t modules objects image B host) (images_stand t modules objects image B)
    (images_want_the_host t modules objects image B host)
