-- What is so of an image that is built from a tree, and of the program of the tree (rule of this project).
use Rattle.std.specs.Prelude.{ℕ, ◌<◌, List, All}
use Rattle.mesa_types.specs.Typed.{Module}
use Rattle.object_files.specs.declared.image.Image.{Image}
use Rattle.object_files.specs.declared.object.Object.{Object}
use Rattle.source_meaning.specs.Lawful.{Lawful}
use Rattle.source_meaning.specs.Means.{Means}
use Rattle.source_meaning.specs.State.{Ending, Answer}
use Rattle.agreement_laws.specs.agreement_rules.specs.Agreement.{RunsAlike}
use Rattle.agreement_laws.specs.agreement_rules.specs.Stands.{Stands, WantsTheHost}
use Rattle.machine_ready.specs.Order.{ImageInOrder}
use Rattle.config_rules.specs.declared.tree.Tree.{Tree}
use Rattle.bound_images.specs.Programs.{program_of}
use Rattle.bound_images.specs.Built.{Built, LeavesToHost}

-- the program is lawful: what each used item stands for is of the item's kind and types
abbrev pub BuiltProgramsAreLawful : Type 0
BuiltProgramsAreLawful = (t : Tree) (modules : List Module) (objects : List Object) (image : Image) → Built t modules objects image → LeavesToHost t
    → Lawful (program_of t modules)

-- the image stands for it, whatever is left to the loader
abbrev pub BuiltImagesStand : Type 0
BuiltImagesStand = (t : Tree) (modules : List Module) (objects : List Object) (image : Image) → Built t modules objects image
    → Stands (program_of t modules) image

-- what it wants the host has, and where the host has all that it wants, nothing else is left to the loader
abbrev pub BuiltImagesWantTheHost : Type 0
BuiltImagesWantTheHost = (t : Tree) (modules : List Module) (objects : List Object) (image : Image) → Built t modules objects image → LeavesToHost t
    → WantsTheHost image

abbrev pub ImagesThatWantTheHostLeaveToIt : Type 0
ImagesThatWantTheHostLeaveToIt = (t : Tree) (modules : List Module) (objects : List Object) (image : Image) → Built t modules objects image
    → WantsTheHost image → LeavesToHost t

-- it can be made ready
abbrev pub BuiltImagesAreInOrder : Type 0
BuiltImagesAreInOrder = (t : Tree) (modules : List Module) (objects : List Object) (image : Image) → Built t modules objects image → ImageInOrder image

-- the machine runs it to what the program of its tree means
abbrev pub BuiltImagesRunAsTheirSource : Type 0
BuiltImagesRunAsTheirSource = (t : Tree) (modules : List Module) (objects : List Object) (image : Image) → Built t modules objects image → LeavesToHost t
    → (input : List ℕ) (ending : Ending) (turns : ℕ) → All (λ byte. byte < 256) input
    → (output : List ℕ) (answer : Answer) (left taken : ℕ) → Means (program_of t modules) input ending turns output answer left taken
    → RunsAlike image input ending turns output answer left taken
