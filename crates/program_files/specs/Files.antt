-- The files of a program in version 2: those of the objects of its modules, in order, and that of its image; and which is the first that has more bytes
-- than a file may have (rule of this project).
use Rattle.std.specs.Prelude.{◌≡◌, ℕ, List, take, All, Some, slice_get}
use Rattle.std.specs.List.{AllZip}
use Rattle.mesa_types.specs.Typed.{Module}
use Rattle.config_rules.specs.declared.tree.Tree.{Tree}
use Rattle.object_files.specs.declared.object.Object.{Object}
use Rattle.object_rules.specs.ImageFiles.{IsImageFile}
use Rattle.object_rules.specs.ObjectFiles.{IsObjectFile}
use Rattle.object_writers.specs.ObjectBytes.{object_file, image_file}
use Rattle.filed_images.specs.Files.{FitsFile, IsTooLarge}
use Rattle.link_tables.specs.Linked.{image_of}
use Rattle.linked_programs.specs.Objects.{AreObjectsOf}
use Rattle.program_files.specs.declared.filing.FiledProgram.{FiledProgram}
use Rattle.program_files.specs.declared.size_fault.SizeFault.{SizeFault}
use Rattle.program_files.specs.declared.size_fault.SizeFault.TheVariants as fault

-- no object has too large a file
abbrev pub ObjectsFit : List Object → Type 0
ObjectsFit objects = All (λ (o : Object). FitsFile (object_file o)) objects

-- the file of each object, in order
abbrev pub AreFilesOf : List Object → List (List ℕ) → Type 0
AreFilesOf objects files = AllZip (IsObjectFile 2) objects files

-- this object has too large a file, and none before it
pub record IsFirstTooLarge (objects : List Object) (number : ℕ) : Type 0 where
  pub object : Object
  pub is_there : slice_get objects number ≡ Some object
  pub its : IsTooLarge (object_file object)
  pub before : ObjectsFit (take number objects)

-- the files of objects of these modules, and that of the image which is linked from these very objects
pub record AreFilesFor (t : Tree) (modules : List Module) (p : FiledProgram) : Type 0 where
  pub objects : List Object
  pub their : AreObjectsOf modules objects
  pub files : AreFilesOf objects p.objects
  pub linked : p.image ≡ image_of t objects
  pub image : IsImageFile 2 p.image p.image_file

-- which file is too large, the first of them; of want of memory nothing is said
abbrev pub IsSizeFault : Tree → List Module → SizeFault → Type 0
IsSizeFault t modules (fault.Object number) = (objects : List Object) × AreObjectsOf modules objects × IsFirstTooLarge objects number
IsSizeFault t modules fault.Image = (objects : List Object) × AreObjectsOf modules objects × ObjectsFit objects × IsTooLarge (image_file (image_of t objects))
IsSizeFault t modules fault.Memory = Unit {0}
