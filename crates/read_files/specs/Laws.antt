-- What is so of objects and images that their forms fit, as of those that were read (rule of this project).
use Rattle.std.specs.Prelude.{ℕ, ◌↔◌, List, All}
use Rattle.mesa_types.specs.declared.faces.Import.{Import}
use Rattle.mesa_types.specs.declared.faces.Shape.{Shape}
use Rattle.interface_records.specs.Spelled.{ImportCanBeSpelled, ShapeCanBeSpelled}
use Rattle.object_files.specs.declared.image.Image.{Image}
use Rattle.object_files.specs.declared.object.Object.{Object}
use Rattle.config_rules.specs.InOrder.{ShapeInOrder}
use Rattle.machine_ready.specs.Order.{ImageInOrder}
use Rattle.object_rules.specs.ImageFiles.{IsImageFile}
use Rattle.object_rules.specs.ImageForms.{parts_of_image, image_form}
use Rattle.object_rules.specs.ModuleForms.{import_form, module_form}
use Rattle.object_rules.specs.ObjectFiles.{IsObjectFile}
use Rattle.object_rules.specs.Parts.{parts_of, IsWhole}

-- files can spell an import exactly where its form in version 2 fits it
abbrev pub ImportsFit : Type 0
ImportsFit = (i : Import) → ImportCanBeSpelled i ↔ (import_form 2).fits i

-- a shape that files can spell is in order
abbrev pub SpelledShapesAreInOrder : Type 0
SpelledShapesAreInOrder = (s : Shape) → ShapeCanBeSpelled s → ShapeInOrder s

-- files can spell the shape of an object that its form fits
abbrev pub ShapesOfObjectsCanBeSpelled : Type 0
ShapesOfObjectsCanBeSpelled = (version : ℕ) (o : Object) → (module_form version).fits (parts_of o) → ShapeCanBeSpelled o.shape

-- so it is in order
abbrev pub ShapesOfObjectsAreInOrder : Type 0
ShapesOfObjectsAreInOrder = (version : ℕ) (o : Object) → (module_form version).fits (parts_of o) → ShapeInOrder o.shape

-- an image that its form fits is in order, where its modules are whole
abbrev pub ImagesThatFitAreInOrder : Type 0
ImagesThatFitAreInOrder = (version : ℕ) (i : Image) → (image_form version).fits (parts_of_image i) → All IsWhole i.modules → ImageInOrder i

-- so an object that a file holds has a shape in order, and an image that a file holds is in order
abbrev pub ObjectsOfFilesAreInOrder : Type 0
ObjectsOfFilesAreInOrder = (version : ℕ) (o : Object) (bytes : List ℕ) → IsObjectFile version o bytes → ShapeInOrder o.shape

abbrev pub ImagesOfFilesAreInOrder : Type 0
ImagesOfFilesAreInOrder = (version : ℕ) (i : Image) (bytes : List ℕ) → IsImageFile version i bytes → ImageInOrder i
