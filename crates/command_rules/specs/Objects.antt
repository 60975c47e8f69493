-- What the file of an object or an image holds, in either version: their parts. The depths that are found where code is validated are not
-- among them (rule of this project).
use Rattle.std.specs.Prelude.{◌≡◌, ℕ, List, map, All}
use Rattle.mesa_types.specs.declared.faces.Shape.{Shape}
use Rattle.object_files.specs.declared.image.Image.{Image}
use Rattle.object_files.specs.declared.object.Object.{Object}
use Rattle.object_rules.specs.ImageFiles.{IsImageFile, IsNoImageFile}
use Rattle.object_rules.specs.ImageForms.{ImagePart, parts_of_image}
use Rattle.object_rules.specs.ObjectFiles.{IsObjectFile, IsNoObjectFile}
use Rattle.object_rules.specs.Parts.{ModulePart, parts_of, IsWhole}
use Rattle.object_rules.specs.declared.object_fault.ObjectFault.{ObjectFault}
use Rattle.command_rules.specs.Case.{Case, Refused, Absent, File}
use Rattle.command_rules.specs.Passes.{Outcome, Has, Stops, Pass, from_file}

-- ---- objects

pub data HoldsObject (file bytes : List ℕ) : Outcome Case ModulePart → Type 0 where
  is_object : (version : ℕ) (o : Object) → IsObjectFile version o bytes → HoldsObject file bytes (Has (parts_of o))
  is_none : (why : ObjectFault) → IsNoObjectFile bytes why → HoldsObject file bytes (Stops (Refused file (File why)))

unfoldable pub object_in : (file : List ℕ) → Pass Case ModulePart
object_in file = from_file file (Absent file) (HoldsObject file)

-- what a configuration needs to know of it
abbrev pub shape_in : ModulePart → Shape
shape_in m = record { name = m.name; imports = m.imports; exports = m.exports }

-- objects of these parts, in order
pub record AreObjectsWith (parts : List ModulePart) (objects : List Object) : Type 0 where
  pub its : map parts_of objects ≡ parts
  pub whole : All IsWhole objects

-- ---- images

pub data HoldsImage (file bytes : List ℕ) : Outcome Case ImagePart → Type 0 where
  is_image : (version : ℕ) (i : Image) → IsImageFile version i bytes → HoldsImage file bytes (Has (parts_of_image i))
  is_none : (why : ObjectFault) → IsNoImageFile bytes why → HoldsImage file bytes (Stops (Refused file (File why)))

unfoldable pub image_in : (file : List ℕ) → Pass Case ImagePart
image_in file = from_file file (Absent file) (HoldsImage file)

-- an image of these parts
pub record IsImageWith (parts : ImagePart) (image : Image) : Type 0 where
  pub its : parts_of_image image ≡ parts
  pub whole : All IsWhole image.modules
