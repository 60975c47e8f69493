-- What a file that is listed or upgraded holds, in either version, and its listing (rule of this project). The values of one file differ in the
-- depths of instructions at most, which are neither written nor listed.
use Rattle.std.specs.Prelude.{ℕ, List}
use Rattle.mesa_base.specs.declared.file_fault.FileFault.{FileFault}
use Rattle.interface_records.specs.declared.interface.Interface.{Interface}
use Rattle.object_files.specs.declared.image.Image.{Image}
use Rattle.object_files.specs.declared.object.Object.{Object}
use Rattle.face_rules.specs.InterfaceForms.{IsInterfaceFile, IsNoInterfaceFile}
use Rattle.object_rules.specs.ImageFiles.{IsImageFile, IsNoImageFile}
use Rattle.object_rules.specs.ObjectFiles.{IsObjectFile, IsNoObjectFile, file_fault}
use Rattle.object_rules.specs.declared.object_fault.ObjectFault.{ObjectFault}
use Rattle.listing_rules.specs.Images.{image_listing}
use Rattle.listing_rules.specs.Interfaces.{interface_listing}
use Rattle.listing_rules.specs.Objects.{object_listing}
use Rattle.command_rules.specs.Case.{Case, Refused, Absent, File}
use Rattle.command_rules.specs.Forms.{FileKind, InterfaceFile, ObjectFile, ImageFile}
use Rattle.command_rules.specs.Passes.{Outcome, Has, Stops, Pass, from_file}
use Rattle.command_rules.specs.Printing.{Report, text_alone}
use Rattle.command_rules.specs.Writing.{Value, OfInterface, OfObject, OfImage}

-- the bytes are a file of this kind that holds this value, or they are none
pub data Holds (file bytes : List ℕ) : FileKind → Outcome Case Value → Type 0 where
  is_interface : (version : ℕ) (i : Interface) → IsInterfaceFile version i bytes → Holds file bytes InterfaceFile (Has (OfInterface i))
  is_object : (version : ℕ) (o : Object) → IsObjectFile version o bytes → Holds file bytes ObjectFile (Has (OfObject o))
  is_image : (version : ℕ) (i : Image) → IsImageFile version i bytes → Holds file bytes ImageFile (Has (OfImage i))
  no_interface : (why : FileFault) → IsNoInterfaceFile bytes why → Holds file bytes InterfaceFile (Stops (Refused file (File (file_fault why))))
  no_object : (why : ObjectFault) → IsNoObjectFile bytes why → Holds file bytes ObjectFile (Stops (Refused file (File why)))
  no_image : (why : ObjectFault) → IsNoImageFile bytes why → Holds file bytes ImageFile (Stops (Refused file (File why)))

unfoldable pub value_in : FileKind → (file : List ℕ) → Pass Case Value
value_in kind file = from_file file (Absent file) (λ bytes. Holds file bytes kind)

abbrev pub listing_of : Value → List ℕ
listing_of (OfInterface i) = interface_listing i
listing_of (OfObject o) = object_listing o
listing_of (OfImage i) = image_listing i

-- the listing of what the bytes hold
pub data Lists (kind : FileKind) (file bytes : List ℕ) : Outcome Case Report → Type 0 where
  listed : (v : Value) → Holds file bytes kind (Has v) → Lists kind file bytes (Has (text_alone (listing_of v)))
  is_none : (case : Case) → Holds file bytes kind (Stops case) → Lists kind file bytes (Stops case)

unfoldable pub listing_in : FileKind → (file : List ℕ) → Pass Case Report
listing_in kind file = from_file file (Absent file) (Lists kind file)
