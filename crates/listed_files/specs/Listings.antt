-- Which text is the listing of a file's bytes, and the first fault of bytes that have none (rule of this project).
use Rattle.std.specs.Prelude.{◌≡◌, ℕ, List}
use Rattle.face_rules.specs.InterfaceForms.{IsInterfaceFile, IsNoInterfaceFile}
use Rattle.interface_records.specs.declared.interface.Interface.{Interface as OneInterface}
use Rattle.listed_files.specs.declared.file_kind.FileKind.{FileKind}
use Rattle.listed_files.specs.declared.file_kind.FileKind.TheVariants.{Interface, Object, Image}
use Rattle.listing_rules.specs.Images.{image_listing}
use Rattle.listing_rules.specs.Interfaces.{interface_listing}
use Rattle.listing_rules.specs.Objects.{object_listing}
use Rattle.mesa_base.specs.declared.file_fault.FileFault.{FileFault}
use Rattle.object_files.specs.declared.image.Image.{Image as OneImage}
use Rattle.object_files.specs.declared.object.Object.{Object as OneObject}
use Rattle.object_rules.specs.ImageFiles.{IsImageFile, IsNoImageFile}
use Rattle.object_rules.specs.ObjectFiles.{IsObjectFile, IsNoObjectFile, file_fault}
use Rattle.object_rules.specs.declared.object_fault.ObjectFault.{ObjectFault}

-- the bytes are a file of an interface, and this is the interface's listing
pub record ListsInterface (bytes text : List ℕ) : Type 0 where
  pub version : ℕ
  pub value : OneInterface
  pub file : IsInterfaceFile version value bytes
  pub is : text ≡ interface_listing value

-- the bytes are a file of an object, and this is the object's listing
pub record ListsObject (bytes text : List ℕ) : Type 0 where
  pub version : ℕ
  pub value : OneObject
  pub file : IsObjectFile version value bytes
  pub is : text ≡ object_listing value

-- the bytes are a file of an image, and this is the image's listing
pub record ListsImage (bytes text : List ℕ) : Type 0 where
  pub version : ℕ
  pub value : OneImage
  pub file : IsImageFile version value bytes
  pub is : text ≡ image_listing value

-- the listing of the bytes, as those of a file of this kind, in version 1 or 2
abbrev pub IsListing : FileKind → (bytes text : List ℕ) → Type 0
IsListing Interface bytes text = ListsInterface bytes text
IsListing Object bytes text = ListsObject bytes text
IsListing Image bytes text = ListsImage bytes text

-- the bytes are no file of an interface, and this is the first reason
pub record LacksInterface (bytes : List ℕ) (fault : ObjectFault) : Type 0 where
  pub cause : FileFault
  pub first : IsNoInterfaceFile bytes cause
  pub is : fault ≡ file_fault cause

-- the bytes are no file of this kind, and this is the first reason
abbrev pub HasFault : FileKind → (bytes : List ℕ) → ObjectFault → Type 0
HasFault Interface bytes fault = LacksInterface bytes fault
HasFault Object bytes fault = IsNoObjectFile bytes fault
HasFault Image bytes fault = IsNoImageFile bytes fault
