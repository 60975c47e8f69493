-- Which bytes are an image's file, and the first fault of bytes that are none (rule of this project).
use Rattle.std.specs.Prelude.{◌≡◌, ℕ, ◌<◌, List, All, Some, slice_get, codes}
use Rattle.mesa_base.specs.declared.file_fault.FileFault.{FileFault}
use Rattle.code_forms.specs.declared.bad_code.BadCode.{BadCode}
use Rattle.file_forms.specs.Files.{IsFile, FirstFault}
use Rattle.object_files.specs.declared.image.Image.{Image}
use Rattle.object_rules.specs.declared.object_fault.ObjectFault.{ObjectFault}
use Rattle.object_rules.specs.declared.object_fault.ObjectFault.TheVariants.{Code}
use Rattle.object_rules.specs.ImageForms.{ImagePart, parts_of_image, image_form}
use Rattle.object_rules.specs.ObjectFiles.{file_fault}
use Rattle.object_rules.specs.Parts.{ModulePart, IsWhole, HasValidCode, HasCodeFault}

-- the bytes are an image file that holds these parts in this version
abbrev pub IsLinkedFile : ℕ → ImagePart → List ℕ → Type 0
IsLinkedFile version i bytes = IsFile (codes "MIM") image_form version i bytes

-- the bytes are an image file that holds this image in this version
pub record IsImageFile (version : ℕ) (i : Image) (bytes : List ℕ) : Type 0 where
  pub file : IsLinkedFile version (parts_of_image i) bytes
  pub whole : All IsWhole i.modules

-- the first module with a fault, and its first fault
pub record HasModuleFault (modules : List ModulePart) (number : ℕ) (bad : BadCode) : Type 0 where
  pub found : ModulePart
  pub is : slice_get modules number ≡ Some found
  pub before : (n : ℕ) (m : ModulePart) → n < number → slice_get modules n ≡ Some m → HasValidCode m
  pub fault : HasCodeFault found bad

-- they are none, and this is the first reason: of the file, or else of the code that it holds
pub data IsNoImageFile (bytes : List ℕ) : ObjectFault → Type 0 where
  no_file : (fault : FileFault) → FirstFault (codes "MIM") image_form bytes fault → IsNoImageFile bytes (file_fault fault)
  bad_code : (version : ℕ) (i : ImagePart) (number : ℕ) (bad : BadCode) → IsLinkedFile version i bytes → HasModuleFault i.modules number bad
      → IsNoImageFile bytes (Code number bad.procedure bad.fault)
