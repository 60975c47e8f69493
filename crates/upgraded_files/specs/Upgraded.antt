-- A file of version 1 as one of version 2 (rule of this project).
use Rattle.std.specs.Prelude.{ℕ, ◌<◌, List, length, slice_set}
use Rattle.interface_records.specs.declared.interface.Interface.{Interface}
use Rattle.object_files.specs.declared.image.Image.{Image}
use Rattle.object_files.specs.declared.object.Object.{Object}
use Rattle.face_rules.specs.InterfaceForms.{IsInterfaceFile}
use Rattle.object_rules.specs.ImageFiles.{IsImageFile}
use Rattle.object_rules.specs.ObjectFiles.{IsObjectFile}

-- the version stands behind the three letters
abbrev pub upgraded : List ℕ → List ℕ
upgraded bytes = slice_set bytes 3 2

-- Bytes that are a file of a value, in either version, are its file in version 2 once they say so: both spellings have one length, and differ in the
-- version alone.
pub record FilesAreUpgraded : Type 0 where
  pub interfaces : (version : ℕ) (i : Interface) (bytes : List ℕ) → IsInterfaceFile version i bytes → IsInterfaceFile 2 i (upgraded bytes)
  pub objects : (version : ℕ) (o : Object) (bytes : List ℕ) → IsObjectFile version o bytes → IsObjectFile 2 o (upgraded bytes)
  pub images : (version : ℕ) (i : Image) (bytes : List ℕ) → IsImageFile version i bytes → IsImageFile 2 i (upgraded bytes)

-- there is a version to be set
pub record FilesHaveVersions : Type 0 where
  pub interfaces : (version : ℕ) (i : Interface) (bytes : List ℕ) → IsInterfaceFile version i bytes → 3 < length bytes
  pub objects : (version : ℕ) (o : Object) (bytes : List ℕ) → IsObjectFile version o bytes → 3 < length bytes
  pub images : (version : ℕ) (i : Image) (bytes : List ℕ) → IsImageFile version i bytes → 3 < length bytes
