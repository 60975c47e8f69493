-- What stands in some file, in either version.
use Rattle.std.specs.Prelude.{ℕ, List}
use Rattle.object_files.specs.declared.image.Image.{Image}
use Rattle.object_files.specs.declared.object.Object.{Object}
use Rattle.object_rules.specs.ImageFiles.{IsImageFile}
use Rattle.object_rules.specs.ObjectFiles.{IsObjectFile}

pub record IsFiled (o : Object) : Type 0 where
  pub version : ℕ
  pub bytes : List ℕ
  pub is_file : IsObjectFile version o bytes

pub record IsFiledImage (i : Image) : Type 0 where
  pub version : ℕ
  pub bytes : List ℕ
  pub is_file : IsImageFile version i bytes
