-- Objects that came of files (rule of this project).
use Rattle.std.specs.Prelude.{ℕ, List}
use Rattle.object_files.specs.declared.object.Object.{Object}
use Rattle.object_rules.specs.ObjectFiles.{IsObjectFile}

-- these bytes are its file, in this version
pub record IsFiled (o : Object) : Type 0 where
  pub version : ℕ
  pub bytes : List ℕ
  pub is_file : IsObjectFile version o bytes
