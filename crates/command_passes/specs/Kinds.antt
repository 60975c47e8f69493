-- The kind of files that one of the code is.
use Rattle.command_rules.specs.Forms as rules
use Rattle.listed_files.specs.declared.file_kind.FileKind.{FileKind}
use Rattle.listed_files.specs.declared.file_kind.FileKind.TheVariants.{Interface, Object, Image}

abbrev pub kind_in : FileKind → rules.FileKind
kind_in Interface = rules.InterfaceFile
kind_in Object = rules.ObjectFile
kind_in Image = rules.ImageFile
