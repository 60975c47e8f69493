-- Which files a text asks for by its DIRECTORY, and what is looked at before any of them is read (rule of this project).
use Rattle.std.specs.Prelude.{ℕ, Bool, ◌||◌, List, [], ◌∷◌, map, Option, Some, None, Ok, if◌then◌else◌, bytes_eq}
use Rattle.syntax_trees.specs.Syntax as s
use Rattle.syntax_trees.specs.declared.syntax.DirectoryItem.{DirectoryItem}
use Rattle.interface_records.specs.Faces.{iodefs}
use Rattle.check_rules.specs.Steps.{Checked, and_then, only, refuse}
use Rattle.check_rules.specs.declared.fault.Cause.TheVariants.{UnknownName, StampMissing, StampUnwanted}
use Rattle.config_rules.specs.Components.{is_file_base}
pub use Rattle.checked_texts.specs.declared.purpose.Purpose.{Purpose}
pub use Rattle.checked_texts.specs.declared.purpose.Purpose.TheVariants.{Program, Interface}

-- an item named IODefs takes the built-in interface, whatever its FROM text is
abbrev pub is_built_in : DirectoryItem → Bool
is_built_in d = bytes_eq d.name.name iodefs.face.name

-- the base of the file that an item asks for; the built-in interface asks for none
abbrev pub asked : DirectoryItem → Option (List ℕ)
asked d = if is_built_in d then None else Some d.file

-- what the items ask for, in order
abbrev pub asks : s.Module → List (Option (List ℕ))
asks m = map asked m.directory

-- definitions have a stamp, and a program has none; else the fault is named at the word of the kind
abbrev pub fits : Purpose → s.ModuleKind → Checked (Unit {0})
fits Program (s.Program p imports exports opens inner) = Ok tt
fits Program (s.Interface p opens defs) = refuse StampMissing p
fits (Interface stamp) (s.Program p imports exports opens inner) = refuse StampUnwanted p
fits (Interface stamp) (s.Interface p opens defs) = Ok tt

-- an item that asks for no file, or whose FROM text is the base of one
abbrev pub names_file : DirectoryItem → Bool
names_file d = is_built_in d || is_file_base d.file

-- each item is such; else the fault is named at the first FROM text that is not the base of a file
unfoldable pub name_files : List DirectoryItem → Checked (Unit {0})
name_files [] = Ok tt
name_files (d ∷ ds) = and_then (only (names_file d) UnknownName d.file_place) (λ _. name_files ds)

-- first the stamp, then the FROM texts
abbrev pub before_files : Purpose → s.Module → Checked (Unit {0})
before_files purpose m = and_then (fits purpose m.kind) (λ _. name_files m.directory)
