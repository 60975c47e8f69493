-- The file of an interface, in version 2 (rule of this project).
use Rattle.std.specs.Prelude.{ℕ, List, ◌++◌, codes}
use Rattle.interface_records.specs.declared.interface.Interface.{Interface}
use Rattle.file_forms.specs.Files.{versioned}
use Rattle.face_rules.specs.InterfaceForms.{interface}

-- three letters, the version, and the interface
abbrev pub interface_file : Interface → List ℕ
interface_file i = codes "MIF" ++ (versioned interface).spell (2, i)
