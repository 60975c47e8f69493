-- The files of the exercise (rule of this project).
use Rattle.std.specs.Prelude.{ℕ, List, [], ◌∷◌, ◌++◌, codes}
use Rattle.mesa_base.specs.Outside.{Files}
use Rattle.mesa_base.specs.MemoryFolder.{file_of, bytes_of}
use Rattle.mesa_base.specs.declared.named_file.NamedFile.{NamedFile}
use Rattle.file_forms.specs.Files.{versioned}
use Rattle.face_rules.specs.InterfaceForms.{interface}
use Rattle.interface_records.specs.declared.interface.Interface.{Interface}
use Rattle.exercise_texts.specs.Interfaces.{step_defs, sig_defs}
use Rattle.exercise_texts.specs.Texts.{link_text, last_text, main_text, chain_text}

-- the file of an interface in version 2
abbrev pub file_of_interface : Interface → List ℕ
file_of_interface i = codes "MIF" ++ (versioned interface).spell (2, i)

-- with so many links
unfoldable pub exercise_list : (links : ℕ) → List NamedFile
exercise_list links =
    file_of (codes "StepDefs.mif") (file_of_interface step_defs)
    ∷ file_of (codes "SigDefs.mif") (file_of_interface sig_defs)
    ∷ file_of (codes "Link.mesa") link_text
    ∷ file_of (codes "Last.mesa") last_text
    ∷ file_of (codes "Main.mesa") main_text
    ∷ file_of (codes "Chain.config") (chain_text links)
    ∷ []

-- no other name has a file
abbrev pub exercise_files : (links : ℕ) → Files
exercise_files links = bytes_of (exercise_list links)
