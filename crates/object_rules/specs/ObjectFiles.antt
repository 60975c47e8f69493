-- Which bytes are an object's file, and the first fault of bytes that are none (rule of this project).
use Rattle.std.specs.Prelude.{ℕ, List, codes}
use Rattle.mesa_base.specs.declared.file_fault.FileFault.{FileFault}
use Rattle.mesa_base.specs.declared.file_fault.FileFault.TheVariants as file
use Rattle.code_forms.specs.declared.bad_code.BadCode.{BadCode}
use Rattle.file_forms.specs.Files.{IsFile, FirstFault}
use Rattle.object_files.specs.declared.object.Object.{Object}
use Rattle.object_rules.specs.declared.object_fault.ObjectFault.{ObjectFault}
use Rattle.object_rules.specs.declared.object_fault.ObjectFault.TheVariants.{BadMagic, TooLong, Cut, BadField, TrailingBytes, Code, Memory}
use Rattle.object_rules.specs.ModuleForms.{module_form}
use Rattle.object_rules.specs.Parts.{ModulePart, parts_of, IsWhole, HasCodeFault}

-- the bytes are an object file that holds the parts of a module in this version
abbrev pub IsModuleFile : ℕ → ModulePart → List ℕ → Type 0
IsModuleFile version m bytes = IsFile (codes "MOB") module_form version m bytes

-- the bytes are an object file that holds this object in this version
pub record IsObjectFile (version : ℕ) (o : Object) (bytes : List ℕ) : Type 0 where
  pub file : IsModuleFile version (parts_of o) bytes
  pub whole : IsWhole o

abbrev pub file_fault : FileFault → ObjectFault
file_fault file.BadMagic = BadMagic
file_fault file.TooLong = TooLong
file_fault (file.Cut at) = Cut at
file_fault (file.BadField at field) = BadField at field
file_fault (file.TrailingBytes at) = TrailingBytes at
file_fault file.Memory = Memory

-- they are none, and this is the first reason: of the file, or else of the code that it holds
pub data IsNoObjectFile (bytes : List ℕ) : ObjectFault → Type 0 where
  no_file : (fault : FileFault) → FirstFault (codes "MOB") module_form bytes fault → IsNoObjectFile bytes (file_fault fault)
  bad_code : (version : ℕ) (m : ModulePart) (bad : BadCode) → IsModuleFile version m bytes → HasCodeFault m bad
      → IsNoObjectFile bytes (Code 0 bad.procedure bad.fault)
