-- Objects that have files, and how their files are put one behind the other (rule of this project).
use Rattle.std.specs.Prelude.{◌≡◌, ℕ, List, [], ◌∷◌, ◌++◌}
use Rattle.mesa_base.specs.declared.file_fault.WriteFault.{WriteFault}
use Rattle.mesa_base.specs.declared.file_fault.WriteFault.TheVariants.{TooLarge, Memory}
use Rattle.mesa_types.specs.Typed.{Module}
use Rattle.object_files.specs.declared.object.Object.{Object}
use Rattle.object_rules.specs.ObjectFiles.{IsObjectFile}
use Rattle.object_writers.specs.ObjectBytes.{object_file}
use Rattle.checked_texts.specs.Laws.{CanBeKept}
use Rattle.linked_programs.specs.Objects.{IsObjectOf}
use Rattle.filed_images.specs.Files.{FitsFile, IsTooLarge}
use Rattle.program_files.specs.Files.{IsFirstTooLarge}
use Rattle.program_files.specs.declared.size_fault.SizeFault.{SizeFault}
use Rattle.program_files.specs.declared.size_fault.SizeFault.TheVariants as fault

-- the object of a module that can be kept
pub record CanBeFiled (o : Object) : Type 0 where
  pub typed : Module
  pub kept : CanBeKept typed
  pub object : IsObjectOf typed o

-- this is its file
pub record HasFile (o : Object) (file : List ℕ) : Type 0 where
  pub is_file : IsObjectFile 2 o file
  pub fits : FitsFile (object_file o)

-- the files, and behind them that of this object
pub record IsOneMore (o : Object) (old new : List (List ℕ)) : Type 0 where
  pub file : List ℕ
  pub behind : new ≡ old ++ file ∷ []
  pub its : HasFile o file

-- a fault of writing, where too large a file is this fault
abbrev pub fault_of : WriteFault → (large : SizeFault) → SizeFault
fault_of TooLarge large = large
fault_of Memory large = fault.Memory

-- the fault of the object with this number
abbrev pub IsFaultOf : Object → ℕ → SizeFault → Type 0
IsFaultOf o number (fault.Object n) = (n ≡ number) × IsTooLarge (object_file o)
IsFaultOf o number fault.Image = ⊥
IsFaultOf o number fault.Memory = Unit {0}

-- the first fault of these objects
abbrev pub IsFaultAmong : List Object → SizeFault → Type 0
IsFaultAmong objects (fault.Object n) = IsFirstTooLarge objects n
IsFaultAmong objects fault.Image = ⊥
IsFaultAmong objects fault.Memory = Unit {0}
