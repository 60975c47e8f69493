-- From files to interfaces and modules: the text, its tree, the interfaces that its DIRECTORY asks for, and checking, in this order (rule of this project).
use Rattle.std.specs.Prelude.{ℕ, List, Option, Some, None}
use Rattle.mesa_base.specs.declared.file_fault.FileFault.{FileFault}
use Rattle.syntax_trees.specs.declared.syntax.Module as syntax
use Rattle.syntax_trees.specs.PlainSyntax.{syntax}
use Rattle.mesa_types.specs.Typed.{Module}
use Rattle.interface_records.specs.Faces.{iodefs}
use Rattle.interface_records.specs.declared.interface.Interface as records
use Rattle.face_rules.specs.InterfaceForms.{IsInterfaceFile, IsNoInterfaceFile}
use Rattle.object_rules.specs.ObjectFiles.{file_fault}
use Rattle.checked_texts.specs.Asked.{asks}
use Rattle.checked_texts.specs.declared.purpose.Purpose.{Purpose}
use Rattle.checked_texts.specs.declared.purpose.Purpose.TheVariants.{Program, Interface}
use Rattle.checked_texts.specs.declared.text_fault.TextFault.{TextFault}
use Rattle.checked_texts.specs.Texts as text
use Rattle.command_rules.specs.Case.{Case, Refused, Absent, Text, File}
use Rattle.command_rules.specs.Forms.{interface_file}
use Rattle.command_rules.specs.Passes.{Outcome, Has, Stops, Pass, decided, given, from_file, and_then, each}

-- the bytes of an interface's file, of either version
pub data Decodes (file bytes : List ℕ) : Outcome Case records.Interface → Type 0 where
  is_file : (version : ℕ) (i : records.Interface) → IsInterfaceFile version i bytes → Decodes file bytes (Has i)
  is_none : (why : FileFault) → IsNoInterfaceFile bytes why → Decodes file bytes (Stops (Refused file (File (file_fault why))))

-- what an item of a DIRECTORY asks for: the file of this base, or the built-in interface, for which none is read
unfoldable pub interface_for : Option (List ℕ) → Pass Case records.Interface
interface_for None = given iodefs
interface_for (Some base) = from_file (interface_file base) (Absent (interface_file base)) (Decodes (interface_file base))

-- a text with its tree
abbrev pub Begun : Type 0
Begun = List ℕ × syntax.Module

pub data Begins (file : List ℕ) (purpose : Purpose) (bytes : List ℕ) : Outcome Case Begun → Type 0 where
  begun : (tree : syntax.Module) → text.Begins bytes purpose tree → Begins file purpose bytes (Has (bytes, tree))
  refused : (why : TextFault) → text.HasEarlyFault bytes purpose why → Begins file purpose bytes (Stops (Refused file (Text why)))

abbrev pub begun_for : (file : List ℕ) → Purpose → Pass Case Begun
begun_for file purpose = from_file file (Absent file) (Begins file purpose)

-- the interfaces for the items of its DIRECTORY, in order
abbrev pub interfaces_for : Begun → Pass Case (List records.Interface)
interfaces_for b = each interface_for (asks (syntax b.1))

pub data Checks (file bytes : List ℕ) (interfaces : List records.Interface) : Outcome Case Module → Type 0 where
  checked : (m : Module) → text.Reads bytes interfaces m → Checks file bytes interfaces (Has m)
  wrong : (why : TextFault) → text.HasCheckFault bytes Program interfaces why → Checks file bytes interfaces (Stops (Refused file (Text why)))

-- the module of a program, whose text has this tree
unfoldable pub program_of : (file : List ℕ) → Begun → Pass Case Module
program_of file b = and_then (interfaces_for b) (λ interfaces. decided (Checks file b.0 interfaces))

unfoldable pub module_in : (file : List ℕ) → Pass Case Module
module_in file = and_then (begun_for file Program) (program_of file)

pub data Defines (file : List ℕ) (stamp : ℕ) (bytes : List ℕ) (interfaces : List records.Interface) : Outcome Case records.Interface → Type 0 where
  defined : (i : records.Interface) → text.Defines bytes stamp interfaces i → Defines file stamp bytes interfaces (Has i)
  wrong : (why : TextFault) → text.HasCheckFault bytes (Interface stamp) interfaces why → Defines file stamp bytes interfaces (Stops (Refused file (Text why)))

-- the interface of definitions under a stamp, whose text has this tree
unfoldable pub definitions_of : (file : List ℕ) → (stamp : ℕ) → Begun → Pass Case records.Interface
definitions_of file stamp b = and_then (interfaces_for b) (λ interfaces. decided (Defines file stamp b.0 interfaces))

unfoldable pub interface_in : (file : List ℕ) → (stamp : ℕ) → Pass Case records.Interface
interface_in file stamp = and_then (begun_for file (Interface stamp)) (definitions_of file stamp)
