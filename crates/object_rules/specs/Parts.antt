-- The parts of an object that its file holds. Depths, links and the offsets of instructions are not among them, since they follow
-- from the others (rule of this project).
use Rattle.std.specs.Prelude.{◌≡◌, ℕ, ◌+◌, List, [], ◌∷◌, length, map}
use Rattle.mesa_types.specs.Types.{words_of_fields}
use Rattle.mesa_types.specs.Links.{links_of}
use Rattle.mesa_types.specs.declared.faces.Export.{Export}
use Rattle.mesa_types.specs.declared.faces.Import.{Import}
use Rattle.mesa_types.specs.declared.faces.Item.{Item}
use Rattle.mesa_types.specs.declared.faces.ItemKind.{ItemKind}
use Rattle.mesa_types.specs.declared.faces.ItemKind.TheVariants as item
use Rattle.code_forms.specs.declared.bad_code.BadCode.{BadCode}
use Rattle.code_forms.specs.declared.instruction.Instruction.{Instruction}
use Rattle.code_forms.specs.declared.module_code.CodeEntry.{CodeEntry}
use Rattle.code_forms.specs.declared.module_code.CodeKind.{CodeKind}
use Rattle.code_forms.specs.declared.module_code.CodeKind.TheVariants.{Procedure, Signal, Error}
use Rattle.code_forms.specs.declared.module_code.CodeLink.{CodeLink}
use Rattle.code_forms.specs.declared.module_code.CodeProcedure.{CodeProcedure}
use Rattle.code_forms.specs.declared.module_code.CodeSignal.{CodeSignal}
use Rattle.code_forms.specs.declared.module_code.Phrase.{Phrase}
use Rattle.code_forms.specs.Instructions.{bytes_of}
use Rattle.code_forms.specs.Same.{bare}
use Rattle.code_forms.specs.Valid.{Valid, AreValid, IsFirstFaultOf}
use Rattle.object_files.specs.declared.object.Object.{Object}

pub record ProcedurePart : Type 0 where
  pub name : List ℕ
  pub args : ℕ
  pub results : ℕ
  pub frame : ℕ
  pub depth : ℕ
  pub code : List Instruction
  pub phrases : List Phrase

pub record ModulePart : Type 0 where
  pub name : List ℕ
  pub imports : List Import
  pub global_words : ℕ
  pub signals : List CodeSignal
  pub strings : List (List ℕ)
  pub procedures : List ProcedurePart
  pub exports : List Export

-- ---- of an object

abbrev pub instructions : List CodeEntry → List Instruction
instructions code = map (λ (e : CodeEntry). e.instruction) code

abbrev pub procedure_part : CodeProcedure → ProcedurePart
procedure_part p = record { name = p.name; args = p.args; results = p.results; frame = p.frame; depth = p.depth; code = instructions p.code; phrases = p.phrases }

abbrev pub parts_of : Object → ModulePart
parts_of o = record {
  name = o.shape.name;
  imports = o.shape.imports;
  global_words = o.code.global_words;
  signals = o.code.signals;
  strings = o.code.strings;
  procedures = map procedure_part o.code.procedures;
  exports = o.shape.exports;
}

-- ---- what follows from the parts

-- the entries of instructions from this offset on, each where the one before it ends; with no depth yet
unfoldable pub entries_from : (at : ℕ) → List Instruction → List CodeEntry
entries_from at [] = []
entries_from at (i ∷ code) = record { at = at; depth = 0; instruction = i } ∷ entries_from (at + bytes_of i) code

abbrev pub procedure_code : ProcedurePart → CodeProcedure
procedure_code p = record { name = p.name; args = p.args; results = p.results; frame = p.frame; depth = p.depth; code = entries_from 0 p.code; phrases = p.phrases }

abbrev pub procedures_of : ModulePart → List CodeProcedure
procedures_of m = map procedure_code m.procedures

abbrev pub kind_code : ItemKind → CodeKind
kind_code item.Procedure = Procedure
kind_code item.Signal = Signal
kind_code item.Error = Error

-- a link has the kind of its item, and the words of what it takes and gives
abbrev pub link_code : Item → CodeLink
link_code i = record { kind = kind_code i.kind; args = words_of_fields i.takes; results = words_of_fields i.gives }

-- the links of a module are the used items of its imports, in order
abbrev pub link_codes : List Import → List CodeLink
link_codes imports = map link_code (links_of imports)

-- ---- what holds besides of the code

-- an object's shape and its code have one name; its links are those of the imports, and its code is valid, each instruction standing
-- where the one before it ends
pub record IsWhole (o : Object) : Type 0 where
  pub name : o.code.name ≡ o.shape.name
  pub links : o.code.links ≡ link_codes o.shape.imports
  pub entries : bare o.code.procedures ≡ procedures_of (parts_of o)
  pub valid : Valid o.code

abbrev pub HasValidCode : ModulePart → Type 0
HasValidCode m = AreValid m.global_words (length m.strings) m.signals (link_codes m.imports) (procedures_of m) (length m.procedures)

-- the first procedure with a fault, and its first fault
abbrev pub HasCodeFault : ModulePart → BadCode → Type 0
HasCodeFault m = IsFirstFaultOf m.global_words (length m.strings) m.signals (link_codes m.imports) (procedures_of m)
