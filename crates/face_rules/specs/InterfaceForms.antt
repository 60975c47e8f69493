-- Interfaces in files: the face, the constants and the types that it declares; all their names are distinct (rule of this project).
use Rattle.std.specs.Prelude.{ℕ, List, ◌++◌, map, codes}
use Rattle.mesa_types.specs.declared.types.TypeTree.{TypeTree}
use Rattle.mesa_types.specs.declared.faces.Face.{Face}
use Rattle.mesa_base.specs.declared.file_fault.Field.TheVariants as field
use Rattle.file_forms.specs.Forms.{Form, number, pair, ruled, built, list, at_least}
use Rattle.file_forms.specs.Names.{fresh_name}
use Rattle.file_forms.specs.Files.{IsFile, FirstFault}
use Rattle.face_rules.specs.Layers.{value_bytes, holds}
use Rattle.face_rules.specs.TypeForms.{any, is_of_constants, types}
use Rattle.face_rules.specs.FaceForms.{item_names, face}
use Rattle.interface_records.specs.declared.interface.Constant.{Constant}
use Rattle.interface_records.specs.declared.interface.NamedType.{NamedType}
use Rattle.interface_records.specs.declared.interface.Interface.{Interface}
use Rattle.mesa_base.specs.declared.file_fault.FileFault.{FileFault}

-- a name, an ordinal type and a word that is a value of it, or a LONG type and a number of four bytes that is one

abbrev pub constant_of : List ℕ × (TypeTree × ℕ) → Constant
constant_of p = record { name = p.0; kind = p.1.0; value = p.1.1 }

abbrev pub constant_parts : Constant → List ℕ × (TypeTree × ℕ)
constant_parts c = (c.name, (c.kind, c.value))

-- a word or a number that is a value of the type
abbrev pub value_of : TypeTree → Form ℕ
value_of t = ruled (number (value_bytes t)) (holds t) field.Number

unfoldable pub constant : ℕ → List (List ℕ) → Form Constant
constant version seen = built constant_of constant_parts (pair (fresh_name seen) (λ _. pair (types version is_of_constants) value_of))

abbrev pub constant_names : List Constant → List (List ℕ)
constant_names constants = map (λ (c : Constant). c.name) constants

unfoldable pub constants : ℕ → List (List ℕ) → Form (List Constant)
constants version seen = list (at_least 0) (λ before. constant version (seen ++ constant_names before))

-- a name and a type

abbrev pub named_of : List ℕ × TypeTree → NamedType
named_of p = record { name = p.0; kind = p.1 }

abbrev pub named_parts : NamedType → List ℕ × TypeTree
named_parts n = (n.name, n.kind)

unfoldable pub named_type : ℕ → List (List ℕ) → Form NamedType
named_type version seen = built named_of named_parts (pair (fresh_name seen) (λ _. types version any))

abbrev pub type_names : List NamedType → List (List ℕ)
type_names all = map (λ (n : NamedType). n.name) all

unfoldable pub named_types : ℕ → List (List ℕ) → Form (List NamedType)
named_types version seen = list (at_least 0) (λ before. named_type version (seen ++ type_names before))

abbrev pub interface_of : Face × (List Constant × List NamedType) → Interface
interface_of p = record { face = p.0; constants = p.1.0; types = p.1.1 }

abbrev pub interface_parts : Interface → Face × (List Constant × List NamedType)
interface_parts i = (i.face, (i.constants, i.types))

unfoldable pub interface : ℕ → Form Interface
interface version = built interface_of interface_parts
    (pair (face version) (λ f. pair (constants version (item_names f.items)) (λ cs. named_types version (item_names f.items ++ constant_names cs))))

-- the bytes are an interface file that holds this interface in this version
abbrev pub IsInterfaceFile : ℕ → Interface → List ℕ → Type 0
IsInterfaceFile version i bytes = IsFile (codes "MIF") interface version i bytes

-- they are none, and this is the first reason
abbrev pub IsNoInterfaceFile : List ℕ → FileFault → Type 0
IsNoInterfaceFile bytes fault = FirstFault (codes "MIF") interface bytes fault
