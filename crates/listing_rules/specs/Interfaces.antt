-- The listing of an interface (rule of this project): a line for it, for each item, each constant and each type.
use Rattle.std.specs.Prelude.{ℕ, List, [], ◌∷◌, ◌++◌, flat_map, codes}
use Rattle.line_pieces.specs.Texts.{stamp_text}
use Rattle.mesa_types.specs.declared.faces.Item.{Item}
use Rattle.mesa_types.specs.declared.faces.ItemKind.{ItemKind}
use Rattle.mesa_types.specs.declared.faces.ItemKind.TheVariants.{Procedure, Signal, Error}
use Rattle.mesa_types.specs.declared.types.FieldType.{FieldType}
use Rattle.interface_records.specs.declared.interface.Constant.{Constant}
use Rattle.interface_records.specs.declared.interface.NamedType.{NamedType}
use Rattle.interface_records.specs.declared.interface.Interface.{Interface}
use Rattle.listing_rules.specs.Lines.{line}
use Rattle.listing_rules.specs.Types.{type_text, value_text, fields_text}

-- INTERFACE NAME STAMP
abbrev pub head_line : List ℕ → ℕ → List ℕ
head_line name stamp = line (codes "INTERFACE" ∷ name ∷ stamp_text stamp ∷ [])

-- PROCEDURE NAME FIELDS RETURNS FIELDS, or the same of a signal; ERROR NAME FIELDS
abbrev pub kind_line : ItemKind → List ℕ → List FieldType → List FieldType → List ℕ
kind_line Procedure name takes gives = line (codes "PROCEDURE" ∷ name ∷ fields_text takes ∷ codes "RETURNS" ∷ fields_text gives ∷ [])
kind_line Signal name takes gives = line (codes "SIGNAL" ∷ name ∷ fields_text takes ∷ codes "RETURNS" ∷ fields_text gives ∷ [])
kind_line Error name takes gives = line (codes "ERROR" ∷ name ∷ fields_text takes ∷ [])

abbrev pub item_line : Item → List ℕ
item_line i = kind_line i.kind i.name i.takes i.gives

-- CONSTANT NAME TYPE NUMBER
abbrev pub constant_line : Constant → List ℕ
constant_line c = line (codes "CONSTANT" ∷ c.name ∷ type_text c.kind ∷ value_text c.kind c.value ∷ [])

-- TYPE NAME TYPE
abbrev pub type_line : NamedType → List ℕ
type_line t = line (codes "TYPE" ∷ t.name ∷ type_text t.kind ∷ [])

abbrev pub interface_listing : Interface → List ℕ
interface_listing i =
    head_line i.face.name i.face.stamp
    ++ (flat_map item_line i.face.items ++ (flat_map constant_line i.constants ++ flat_map type_line i.types))
