-- Items and faces in files (rule of this project).
use Rattle.std.specs.Prelude.{ℕ, ◌&&◌, ◌==◌, List, [], map, nat_le, if◌then◌else◌}
use Rattle.mesa_types.specs.declared.types.FieldType.{FieldType}
use Rattle.mesa_types.specs.declared.faces.ItemKind.{ItemKind}
use Rattle.mesa_types.specs.declared.faces.ItemKind.TheVariants.{Procedure, Signal, Error}
use Rattle.mesa_types.specs.declared.faces.Item.{Item}
use Rattle.mesa_types.specs.declared.faces.Face.{Face}
use Rattle.mesa_base.specs.declared.file_fault.Field.TheVariants as field
use Rattle.file_forms.specs.Forms.{Form, number, always, pair, ruled, built, list, at_least}
use Rattle.file_forms.specs.Names.{name, fresh_name}
use Rattle.face_rules.specs.TypeForms.{fields}

abbrev pub number_of : ItemKind → ℕ
number_of Procedure = 1
number_of Signal = 2
number_of Error = 3

abbrev pub kind_of : ℕ → ItemKind
kind_of n = if n == 1 then Procedure else if n == 2 then Signal else Error

-- 1 procedure, 2 signal, 3 error
unfoldable pub item_kind : Form ItemKind
item_kind = built kind_of number_of (ruled (number 1) (λ n. nat_le 1 n && nat_le n 3) field.Kind)

-- what an item gives; an error gives nothing
unfoldable pub gives : ℕ → ItemKind → Form (List FieldType)
gives version Procedure = fields version
gives version Signal = fields version
gives version Error = always []

abbrev pub item_of : ItemKind × (List ℕ × (List FieldType × List FieldType)) → Item
item_of p = record { kind = p.0; name = p.1.0; takes = p.1.1.0; gives = p.1.1.1 }

abbrev pub item_parts : Item → ItemKind × (List ℕ × (List FieldType × List FieldType))
item_parts i = (i.kind, (i.name, (i.takes, i.gives)))

-- the kind, a name in this form, what it takes, and what it gives
unfoldable pub item_named : Form (List ℕ) → ℕ → Form Item
item_named called version = built item_of item_parts
    (pair item_kind (λ kind. pair called (λ _. pair (fields version) (λ _. gives version kind))))

abbrev pub item : ℕ → Form Item
item version = item_named name version

abbrev pub item_names : List Item → List (List ℕ)
item_names items = map (λ (i : Item). i.name) items

unfoldable pub items : ℕ → Form (List Item)
items version = list (at_least 0) (λ before. item_named (fresh_name (item_names before)) version)

abbrev pub face_of : List ℕ × (ℕ × List Item) → Face
face_of p = record { name = p.0; stamp = p.1.0; items = p.1.1 }

abbrev pub face_parts : Face → List ℕ × (ℕ × List Item)
face_parts f = (f.name, (f.stamp, f.items))

-- name, stamp, items with distinct names
unfoldable pub face : ℕ → Form Face
face version = built face_of face_parts (pair name (λ _. pair (number 6) (λ _. items version)))
