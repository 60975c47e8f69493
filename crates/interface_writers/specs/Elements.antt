-- The elements of the lists of an interface, by those before (rule of this project).
use Rattle.std.specs.Prelude.{ℕ, List, ◌++◌}
use Rattle.mesa_types.specs.declared.faces.Item.{Item}
use Rattle.interface_records.specs.declared.interface.Constant.{Constant}
use Rattle.interface_records.specs.declared.interface.NamedType.{NamedType}
use Rattle.file_forms.specs.Forms.{Form}
use Rattle.file_forms.specs.Names.{fresh_name}
use Rattle.face_rules.specs.FaceForms.{item_named, item_names}
use Rattle.face_rules.specs.InterfaceForms.{constant, constant_names, named_type, type_names}

abbrev pub each_item : List Item → Form Item
each_item before = item_named (fresh_name (item_names before)) 2

abbrev pub each_constant : List (List ℕ) → List Constant → Form Constant
each_constant seen before = constant 2 (seen ++ constant_names before)

abbrev pub each_named_type : List (List ℕ) → List NamedType → Form NamedType
each_named_type seen before = named_type 2 (seen ++ type_names before)
