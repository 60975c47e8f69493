-- How many bytes faces take, and how few at least items and interfaces.
use Rattle.std.proofs.Common.{◌≡◌, ℕ, ◌+◌, ◌≤◌, List, ◌++◌, length, refl, arith}
use Rattle.mesa_types.specs.declared.faces.Face.{Face}
use Rattle.mesa_types.specs.declared.faces.Item.{Item}
use Rattle.mesa_types.specs.declared.types.FieldType.{FieldType}
use Rattle.interface_records.specs.declared.interface.Constant.{Constant}
use Rattle.interface_records.specs.declared.interface.Interface.{Interface}
use Rattle.interface_records.specs.declared.interface.NamedType.{NamedType}
use Rattle.file_forms.specs.Forms.{number, at_least}
use Rattle.file_forms.specs.Names.{short_text, name, fresh_name}
use Rattle.file_forms.proofs.Numbers.{length-number}
use Rattle.face_rules.specs.FaceForms.{number_of, item_kind, gives, item_named, item, item_names, items, face}
use Rattle.face_rules.specs.InterfaceForms.{constant, constant_names, constants, named_type, type_names, named_types, interface}
use Rattle.face_rules.specs.TypeForms.{any, field_form, fields_form, types, fields}
use Rattle.file_sizes.specs.Sizes.{total, item_size, face_size, interface_size}
use Rattle.file_sizes.proofs.Lists.{list_sized, list_some, two, three, four}

pub name_sized : (x : List ℕ) → length (name.spell x) ≡ 1 + length x
unfolding name short_text
name_sized x = omega (arith, two ((number 1).spell (length x)) x, length-number 1 (length x))

fields_some : (all : List FieldType) → 4 ≤ length ((fields 2).spell all)
unfolding fields_form
fields_some all = list_some (at_least 0) (field_form (types 2 any)) all

pub items_some : (i : Item) → 6 + length i.name ≤ item_size i
unfolding item_size item_named item_kind
items_some i =
    let whole : length ((item 2).spell i)
    ≡ length ((number 1).spell (number_of i.kind)) + (length (name.spell i.name) + (length ((fields 2).spell i.takes) + length ((gives 2 i.kind).spell i.gives))) =
    four ((number 1).spell (number_of i.kind)) (name.spell i.name) ((fields 2).spell i.takes) ((gives 2 i.kind).spell i.gives) in
    omega (arith, whole, length-number 1 (number_of i.kind), name_sized i.name, fields_some i.takes)

item_alike : (before : List Item) (i : Item) → length ((item_named (fresh_name (item_names before)) 2).spell i) ≡ item_size i
unfolding item_size item_named fresh_name
item_alike before i = refl

pub faces_sized : (f : Face) → face_size f ≡ 11 + length f.name + total item_size f.items
unfolding face_size face items
faces_sized f =
    let whole : length ((face 2).spell f) ≡ length (name.spell f.name) + (length ((number 6).spell f.stamp) + length ((items 2).spell f.items)) =
    three (name.spell f.name) ((number 6).spell f.stamp) ((items 2).spell f.items) in
    let all : length ((items 2).spell f.items) ≡ 4 + total item_size f.items =
    list_sized (λ before. item_named (fresh_name (item_names before)) 2) item_size item_alike (at_least 0) f.items in
    omega (arith, whole, all, length-number 6 f.stamp, name_sized f.name)

constants_some : (seen : List (List ℕ)) (all : List Constant) → 4 ≤ length ((constants 2 seen).spell all)
unfolding constants
constants_some seen all = list_some (at_least 0) (λ before. constant 2 (seen ++ constant_names before)) all

types_some : (seen : List (List ℕ)) (all : List NamedType) → 4 ≤ length ((named_types 2 seen).spell all)
unfolding named_types
types_some seen all = list_some (at_least 0) (λ before. named_type 2 (seen ++ type_names before)) all

module _ (i : Interface) where
  abbrev before_types : List (List ℕ)
  before_types = item_names i.face.items ++ constant_names i.constants

  pub files_some : face_size i.face + 12 ≤ interface_size i
  unfolding interface_size face_size interface
  files_some =
      let whole : length ((interface 2).spell i)
      ≡ length ((face 2).spell i.face) + (length ((constants 2 (item_names i.face.items)).spell i.constants) + length ((named_types 2 before_types).spell i.types)) =
      three ((face 2).spell i.face) ((constants 2 (item_names i.face.items)).spell i.constants) ((named_types 2 before_types).spell i.types) in
      let led : length ((number 1).spell 2 ++ (interface 2).spell i) ≡ length ((number 1).spell 2) + length ((interface 2).spell i) =
      two ((number 1).spell 2) ((interface 2).spell i) in
      omega (arith, whole, led, length-number 1 2, constants_some (item_names i.face.items) i.constants, types_some before_types i.types)
