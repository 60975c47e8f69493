-- What checking says that a file can spell is exactly what the forms of files fit in version 2 (rule of this project). Version 1 has no LONG
-- types; what its forms fit those of version 2 fit too.
use Rattle.std.specs.Prelude.{ℕ, ◌↔◌, ◌≡◌, true, List, map, is_some}
use Rattle.mesa_types.specs.declared.types.TypeTree.{TypeTree}
use Rattle.mesa_types.specs.declared.types.FieldType.{FieldType}
use Rattle.mesa_types.specs.declared.faces.Item.{Item}
use Rattle.mesa_types.specs.declared.faces.Face.{Face}
use Rattle.interface_records.specs.Faces.{iodefs}
use Rattle.interface_records.specs.PlainTypes.{base_of, plain, plain_field, plain_item, plain_interface}
use Rattle.interface_records.specs.Spelled.{TypeCanBeSpelled, FieldsCanBeSpelled, NamesCanBeSpelled, ItemCanBeSpelled, FaceCanBeSpelled, InterfaceCanBeSpelled}
use Rattle.interface_records.specs.declared.interface.Interface.{Interface}
use Rattle.face_rules.specs.TypeForms.{any, is_of_constants, types, fields}
use Rattle.face_rules.specs.FaceForms.{item, face}
use Rattle.face_rules.specs.InterfaceForms.{interface}

-- a type, anywhere in a file
abbrev pub TypesFit : Type 0
TypesFit = (t : TypeTree) → TypeCanBeSpelled (plain t) ↔ (types 2 any).fits t

-- and where that of a constant is wanted
abbrev pub ConstantTypesFit : Type 0
ConstantTypesFit = (t : TypeTree) → (TypeCanBeSpelled (plain t) × (is_some (base_of (plain t)) ≡ true)) ↔ (types 2 is_of_constants).fits t

-- fields, parameters or results
abbrev pub FieldsFit : Type 0
FieldsFit = (fs : List FieldType) → (FieldsCanBeSpelled (map plain_field fs) × NamesCanBeSpelled (map plain_field fs)) ↔ (fields 2).fits fs

abbrev pub ItemsFit : Type 0
ItemsFit = (i : Item) → ItemCanBeSpelled (plain_item i) ↔ (item 2).fits i

abbrev pub FacesFit : Type 0
FacesFit = (f : Face) → FaceCanBeSpelled f.name f.stamp (map plain_item f.items) ↔ (face 2).fits f

abbrev pub InterfacesFit : Type 0
InterfacesFit = (i : Interface) → InterfaceCanBeSpelled (plain_interface i) ↔ (interface 2).fits i

-- the face of an interface that fits does too
abbrev pub FacesOfInterfacesFit : Type 0
FacesOfInterfacesFit = (version : ℕ) (i : Interface) → (interface version).fits i → (face version).fits i.face

abbrev pub BuiltInFits : Type 0
BuiltInFits = (interface 2).fits iodefs
