-- The test whether two faces are the same (rule of this project). A law says that it tells those that are equal.
use Rattle.std.specs.Prelude.{◌≡◌, ◌↔◌, Bool, true, false, ◌&&◌, List, [], ◌∷◌, nat_eq, bytes_eq}
use Rattle.mesa_types.specs.declared.faces.Face.{Face}
use Rattle.mesa_types.specs.declared.faces.Item.{Item}
use Rattle.mesa_types.specs.declared.types.FieldType.{FieldType}
use Rattle.interface_records.specs.Faces.{SameFace}
use Rattle.interface_records.specs.PlainTypes.{same, same_name, plain}
use Rattle.object_rules.specs.ImageForms.{same_kind}

-- the same types under the same names
unfoldable pub same_fields : List FieldType → List FieldType → Bool
same_fields [] [] = true
same_fields (f ∷ fs) (g ∷ gs) = same_name f.name g.name && (same (plain f.kind) (plain g.kind) && same_fields fs gs)
same_fields _ _ = false

abbrev pub same_item : Item → Item → Bool
same_item a b = same_kind a.kind b.kind && (bytes_eq a.name b.name && (same_fields a.takes b.takes && same_fields a.gives b.gives))

unfoldable pub same_items : List Item → List Item → Bool
same_items [] [] = true
same_items (i ∷ is) (j ∷ js) = same_item i j && same_items is js
same_items _ _ = false

unfoldable pub same_face : Face → Face → Bool
same_face a b = bytes_eq a.name b.name && (nat_eq a.stamp b.stamp && same_items a.items b.items)

abbrev pub SameFacesAreEqual : Type 0
SameFacesAreEqual = (a b : Face) → (same_face a b ≡ true) ↔ SameFace a b
