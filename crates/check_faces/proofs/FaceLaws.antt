-- A face of the code comes back as it was.
use Rattle.std.proofs.Common.{◌≡◌, List, [], ◌∷◌, map, refl, ap, ◌∙◌}
use Rattle.interface_records.specs.declared.interface.Interface.{Interface}
use Rattle.mesa_types.specs.declared.faces.Item.{Item}
use Rattle.mesa_types.specs.declared.types.FieldType.{FieldType, roll-FieldType, out-FieldType, roll-out-FieldType}
use Rattle.interface_records.specs.PlainTypes.{face_of, field_of, item_of, plain_field, plain_interface, plain_item}
use Rattle.check_state.proofs.TypeBack.{back}
use Rattle.check_state.proofs.TypeForms.{parts_of_field}

part_back : (f : FieldType) → field_of (plain_field f) ≡ f
part_back f =
    ap field_of (parts_of_field f)
    ∙ ap (λ k. roll-FieldType (record { name = (out-FieldType f).name; kind = k })) (back (out-FieldType f).kind)
    ∙ roll-out-FieldType f

map_back : {A B : Type 0} (f : A → B) (g : B → A) → ((x : A) → g (f x) ≡ x) → (xs : List A) → map g (map f xs) ≡ xs
map_back f g h [] = refl
map_back f g h (x ∷ xs) = ap (λ y. y ∷ map g (map f xs)) (h x) ∙ ap (λ ys. x ∷ ys) (map_back f g h xs)

item_back : (i : Item) → item_of (plain_item i) ≡ i
item_back i =
    ap (λ fs. record i { takes = fs; gives = map field_of (map plain_field i.gives) }) (map_back plain_field field_of part_back i.takes)
    ∙ ap (λ fs. record i { gives = fs }) (map_back plain_field field_of part_back i.gives)

pub face_back : (i : Interface) → face_of (plain_interface i) ≡ i.face
face_back i = ap (λ is. record i.face { items = is }) (map_back plain_item item_of item_back i.face.items)
