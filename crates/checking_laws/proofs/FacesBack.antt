-- The face of an interface is that of its plain twin: plain types and back are the types themselves.
use Rattle.std.specs.Prelude.{map}
use Rattle.std.proofs.Common.{◌≡◌, List, [], ◌∷◌, refl, sym, ◌∙◌, subst, ap}
use Rattle.mesa_types.specs.declared.types.TypeTree.{TypeTree, roll-TypeTree}
use Rattle.mesa_types.specs.declared.types.TypeTree.TheVariants as tree
use Rattle.mesa_types.specs.declared.types.TypeTree.TheOpen.{TypeTree-F, FieldType-F}
use Rattle.mesa_types.specs.declared.types.TypeTree.TheFolds.{fold-TypeTree, fold-FieldType, fold-roll-TypeTree, fold-roll-FieldType, ind-FieldType, map-TypeTree, map-FieldType}
use Rattle.mesa_types.specs.declared.types.FieldType.{FieldType, roll-FieldType}
use Rattle.mesa_types.specs.declared.faces.Item.{Item}
use Rattle.interface_records.specs.declared.interface.Interface.{Interface}
use Rattle.interface_records.specs.PlainTypes.{PlainType, PlainField, parts_of, plain_step, plain_field_step, plain_field, tree_of, trees_of, field_of, plain_item, item_of, face_of, plain_interface}

abbrev of_tree : TypeTree → PlainType
of_tree = fold-TypeTree PlainType PlainField plain_step plain_field_step

abbrev of_part : FieldType → PlainField
of_part = fold-FieldType PlainType PlainField plain_step plain_field_step

abbrev TypeBack : TypeTree → Type 0
TypeBack x = tree_of (of_tree x) ≡ x

abbrev PartBack : FieldType → Type 0
PartBack f = field_of (of_part f) ≡ f

abbrev Types : Type 0
Types = (x : TypeTree) × TypeBack x

abbrev Parts : Type 0
Parts = (f : FieldType) × PartBack f

parts_back : (ys : List Parts) → trees_of (parts_of (map of_part (map (λ y. y.0) ys))) ≡ map (λ y. y.0) ys
unfolding trees_of parts_of
parts_back [] = refl
parts_back (y ∷ ys) = ap (λ f. f ∷ trees_of (parts_of (map of_part (map (λ z. z.0) ys)))) y.1 ∙ ap (λ fs. y.0 ∷ fs) (parts_back ys)

layer_back : (y : TypeTree-F Types Parts) → TypeBack (roll-TypeTree (map-TypeTree Types Parts TypeTree FieldType (λ e. e.0) (λ e. e.0) y))
unfolding tree_of
layer_back TypeTree-F.Integer = simp fold-roll-TypeTree (sym tree.rolls-Integer)
layer_back TypeTree-F.Cardinal = simp fold-roll-TypeTree (sym tree.rolls-Cardinal)
layer_back TypeTree-F.LongInteger = simp fold-roll-TypeTree (sym tree.rolls-LongInteger)
layer_back TypeTree-F.LongCardinal = simp fold-roll-TypeTree (sym tree.rolls-LongCardinal)
layer_back TypeTree-F.Boolean = simp fold-roll-TypeTree (sym tree.rolls-Boolean)
layer_back TypeTree-F.Character = simp fold-roll-TypeTree (sym tree.rolls-Character)
layer_back TypeTree-F.String = simp fold-roll-TypeTree (sym tree.rolls-String)
layer_back (TypeTree-F.Enumeration o xs) = simp fold-roll-TypeTree (sym (tree.rolls-Enumeration o xs))
layer_back (TypeTree-F.Subrange k m n) = simp fold-roll-TypeTree (ap (λ j. tree.Subrange j m n) k.1 ∙ sym (tree.rolls-Subrange k.0 m n))
layer_back (TypeTree-F.Array i e) = simp fold-roll-TypeTree
    (ap (λ j. tree.Array j (tree_of (of_tree e.0))) i.1 ∙ (ap (λ j. tree.Array i.0 j) e.1 ∙ sym (tree.rolls-Array i.0 e.0)))
layer_back (TypeTree-F.Record o fs) =
    simp fold-roll-TypeTree (ap (λ xs. tree.Record o xs) (parts_back fs) ∙ sym (tree.rolls-Record o (map (λ y. y.0) fs)))

part_layer_back : (y : FieldType-F Types Parts) → PartBack (roll-FieldType (map-FieldType Types Parts TypeTree FieldType (λ e. e.0) (λ e. e.0) y))
part_layer_back y = simp fold-roll-FieldType (ap (λ k. roll-FieldType (record { name = y.name; kind = k })) y.kind.1)

part_back : (f : FieldType) → field_of (plain_field f) ≡ f
unfolding plain_field
part_back f =
    ind-FieldType TypeBack PartBack
    (λ x y is. subst (λ z. TypeBack (roll-TypeTree z)) is (layer_back y))
    (λ x y is. subst (λ z. PartBack (roll-FieldType z)) is (part_layer_back y)) f

each_back : {A B : Type 0} (f : A → B) (g : B → A) → ((x : A) → g (f x) ≡ x) → (xs : List A) → map g (map f xs) ≡ xs
each_back f g h [] = refl
each_back f g h (x ∷ xs) = ap (λ y. y ∷ map g (map f xs)) (h x) ∙ ap (λ ys. x ∷ ys) (each_back f g h xs)

item_back : (i : Item) → item_of (plain_item i) ≡ i
item_back i =
    ap (λ fs. record i { takes = fs; gives = map field_of (map plain_field i.gives) }) (each_back plain_field field_of part_back i.takes)
    ∙ ap (λ fs. record i { gives = fs }) (each_back plain_field field_of part_back i.gives)

pub face_back : (i : Interface) → face_of (plain_interface i) ≡ i.face
face_back i = ap (λ is. record i.face { items = is }) (each_back plain_item item_of item_back i.face.items)
