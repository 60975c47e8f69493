-- From the types of the code to plain ones and back.
use Rattle.std.proofs.Common.{◌≡◌, List, [], ◌∷◌, refl, sym, ◌∙◌, subst, ap}
use Rattle.std.specs.Prelude.{map}
use Rattle.mesa_types.specs.declared.types.TypeTree.{TypeTree, roll-TypeTree}
use Rattle.mesa_types.specs.declared.types.TypeTree.TheVariants as tree
use Rattle.mesa_types.specs.declared.types.TypeTree.TheOpen.{TypeTree-F, FieldType-F}
use Rattle.mesa_types.specs.declared.types.TypeTree.TheFolds.{fold-TypeTree, fold-FieldType, fold-roll-TypeTree, fold-roll-FieldType, ind-TypeTree, ind-FieldType, map-TypeTree, map-FieldType}
use Rattle.mesa_types.specs.declared.types.FieldType.{FieldType, roll-FieldType}
use Rattle.mesa_types.specs.declared.faces.Item.{Item}
use Rattle.interface_records.specs.declared.interface.Interface.{Interface}
use Rattle.interface_records.specs.PlainTypes as v
use Rattle.interface_records.specs.PlainTypes.{NoPart, AndPart, Parts, PlainItem, PlainConstant, PlainName, PlainInterface, constant_of, named_of, interface_of, plain_constant, plain_name, PlainType, PlainField, parts_of, plain, plain_field, plain_step, plain_field_step, tree_of, trees_of, field_of, plain_item, item_of, face_of, plain_interface}

abbrev plain_tree : TypeTree → PlainType
plain_tree = fold-TypeTree PlainType PlainField plain_step plain_field_step

abbrev plain_part : FieldType → PlainField
plain_part = fold-FieldType PlainType PlainField plain_step plain_field_step

abbrev Type-law : TypeTree → Type 0
Type-law x = tree_of (plain_tree x) ≡ x

abbrev Field-law : FieldType → Type 0
Field-law f = field_of (plain_part f) ≡ f

abbrev Such-Type : Type 0
Such-Type = (x : TypeTree) × Type-law x

abbrev Such-Field : Type 0
Such-Field = (f : FieldType) × Field-law f

fields_back : (ys : List Such-Field) → trees_of (parts_of (map plain_part (map (λ y. y.0) ys))) ≡ map (λ y. y.0) ys
unfolding trees_of parts_of
fields_back [] = refl
fields_back (y ∷ ys) = ap (λ f. f ∷ trees_of (parts_of (map plain_part (map (λ z. z.0) ys)))) y.1 ∙ ap (λ fs. y.0 ∷ fs) (fields_back ys)

here_type : (y : TypeTree-F Such-Type Such-Field) → Type-law (roll-TypeTree (map-TypeTree Such-Type Such-Field TypeTree FieldType (λ e. e.0) (λ e. e.0) y))
unfolding tree_of
here_type TypeTree-F.Integer = simp fold-roll-TypeTree (sym tree.rolls-Integer)
here_type TypeTree-F.Cardinal = simp fold-roll-TypeTree (sym tree.rolls-Cardinal)
here_type TypeTree-F.LongInteger = simp fold-roll-TypeTree (sym tree.rolls-LongInteger)
here_type TypeTree-F.LongCardinal = simp fold-roll-TypeTree (sym tree.rolls-LongCardinal)
here_type TypeTree-F.Boolean = simp fold-roll-TypeTree (sym tree.rolls-Boolean)
here_type TypeTree-F.Character = simp fold-roll-TypeTree (sym tree.rolls-Character)
here_type TypeTree-F.String = simp fold-roll-TypeTree (sym tree.rolls-String)
here_type (TypeTree-F.Enumeration o xs) = simp fold-roll-TypeTree (sym (tree.rolls-Enumeration o xs))
here_type (TypeTree-F.Subrange k m n) = simp fold-roll-TypeTree (ap (λ j. tree.Subrange j m n) k.1 ∙ sym (tree.rolls-Subrange k.0 m n))
here_type (TypeTree-F.Array i e) =
    simp fold-roll-TypeTree (ap (λ j. tree.Array j (tree_of (plain_tree e.0))) i.1 ∙ (ap (λ j. tree.Array i.0 j) e.1 ∙ sym (tree.rolls-Array i.0 e.0)))
here_type (TypeTree-F.Record o fs) = simp fold-roll-TypeTree (ap (λ xs. tree.Record o xs) (fields_back fs) ∙ sym (tree.rolls-Record o (map (λ y. y.0) fs)))

here_field : (y : FieldType-F Such-Type Such-Field) → Field-law (roll-FieldType (map-FieldType Such-Type Such-Field TypeTree FieldType (λ e. e.0) (λ e. e.0) y))
here_field y = simp fold-roll-FieldType (ap (λ k. roll-FieldType (record { name = y.name; kind = k })) y.kind.1)

pub tree_back : (x : TypeTree) → Type-law x
tree_back x =
    ind-TypeTree Type-law Field-law
    (λ x y is. subst (λ z. Type-law (roll-TypeTree z)) is (here_type y))
    (λ x y is. subst (λ z. Field-law (roll-FieldType z)) is (here_field y)) x

pub field_back : (f : FieldType) → Field-law f
field_back f =
    ind-FieldType Type-law Field-law
    (λ x y is. subst (λ z. Type-law (roll-TypeTree z)) is (here_type y))
    (λ x y is. subst (λ z. Field-law (roll-FieldType z)) is (here_field y)) f

type_back : (x : TypeTree) → tree_of (plain x) ≡ x
unfolding plain
type_back x = tree_back x

part_back : (f : FieldType) → field_of (plain_field f) ≡ f
unfolding plain_field
part_back f = field_back f

map_back : {A B : Type 0} (f : A → B) (g : B → A) → ((x : A) → g (f x) ≡ x) → (xs : List A) → map g (map f xs) ≡ xs
map_back f g h [] = refl
map_back f g h (x ∷ xs) = ap (λ y. y ∷ map g (map f xs)) (h x) ∙ ap (λ ys. x ∷ ys) (map_back f g h xs)

item_back : (i : Item) → item_of (plain_item i) ≡ i
item_back i =
    ap (λ fs. record i { takes = fs; gives = map field_of (map plain_field i.gives) }) (map_back plain_field field_of part_back i.takes)
    ∙ ap (λ fs. record i { gives = fs }) (map_back plain_field field_of part_back i.gives)

-- an interface's face comes back as it was
pub face_back : (i : Interface) → face_of (plain_interface i) ≡ i.face
face_back i = ap (λ is. record i.face { items = is }) (map_back plain_item item_of item_back i.face.items)

-- and from plain types to those of the code and back
mutual
  unfolding tree_of parts_of

  plain_again : (k : PlainType) → plain_tree (tree_of k) ≡ k
  plain_again v.Integer = ap plain_tree (sym tree.rolls-Integer) ∙ fold-roll-TypeTree PlainType PlainField plain_step plain_field_step TypeTree-F.Integer
  plain_again v.Cardinal = ap plain_tree (sym tree.rolls-Cardinal) ∙ fold-roll-TypeTree PlainType PlainField plain_step plain_field_step TypeTree-F.Cardinal
  plain_again v.LongInteger = ap plain_tree (sym tree.rolls-LongInteger) ∙ fold-roll-TypeTree PlainType PlainField plain_step plain_field_step TypeTree-F.LongInteger
  plain_again v.LongCardinal = ap plain_tree (sym tree.rolls-LongCardinal) ∙ fold-roll-TypeTree PlainType PlainField plain_step plain_field_step TypeTree-F.LongCardinal
  plain_again v.Boolean = ap plain_tree (sym tree.rolls-Boolean) ∙ fold-roll-TypeTree PlainType PlainField plain_step plain_field_step TypeTree-F.Boolean
  plain_again v.Character = ap plain_tree (sym tree.rolls-Character) ∙ fold-roll-TypeTree PlainType PlainField plain_step plain_field_step TypeTree-F.Character
  plain_again v.String = ap plain_tree (sym tree.rolls-String) ∙ fold-roll-TypeTree PlainType PlainField plain_step plain_field_step TypeTree-F.String
  plain_again (v.Enumeration o xs) = ap plain_tree (sym (tree.rolls-Enumeration o xs))
      ∙ fold-roll-TypeTree PlainType PlainField plain_step plain_field_step (TypeTree-F.Enumeration o xs)
  plain_again (v.Subrange k x y) = ap plain_tree (sym (tree.rolls-Subrange (tree_of k) x y))
      ∙ (fold-roll-TypeTree PlainType PlainField plain_step plain_field_step (TypeTree-F.Subrange (tree_of k) x y)
      ∙ ap (λ j. v.Subrange j x y) (plain_again k))
  plain_again (v.Array i e) = ap plain_tree (sym (tree.rolls-Array (tree_of i) (tree_of e)))
      ∙ (fold-roll-TypeTree PlainType PlainField plain_step plain_field_step (TypeTree-F.Array (tree_of i) (tree_of e))
      ∙ (ap (λ j. v.Array j (plain_tree (tree_of e))) (plain_again i) ∙ ap (λ j. v.Array i j) (plain_again e)))
  plain_again (v.Record o ps) = ap plain_tree (sym (tree.rolls-Record o (trees_of ps)))
      ∙ (fold-roll-TypeTree PlainType PlainField plain_step plain_field_step (TypeTree-F.Record o (trees_of ps))
      ∙ ap (λ qs. v.Record o qs) (parts_again ps))

  parts_again : (ps : Parts) → parts_of (map plain_part (trees_of ps)) ≡ ps
  parts_again NoPart = refl
  parts_again (AndPart x k ps) =
      ap (λ f. AndPart f.name f.kind (parts_of (map plain_part (trees_of ps))))
      (fold-roll-FieldType PlainType PlainField plain_step plain_field_step (record { name = x; kind = tree_of k }))
      ∙ (ap (λ j. AndPart x j (parts_of (map plain_part (trees_of ps)))) (plain_again k) ∙ ap (λ qs. AndPart x k qs) (parts_again ps))

type_again : (k : PlainType) → plain (tree_of k) ≡ k
unfolding plain
type_again k = plain_again k

part_again : (f : PlainField) → plain_field (field_of f) ≡ f
unfolding plain_field
part_again f = fold-roll-FieldType PlainType PlainField plain_step plain_field_step (record { name = f.name; kind = tree_of f.kind })
    ∙ ap (λ k. record f { kind = k }) (plain_again f.kind)

item_again : (i : PlainItem) → plain_item (item_of i) ≡ i
item_again i =
    ap (λ fs. record i { takes = fs; gives = map plain_field (map field_of i.gives) }) (map_back field_of plain_field part_again i.takes)
    ∙ ap (λ fs. record i { gives = fs }) (map_back field_of plain_field part_again i.gives)

constant_again : (c : PlainConstant) → plain_constant (constant_of c) ≡ c
constant_again c = ap (λ k. record c { kind = k }) (type_again c.kind)

name_again : (x : PlainName) → plain_name (named_of x) ≡ x
name_again x = ap (λ k. record x { kind = k }) (type_again x.kind)

pub interface_again : (i : PlainInterface) → plain_interface (interface_of i) ≡ i
interface_again i =
    ap (λ is. record i { items = is; constants = map plain_constant (map constant_of i.constants); types = map plain_name (map named_of i.types) })
    (map_back item_of plain_item item_again i.items)
    ∙ (ap (λ cs. record i { constants = cs; types = map plain_name (map named_of i.types) }) (map_back constant_of plain_constant constant_again i.constants)
    ∙ ap (λ xs. record i { types = xs }) (map_back named_of plain_name name_again i.types))
