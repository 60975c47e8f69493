-- A type of the code is the one that its plain type leads back to.
use Rattle.std.proofs.Common.{◌≡◌, List, [], ◌∷◌, map, refl, sym, ◌∙◌, subst, ap}
use Rattle.mesa_types.specs.declared.types.TypeTree.{TypeTree, roll-TypeTree}
use Rattle.mesa_types.specs.declared.types.TypeTree.TheVariants as tree
use Rattle.mesa_types.specs.declared.types.TypeTree.TheOpen.{TypeTree-F, FieldType-F}
use Rattle.mesa_types.specs.declared.types.TypeTree.TheFolds.{fold-TypeTree, fold-FieldType, fold-roll-TypeTree, fold-roll-FieldType, ind-TypeTree, map-TypeTree, map-FieldType}
use Rattle.mesa_types.specs.declared.types.FieldType.{FieldType, roll-FieldType}
use Rattle.interface_records.specs.PlainTypes.{PlainType, PlainField, parts_of, plain, plain_step, plain_field_step, tree_of, trees_of, field_of}

abbrev plain_tree : TypeTree → PlainType
plain_tree = fold-TypeTree PlainType PlainField plain_step plain_field_step

abbrev plain_part : FieldType → PlainField
plain_part = fold-FieldType PlainType PlainField plain_step plain_field_step

abbrev Type-law : TypeTree → Type 0
Type-law x = tree_of (plain_tree x) ≡ x

abbrev Field-law : FieldType → Type 0
Field-law f = field_of (plain_part f) ≡ f

abbrev Such-Type : Type 0
Such-Type = (x : TypeTree) × Type-law x

abbrev Such-Field : Type 0
Such-Field = (f : FieldType) × Field-law f

fields_back : (ys : List Such-Field) → trees_of (parts_of (map plain_part (map (λ y. y.0) ys))) ≡ map (λ y. y.0) ys
unfolding trees_of parts_of
fields_back [] = refl
fields_back (y ∷ ys) = ap (λ f. f ∷ trees_of (parts_of (map plain_part (map (λ z. z.0) ys)))) y.1 ∙ ap (λ fs. y.0 ∷ fs) (fields_back ys)

here_type : (y : TypeTree-F Such-Type Such-Field) → Type-law (roll-TypeTree (map-TypeTree Such-Type Such-Field TypeTree FieldType (λ e. e.0) (λ e. e.0) y))
unfolding tree_of
here_type TypeTree-F.Integer = simp fold-roll-TypeTree (sym tree.rolls-Integer)
here_type TypeTree-F.Cardinal = simp fold-roll-TypeTree (sym tree.rolls-Cardinal)
here_type TypeTree-F.LongInteger = simp fold-roll-TypeTree (sym tree.rolls-LongInteger)
here_type TypeTree-F.LongCardinal = simp fold-roll-TypeTree (sym tree.rolls-LongCardinal)
here_type TypeTree-F.Boolean = simp fold-roll-TypeTree (sym tree.rolls-Boolean)
here_type TypeTree-F.Character = simp fold-roll-TypeTree (sym tree.rolls-Character)
here_type TypeTree-F.String = simp fold-roll-TypeTree (sym tree.rolls-String)
here_type (TypeTree-F.Enumeration o xs) = simp fold-roll-TypeTree (sym (tree.rolls-Enumeration o xs))
here_type (TypeTree-F.Subrange k m n) = simp fold-roll-TypeTree (ap (λ j. tree.Subrange j m n) k.1 ∙ sym (tree.rolls-Subrange k.0 m n))
here_type (TypeTree-F.Array i e) =
    simp fold-roll-TypeTree (ap (λ j. tree.Array j (tree_of (plain_tree e.0))) i.1 ∙ (ap (λ j. tree.Array i.0 j) e.1 ∙ sym (tree.rolls-Array i.0 e.0)))
here_type (TypeTree-F.Record o fs) = simp fold-roll-TypeTree (ap (λ xs. tree.Record o xs) (fields_back fs) ∙ sym (tree.rolls-Record o (map (λ y. y.0) fs)))

here_field : (y : FieldType-F Such-Type Such-Field) → Field-law (roll-FieldType (map-FieldType Such-Type Such-Field TypeTree FieldType (λ e. e.0) (λ e. e.0) y))
here_field y = simp fold-roll-FieldType (ap (λ k. roll-FieldType (record { name = y.name; kind = k })) y.kind.1)

tree_back : (x : TypeTree) → Type-law x
tree_back x =
    ind-TypeTree Type-law Field-law
    (λ x y is. subst (λ z. Type-law (roll-TypeTree z)) is (here_type y))
    (λ x y is. subst (λ z. Field-law (roll-FieldType z)) is (here_field y)) x

pub back : (t : TypeTree) → tree_of (plain t) ≡ t
unfolding plain
back t = tree_back t
