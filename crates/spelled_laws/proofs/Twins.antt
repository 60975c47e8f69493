-- Types of the code and plain ones, from one to the other and back.
use Rattle.std.proofs.Common.{◌≡◌, ℕ, List, [], ◌∷◌, Option, refl, sym, ◌∙◌, subst, ap}
use Rattle.std.specs.Prelude.{map}
use Rattle.mesa_types.specs.declared.types.TypeTree.{TypeTree, roll-TypeTree}
use Rattle.mesa_types.specs.declared.types.TypeTree.TheVariants as tree
use Rattle.mesa_types.specs.declared.types.TypeTree.TheOpen.{TypeTree-F, FieldType-F}
use Rattle.mesa_types.specs.declared.types.TypeTree.TheFolds.{fold-TypeTree, fold-FieldType, fold-roll-TypeTree, fold-roll-FieldType, ind-TypeTree, map-TypeTree, map-FieldType}
use Rattle.mesa_types.specs.declared.types.FieldType.{FieldType, roll-FieldType, out-FieldType, roll-out-FieldType}
use Rattle.interface_records.specs.PlainTypes as p
use Rattle.interface_records.specs.PlainTypes.{PlainType, PlainField, Parts, parts_of, fields_of_parts, plain, plain_field, plain_step, plain_field_step, tree_of, trees_of, field_of}

-- ---- a fold of a type's tree, by its layer

module _ (S F : Type 0) (step : TypeTree-F S F → S) (field : FieldType-F S F → F) where
  pub folded : (y : TypeTree-F TypeTree FieldType) (t : TypeTree) → roll-TypeTree y ≡ t
      → fold-TypeTree S F step field t ≡ step (map-TypeTree TypeTree FieldType S F (fold-TypeTree S F step field) (fold-FieldType S F step field) y)
  folded y t e = ap (fold-TypeTree S F step field) (sym e) ∙ fold-roll-TypeTree S F step field y

  pub field_folded : (x : Option (List ℕ)) (k : TypeTree) → fold-FieldType S F step field (roll-FieldType (record { name = x; kind = k })) ≡ field
      (record { name = x; kind = fold-TypeTree S F step field k })
  field_folded x k = fold-roll-FieldType S F step field (record { name = x; kind = k })

-- ---- from the code's to plain ones and back

abbrev of_tree : TypeTree → PlainType
of_tree = fold-TypeTree PlainType PlainField plain_step plain_field_step

abbrev of_part : FieldType → PlainField
of_part = fold-FieldType PlainType PlainField plain_step plain_field_step

abbrev TypeBack : TypeTree → Type 0
TypeBack x = tree_of (of_tree x) ≡ x

abbrev PartBack : FieldType → Type 0
PartBack f = field_of (of_part f) ≡ f

abbrev Types : Type 0
Types = (x : TypeTree) × TypeBack x

abbrev Fields : Type 0
Fields = (f : FieldType) × PartBack f

parts_back : (ys : List Fields) → trees_of (parts_of (map of_part (map (λ y. y.0) ys))) ≡ map (λ y. y.0) ys
unfolding trees_of parts_of
parts_back [] = refl
parts_back (y ∷ ys) = ap (λ f. f ∷ trees_of (parts_of (map of_part (map (λ z. z.0) ys)))) y.1 ∙ ap (λ fs. y.0 ∷ fs) (parts_back ys)

layer_back : (y : TypeTree-F Types Fields) → TypeBack (roll-TypeTree (map-TypeTree Types Fields TypeTree FieldType (λ e. e.0) (λ e. e.0) y))
unfolding tree_of
layer_back TypeTree-F.Integer = simp fold-roll-TypeTree (sym tree.rolls-Integer)
layer_back TypeTree-F.Cardinal = simp fold-roll-TypeTree (sym tree.rolls-Cardinal)
layer_back TypeTree-F.LongInteger = simp fold-roll-TypeTree (sym tree.rolls-LongInteger)
layer_back TypeTree-F.LongCardinal = simp fold-roll-TypeTree (sym tree.rolls-LongCardinal)
layer_back TypeTree-F.Boolean = simp fold-roll-TypeTree (sym tree.rolls-Boolean)
layer_back TypeTree-F.Character = simp fold-roll-TypeTree (sym tree.rolls-Character)
layer_back TypeTree-F.String = simp fold-roll-TypeTree (sym tree.rolls-String)
layer_back (TypeTree-F.Enumeration o xs) = simp fold-roll-TypeTree (sym (tree.rolls-Enumeration o xs))
layer_back (TypeTree-F.Subrange k m n) = simp fold-roll-TypeTree (ap (λ j. tree.Subrange j m n) k.1 ∙ sym (tree.rolls-Subrange k.0 m n))
layer_back (TypeTree-F.Array i e) = simp fold-roll-TypeTree
    (ap (λ j. tree.Array j (tree_of (of_tree e.0))) i.1 ∙ (ap (λ j. tree.Array i.0 j) e.1 ∙ sym (tree.rolls-Array i.0 e.0)))
layer_back (TypeTree-F.Record o fs) =
    simp fold-roll-TypeTree (ap (λ xs. tree.Record o xs) (parts_back fs) ∙ sym (tree.rolls-Record o (map (λ y. y.0) fs)))

part_layer_back : (y : FieldType-F Types Fields) → PartBack (roll-FieldType (map-FieldType Types Fields TypeTree FieldType (λ e. e.0) (λ e. e.0) y))
part_layer_back y = simp fold-roll-FieldType (ap (λ k. roll-FieldType (record { name = y.name; kind = k })) y.kind.1)

pub type_back : (t : TypeTree) → tree_of (plain t) ≡ t
unfolding plain
type_back t =
    ind-TypeTree TypeBack PartBack
    (λ x y is. subst (λ z. TypeBack (roll-TypeTree z)) is (layer_back y))
    (λ x y is. subst (λ z. PartBack (roll-FieldType z)) is (part_layer_back y)) t

-- ---- from plain ones to the code's and back

mutual
  unfolding tree_of parts_of

  again : (k : PlainType) → of_tree (tree_of k) ≡ k
  again p.Integer = folded PlainType PlainField plain_step plain_field_step TypeTree-F.Integer tree.Integer tree.rolls-Integer
  again p.Cardinal = folded PlainType PlainField plain_step plain_field_step TypeTree-F.Cardinal tree.Cardinal tree.rolls-Cardinal
  again p.LongInteger = folded PlainType PlainField plain_step plain_field_step TypeTree-F.LongInteger tree.LongInteger tree.rolls-LongInteger
  again p.LongCardinal = folded PlainType PlainField plain_step plain_field_step TypeTree-F.LongCardinal tree.LongCardinal tree.rolls-LongCardinal
  again p.Boolean = folded PlainType PlainField plain_step plain_field_step TypeTree-F.Boolean tree.Boolean tree.rolls-Boolean
  again p.Character = folded PlainType PlainField plain_step plain_field_step TypeTree-F.Character tree.Character tree.rolls-Character
  again p.String = folded PlainType PlainField plain_step plain_field_step TypeTree-F.String tree.String tree.rolls-String
  again (p.Enumeration o xs) =
      folded PlainType PlainField plain_step plain_field_step (TypeTree-F.Enumeration o xs) (tree.Enumeration o xs) (tree.rolls-Enumeration o xs)
  again (p.Subrange k x y) =
      folded PlainType PlainField plain_step plain_field_step (TypeTree-F.Subrange (tree_of k) x y) (tree.Subrange (tree_of k) x y) (tree.rolls-Subrange (tree_of k) x y)
      ∙ ap (λ j. p.Subrange j x y) (again k)
  again (p.Array i e) =
      folded PlainType PlainField plain_step plain_field_step (TypeTree-F.Array (tree_of i) (tree_of e)) (tree.Array (tree_of i) (tree_of e)) (tree.rolls-Array (tree_of i) (tree_of e))
      ∙ (ap (λ j. p.Array j (of_tree (tree_of e))) (again i) ∙ ap (λ j. p.Array i j) (again e))
  again (p.Record o ps) =
      folded PlainType PlainField plain_step plain_field_step (TypeTree-F.Record o (trees_of ps)) (tree.Record o (trees_of ps)) (tree.rolls-Record o (trees_of ps))
      ∙ ap (λ qs. p.Record o qs) (parts_again ps)

  parts_again : (ps : Parts) → parts_of (map of_part (trees_of ps)) ≡ ps
  parts_again p.NoPart = refl
  parts_again (p.AndPart x k ps) =
      ap (λ (f : PlainField). p.AndPart f.name f.kind (parts_of (map of_part (trees_of ps)))) (field_folded PlainType PlainField plain_step plain_field_step x (tree_of k))
      ∙ (ap (λ j. p.AndPart x j (parts_of (map of_part (trees_of ps)))) (again k) ∙ ap (λ qs. p.AndPart x k qs) (parts_again ps))

pub type_again : (k : PlainType) → plain (tree_of k) ≡ k
unfolding plain
type_again k = again k

-- the fields of a record
pub fields_again : (ps : Parts) → map plain_field (trees_of ps) ≡ fields_of_parts ps
unfolding plain_field trees_of fields_of_parts
fields_again p.NoPart = refl
fields_again (p.AndPart x k ps) =
    ap (λ (f : PlainField). f ∷ map of_part (trees_of ps)) (field_folded PlainType PlainField plain_step plain_field_step x (tree_of k) ∙ ap (λ j. record { name = x; kind = j }) (again k))
    ∙ ap (λ fs. record { name = x; kind = k } ∷ fs) (fields_again ps)

-- a field as it is plain
pub field_is : (f : FieldType) → plain_field f ≡ record { name = (out-FieldType f).name; kind = plain (out-FieldType f).kind }
unfolding plain plain_field
field_is f = ap of_part (sym (roll-out-FieldType f)) ∙ field_folded PlainType PlainField plain_step plain_field_step (out-FieldType f).name (out-FieldType f).kind
