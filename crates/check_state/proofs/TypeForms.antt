-- What each form of a type of the code is as a plain one.
use Rattle.std.proofs.Common.{◌≡◌, ℕ, List, [], ◌∷◌, map, Some, refl, sym, ap, ◌∙◌}
use Rattle.mesa_types.specs.declared.types.TypeTree.{TypeTree, roll-TypeTree}
use Rattle.mesa_types.specs.declared.types.TypeTree.TheVariants as tree
use Rattle.mesa_types.specs.declared.types.TypeTree.TheOpen.{TypeTree-F, FieldType-F}
use Rattle.mesa_types.specs.declared.types.TypeTree.TheFolds.{fold-roll-TypeTree, fold-roll-FieldType, map-TypeTree}
use Rattle.mesa_types.specs.declared.types.FieldType.{FieldType, roll-FieldType, out-FieldType, roll-out-FieldType}
use Rattle.mesa_types.specs.declared.types.Origin.{Origin}
use Rattle.interface_records.specs.PlainTypes as v
use Rattle.interface_records.specs.PlainTypes.{PlainType, PlainField, fields_of_parts, parts_of, plain, plain_field, plain_step, plain_field_step}

pub type_at : (y : TypeTree-F TypeTree FieldType) {x : TypeTree} → roll-TypeTree y ≡ x
    → plain x ≡ plain_step (map-TypeTree TypeTree FieldType PlainType PlainField plain plain_field y)
unfolding plain plain_field
type_at y h = ap plain (sym h) ∙ fold-roll-TypeTree PlainType PlainField plain_step plain_field_step y

pub of_integer : plain tree.Integer ≡ v.Integer
of_integer = type_at TypeTree-F.Integer tree.rolls-Integer

pub of_cardinal : plain tree.Cardinal ≡ v.Cardinal
of_cardinal = type_at TypeTree-F.Cardinal tree.rolls-Cardinal

pub of_long_integer : plain tree.LongInteger ≡ v.LongInteger
of_long_integer = type_at TypeTree-F.LongInteger tree.rolls-LongInteger

pub of_long_cardinal : plain tree.LongCardinal ≡ v.LongCardinal
of_long_cardinal = type_at TypeTree-F.LongCardinal tree.rolls-LongCardinal

pub of_boolean : plain tree.Boolean ≡ v.Boolean
of_boolean = type_at TypeTree-F.Boolean tree.rolls-Boolean

pub of_character : plain tree.Character ≡ v.Character
of_character = type_at TypeTree-F.Character tree.rolls-Character

pub of_string : plain tree.String ≡ v.String
of_string = type_at TypeTree-F.String tree.rolls-String

pub of_enumeration : (o : Origin) (xs : List (List ℕ)) → plain (tree.Enumeration o xs) ≡ v.Enumeration o xs
of_enumeration o xs = type_at (TypeTree-F.Enumeration o xs) (tree.rolls-Enumeration o xs)

pub of_subrange : (k : TypeTree) (m n : ℕ) → plain (tree.Subrange k m n) ≡ v.Subrange (plain k) m n
of_subrange k m n = type_at (TypeTree-F.Subrange k m n) (tree.rolls-Subrange k m n)

pub of_array : (i e : TypeTree) → plain (tree.Array i e) ≡ v.Array (plain i) (plain e)
of_array i e = type_at (TypeTree-F.Array i e) (tree.rolls-Array i e)

pub of_record : (o : Origin) (fs : List FieldType) → plain (tree.Record o fs) ≡ v.Record o (parts_of (map plain_field fs))
of_record o fs = type_at (TypeTree-F.Record o fs) (tree.rolls-Record o fs)

of_field : (y : FieldType-F TypeTree FieldType) {x : FieldType} → roll-FieldType y ≡ x → plain_field x ≡ record { name = y.name; kind = plain y.kind }
unfolding plain plain_field
of_field y h = ap plain_field (sym h) ∙ fold-roll-FieldType PlainType PlainField plain_step plain_field_step y

pub parts_of_field : (f : FieldType) → plain_field f ≡ record { name = (out-FieldType f).name; kind = plain (out-FieldType f).kind }
parts_of_field f = of_field (out-FieldType f) (roll-out-FieldType f)

pub field_parts : (fs : List PlainField) → fields_of_parts (parts_of fs) ≡ fs
unfolding fields_of_parts parts_of
field_parts [] = refl
field_parts (f ∷ fs) = ap (λ gs. f ∷ gs) (field_parts fs)

pub record_fields : (o : Origin) (fs : List FieldType) → v.fields (plain (tree.Record o fs)) ≡ Some (map plain_field fs)
record_fields o fs = ap v.fields (of_record o fs) ∙ ap Some (field_parts (map plain_field fs))

-- for functions that match on types
pub ruleset type_forms = (of_integer, of_cardinal, of_long_integer, of_long_cardinal, of_boolean, of_character, of_string, of_enumeration, of_subrange, of_array, of_record)
