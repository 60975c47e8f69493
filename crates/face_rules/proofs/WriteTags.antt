-- The tags of the forms of types.
use Rattle.std.proofs.Common.{◌≡◌, ℕ, List}
use Rattle.mesa_types.specs.declared.types.Origin.{Origin}
use Rattle.mesa_types.specs.declared.types.TypeTree.{TypeTree}
use Rattle.mesa_types.specs.declared.types.TypeTree.TheVariants as v
use Rattle.mesa_types.specs.declared.types.TypeTree.TheOpen.{TypeTree-F}
use Rattle.mesa_types.specs.declared.types.FieldType.{FieldType}
use Rattle.face_rules.specs.Layers.{tag_of}
use Rattle.face_rules.proofs.LayerLaws.{tag_at}

pub integer_tag : tag_of v.Integer ≡ 1
integer_tag = tag_at TypeTree-F.Integer v.Integer v.rolls-Integer

pub cardinal_tag : tag_of v.Cardinal ≡ 2
cardinal_tag = tag_at TypeTree-F.Cardinal v.Cardinal v.rolls-Cardinal

pub boolean_tag : tag_of v.Boolean ≡ 3
boolean_tag = tag_at TypeTree-F.Boolean v.Boolean v.rolls-Boolean

pub character_tag : tag_of v.Character ≡ 4
character_tag = tag_at TypeTree-F.Character v.Character v.rolls-Character

pub string_tag : tag_of v.String ≡ 5
string_tag = tag_at TypeTree-F.String v.String v.rolls-String

pub enumeration_tag : (o : Origin) (xs : List (List ℕ)) → tag_of (v.Enumeration o xs) ≡ 6
enumeration_tag o xs = tag_at (TypeTree-F.Enumeration o xs) (v.Enumeration o xs) (v.rolls-Enumeration o xs)

pub subrange_tag : (b : TypeTree) (m n : ℕ) → tag_of (v.Subrange b m n) ≡ 7
subrange_tag b m n = tag_at (TypeTree-F.Subrange b m n) (v.Subrange b m n) (v.rolls-Subrange b m n)

pub array_tag : (i e : TypeTree) → tag_of (v.Array i e) ≡ 8
array_tag i e = tag_at (TypeTree-F.Array i e) (v.Array i e) (v.rolls-Array i e)

pub record_tag : (o : Origin) (fs : List FieldType) → tag_of (v.Record o fs) ≡ 9
record_tag o fs = tag_at (TypeTree-F.Record o fs) (v.Record o fs) (v.rolls-Record o fs)

pub long_integer_tag : tag_of v.LongInteger ≡ 10
long_integer_tag = tag_at TypeTree-F.LongInteger v.LongInteger v.rolls-LongInteger

pub long_cardinal_tag : tag_of v.LongCardinal ≡ 11
long_cardinal_tag = tag_at TypeTree-F.LongCardinal v.LongCardinal v.rolls-LongCardinal

pub ruleset tags = (integer_tag, cardinal_tag, boolean_tag, character_tag, string_tag, enumeration_tag, subrange_tag, array_tag, record_tag, long_integer_tag, long_cardinal_tag)
