-- The bytes of a value, by the form of its type.
use Rattle.std.proofs.Common.{◌≡◌, ℕ, List, ap}
use Rattle.mesa_types.specs.declared.types.Origin.{Origin}
use Rattle.mesa_types.specs.declared.types.TypeTree.{TypeTree, roll-TypeTree}
use Rattle.mesa_types.specs.declared.types.TypeTree.TheVariants as v
use Rattle.mesa_types.specs.declared.types.TypeTree.TheOpen.{TypeTree-F}
use Rattle.mesa_types.specs.declared.types.FieldType.{FieldType}
use Rattle.face_rules.specs.Layers.{Layer, layer_bytes, value_bytes}
use Rattle.face_rules.proofs.LayerLaws.{layer_at}

bytes_at : (y : Layer) (t : TypeTree) → roll-TypeTree y ≡ t → value_bytes t ≡ layer_bytes y
unfolding value_bytes
bytes_at y t e = ap layer_bytes (layer_at y t e)

pub long_integer_width : value_bytes v.LongInteger ≡ 4
long_integer_width = bytes_at TypeTree-F.LongInteger v.LongInteger v.rolls-LongInteger

pub long_cardinal_width : value_bytes v.LongCardinal ≡ 4
long_cardinal_width = bytes_at TypeTree-F.LongCardinal v.LongCardinal v.rolls-LongCardinal

pub integer_width : value_bytes v.Integer ≡ 2
integer_width = bytes_at TypeTree-F.Integer v.Integer v.rolls-Integer

pub cardinal_width : value_bytes v.Cardinal ≡ 2
cardinal_width = bytes_at TypeTree-F.Cardinal v.Cardinal v.rolls-Cardinal

pub boolean_width : value_bytes v.Boolean ≡ 2
boolean_width = bytes_at TypeTree-F.Boolean v.Boolean v.rolls-Boolean

pub character_width : value_bytes v.Character ≡ 2
character_width = bytes_at TypeTree-F.Character v.Character v.rolls-Character

pub string_width : value_bytes v.String ≡ 2
string_width = bytes_at TypeTree-F.String v.String v.rolls-String

pub enumeration_width : (o : Origin) (xs : List (List ℕ)) → value_bytes (v.Enumeration o xs) ≡ 2
enumeration_width o xs = bytes_at (TypeTree-F.Enumeration o xs) (v.Enumeration o xs) (v.rolls-Enumeration o xs)

pub subrange_width : (b : TypeTree) (m n : ℕ) → value_bytes (v.Subrange b m n) ≡ 2
subrange_width b m n = bytes_at (TypeTree-F.Subrange b m n) (v.Subrange b m n) (v.rolls-Subrange b m n)

pub array_width : (i e : TypeTree) → value_bytes (v.Array i e) ≡ 2
array_width i e = bytes_at (TypeTree-F.Array i e) (v.Array i e) (v.rolls-Array i e)

pub record_width : (o : Origin) (fs : List FieldType) → value_bytes (v.Record o fs) ≡ 2
record_width o fs = bytes_at (TypeTree-F.Record o fs) (v.Record o fs) (v.rolls-Record o fs)

pub ruleset widths = (long_integer_width, long_cardinal_width, integer_width, cardinal_width, boolean_width, character_width, string_width, enumeration_width, subrange_width, array_width, record_width)
