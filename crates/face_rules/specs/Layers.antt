-- One layer of a type: its tag in files, and its parts (rule of this project).
use Rattle.std.specs.Prelude.{ℕ, ◌+◌, ◌%◌, Bool, true, ◌&&◌, List, length, nat_le, nat_lt, Option, Some, None}
use Rattle.mesa_types.specs.declared.types.Origin.{Origin}
use Rattle.mesa_types.specs.declared.types.TypeTree.{TypeTree, out-TypeTree}
use Rattle.mesa_types.specs.declared.types.TypeTree.TheOpen.{TypeTree-F}
use Rattle.mesa_types.specs.declared.types.TypeTree.TheFolds.{fold-TypeTree}
use Rattle.mesa_types.specs.declared.types.FieldType.{FieldType}

abbrev pub Layer : Type 0
Layer = TypeTree-F TypeTree FieldType

abbrev pub layer_tag : Layer → ℕ
layer_tag TypeTree-F.Integer = 1
layer_tag TypeTree-F.Cardinal = 2
layer_tag TypeTree-F.Boolean = 3
layer_tag TypeTree-F.Character = 4
layer_tag TypeTree-F.String = 5
layer_tag (TypeTree-F.Enumeration origin names) = 6
layer_tag (TypeTree-F.Subrange base first last) = 7
layer_tag (TypeTree-F.Array index element) = 8
layer_tag (TypeTree-F.Record origin fields) = 9
layer_tag TypeTree-F.LongInteger = 10
layer_tag TypeTree-F.LongCardinal = 11

unfoldable pub tag_of : TypeTree → ℕ
tag_of t = layer_tag (out-TypeTree t)

abbrev pub of_enumeration : Layer → Option (Origin × List (List ℕ))
of_enumeration (TypeTree-F.Enumeration origin names) = Some (origin, names)
of_enumeration _ = None

abbrev pub of_subrange : Layer → Option (TypeTree × (ℕ × ℕ))
of_subrange (TypeTree-F.Subrange base first last) = Some (base, (first, last))
of_subrange _ = None

abbrev pub of_array : Layer → Option (TypeTree × TypeTree)
of_array (TypeTree-F.Array index element) = Some (index, element)
of_array _ = None

abbrev pub of_record : Layer → Option (Origin × List FieldType)
of_record (TypeTree-F.Record origin fields) = Some (origin, fields)
of_record _ = None

-- a value of a LONG type has four bytes, each other one is a word
abbrev pub layer_bytes : Layer → ℕ
layer_bytes TypeTree-F.LongInteger = 4
layer_bytes TypeTree-F.LongCardinal = 4
layer_bytes _ = 2

unfoldable pub value_bytes : TypeTree → ℕ
value_bytes t = layer_bytes (out-TypeTree t)

-- ---- the words that are values of an ordinal type, and the numbers that are values of a LONG type

-- the test, and the order of its values
pub record Values : Type 0 where
  pub holds : ℕ → Bool
  pub in_order : ℕ → ℕ → Bool

-- words from 32768 on are negative
abbrev pub signed_le : ℕ → ℕ → Bool
signed_le a b = nat_le ((a + 32768) % 65536) ((b + 32768) % 65536)

-- numbers of two words from 2147483648 on are negative
abbrev pub signed_long_le : ℕ → ℕ → Bool
signed_long_le a b = nat_le ((a + 2147483648) % 4294967296) ((b + 2147483648) % 4294967296)

abbrev pub below : ℕ → Values
below n = record { holds = λ w. nat_lt w n; in_order = nat_le }

abbrev pub within : Values → ℕ → ℕ → Values
within base first last = record { holds = λ w. base.holds w && (base.in_order first w && base.in_order w last); in_order = base.in_order }

abbrev pub values_step : TypeTree-F Values (Unit {0}) → Values
values_step TypeTree-F.Integer = record { holds = λ w. true; in_order = signed_le }
values_step TypeTree-F.Cardinal = below 65536
values_step TypeTree-F.LongInteger = record { holds = λ n. true; in_order = signed_long_le }
values_step TypeTree-F.LongCardinal = below 4294967296
values_step TypeTree-F.Boolean = below 2
values_step TypeTree-F.Character = below 256
values_step TypeTree-F.String = below 0
values_step (TypeTree-F.Enumeration origin names) = below (length names)
values_step (TypeTree-F.Subrange base first last) = within base first last
values_step (TypeTree-F.Array index element) = below 0
values_step (TypeTree-F.Record origin fields) = below 0

abbrev pub values_of : TypeTree → Values
values_of = fold-TypeTree Values (Unit {0}) values_step (λ field. tt)

abbrev pub holds : TypeTree → ℕ → Bool
holds t = (values_of t).holds

abbrev pub in_order : TypeTree → ℕ → ℕ → Bool
in_order t = (values_of t).in_order
