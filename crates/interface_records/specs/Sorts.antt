-- What operators see of a type, and which types index arrays (Language Manual, chapters 2 and 3).
use Rattle.std.specs.Prelude.{Bool, true, false, ◌&&◌, Option, Some, is_some}
use Rattle.typed_answers.specs.mesa_types.specs.declared.typed_parts.Base.{Base}
use Rattle.typed_answers.specs.mesa_types.specs.declared.typed_parts.Base.TheVariants.{Signed, Unsigned}
use Rattle.interface_records.specs.PlainTypes.{PlainType, Integer, Cardinal, LongInteger, LongCardinal, Boolean, Character, base_of, bounds, is_ordinal}

pub data Sort : Type 0 where
  Number : Base → Sort
  LongNumber : Base → Sort
  Letter : Sort
  Truth : Sort
  Other : Sort

abbrev pub sort_of_base : Option PlainType → Sort
sort_of_base (Some Integer) = Number Signed
sort_of_base (Some Cardinal) = Number Unsigned
sort_of_base (Some LongInteger) = LongNumber Signed
sort_of_base (Some LongCardinal) = LongNumber Unsigned
sort_of_base (Some Character) = Letter
sort_of_base (Some Boolean) = Truth
sort_of_base _ = Other

unfoldable pub sort_of : PlainType → Sort
sort_of kind = sort_of_base (base_of kind)

abbrev pub is_index_by : Sort → Bool → Bool
is_index_by (Number b) is_subrange = is_subrange
is_index_by (LongNumber b) is_subrange = false
is_index_by _ is_subrange = true

-- BOOLEAN, CHARACTER, an enumeration or a subrange; a LONG type is none
unfoldable pub is_index : PlainType → Bool
is_index k = is_ordinal k && is_index_by (sort_of k) (is_some (bounds k))
