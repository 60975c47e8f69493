-- What files can spell is in order.
use Rattle.std.specs.Prelude.{ℕ, ◌≤◌, List, [], ◌∷◌, length}
use Rattle.std.proofs.Common.{arith}
use Rattle.interface_records.specs.PlainTypes as v
use Rattle.interface_records.specs.PlainTypes.{PlainType, PlainField, PlainItem, PlainConstant, PlainName, kind_of}
use Rattle.check_rules.specs.Interfaces.{TypeInOrder, PartsInOrder, FieldsInOrder, ItemsInOrder, ConstantsInOrder, NamesInOrder, ConstantFits}
use Rattle.check_rules.specs.Laws.{SpelledInterfacesAreInOrder}
use Rattle.interface_records.specs.Spelled.{IsValueOf, TypeCanBeSpelled, PartsCanBeSpelled, FieldsCanBeSpelled, ItemsCanBeSpelled, ConstantsCanBeSpelled, NamedTypesCanBeSpelled}
use Rattle.typing_laws.proofs.OrderKept.{subrange_order}
use Rattle.check_rules.proofs.SoundTypes.{ordinal_not_long}
use Rattle.typing_laws.proofs.SpelledTypes.{index_some, value_word}

mutual
  unfolding TypeCanBeSpelled TypeInOrder

  type_order : (k : PlainType) → TypeCanBeSpelled k → TypeInOrder k
  type_order v.Integer h = tt
  type_order v.Cardinal h = tt
  type_order v.LongInteger h = tt
  type_order v.LongCardinal h = tt
  type_order v.Boolean h = tt
  type_order v.Character h = tt
  type_order v.String h = tt
  type_order (v.Enumeration o xs) h = (h.1, h.2)
  type_order (v.Subrange k x y) h =
      subrange_order k x y (type_order k h.0) h.1 h.2 (value_word k x h.0 (ordinal_not_long k h.2) h.3) (value_word k y h.0 (ordinal_not_long k h.2) h.4)
  type_order (v.Array i e) h = (type_order i h.1, type_order e h.2, index_some i h.1 h.0, h.3, h.4)
  type_order (v.Record o ps) h = (parts_order ps h.2, h.1, h.4, h.5)

  parts_order : (ps : v.Parts) → PartsCanBeSpelled ps → PartsInOrder ps
  parts_order v.NoPart h = tt
  parts_order (v.AndPart x k ps) h = (type_order k h.0, parts_order ps h.1)

-- a value of a type is one of its kind
value_fits : (k : PlainType) (n : ℕ) → TypeCanBeSpelled k → IsValueOf k n → ConstantFits (kind_of k) n
unfolding TypeCanBeSpelled IsValueOf ConstantFits kind_of
value_fits v.Integer n h w = w
value_fits v.Cardinal n h w = w
value_fits v.LongInteger n h w = w
value_fits v.LongCardinal n h w = w
value_fits v.Boolean n h w = omega (arith, w)
value_fits v.Character n h w = omega (arith, w)
value_fits v.String n h w = absurd w
value_fits (v.Enumeration o xs) n h w = let few : length xs ≤ 65536 = h.2 in omega (arith, w, few)
value_fits (v.Subrange k x y) n h w = value_word k n h.0 (ordinal_not_long k h.2) w.0
value_fits (v.Array i e) n h w = absurd w
value_fits (v.Record o ps) n h w = absurd w

fields_order : (fs : List PlainField) → FieldsCanBeSpelled fs → FieldsInOrder fs
unfolding FieldsCanBeSpelled FieldsInOrder
fields_order [] h = tt
fields_order (f ∷ fs) h = (type_order f.kind h.0, fields_order fs h.1)

items_order : (is : List PlainItem) → ItemsCanBeSpelled is → ItemsInOrder is
unfolding ItemsCanBeSpelled ItemsInOrder
items_order [] h = tt
items_order (i ∷ is) h = (
  record { takes = fields_order i.takes h.0.takes; gives = fields_order i.gives h.0.gives; error = h.0.error },
  items_order is h.1,
)

constants_order : (cs : List PlainConstant) → ConstantsCanBeSpelled cs → ConstantsInOrder cs
unfolding ConstantsCanBeSpelled ConstantsInOrder
constants_order [] h = tt
constants_order (c ∷ cs) h = (
  record { value = value_fits c.kind c.value h.0.kind h.0.value; kind = type_order c.kind h.0.kind },
  constants_order cs h.1,
)

types_order : (xs : List PlainName) → NamedTypesCanBeSpelled xs → NamesInOrder xs
unfolding NamedTypesCanBeSpelled NamesInOrder
types_order [] h = tt
types_order (x ∷ xs) h = (type_order x.kind h.1, types_order xs h.2)

pub spelled_in_order : SpelledInterfacesAreInOrder
spelled_in_order i h = record {
  items = items_order i.items h.face.each;
  constants = constants_order i.constants h.constants;
  types = types_order i.types h.types;
}
