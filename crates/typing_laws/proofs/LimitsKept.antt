-- The types of an interface keep their limits where those of the interfaces given do.
use Rattle.std.specs.Prelude.{ℕ, ◌≡◌, ◌≤◌, true, Some, List, [], ◌∷◌, length, map}
use Rattle.std.proofs.Common.{arith}
use Rattle.mesa_base.specs.declared.limits.TheConstants.{TYPE_WORDS, TYPE_DEPTH, ENUMERATION_ELEMENTS}
use Rattle.mesa_base.specs.declared.identifier.Identifier.{Identifier}
use Rattle.mesa_types.specs.declared.types.Origin.{Origin}
use Rattle.mesa_types.specs.Operators.{Tried, Fine, Faulty, tried}
use Rattle.mesa_types.specs.Longs.{tried_long, widened}
use Rattle.interface_records.specs.declared.interface.Interface.{Interface}
use Rattle.interface_records.specs.PlainTypes as v
use Rattle.interface_records.specs.PlainTypes.{PlainType, PlainField, PlainItem, PlainConstant, PlainName, PlainInterface, base_of, is_ordinal, depth_of, fields_of_parts, parts_of, plain_interface, words_of}
use Rattle.check_rules.specs.Parts.{names_of}
use Rattle.check_rules.specs.Limits.{KeepsLimits, PartsKeepLimits, FieldsKeepLimits, ItemsKeepLimits, ConstantsKeepLimits, NamesKeepLimits, InterfaceKeepsLimits, InterfacesKeepLimits}
use Rattle.check_rules.specs.CheckedModule.{checked_definitions}
use Rattle.check_rules.specs.Laws.{TypesKeepTheirLimits}
use Rattle.typing_laws.proofs.Outcomes.{length_of_map, ok_as}
use Rattle.typing_laws.proofs.TypeLaws.{TypeLaw, FieldsHave, OfTried}
use Rattle.typing_laws.proofs.FineTypes.{ItemFine}
use Rattle.typing_laws.proofs.FineDefinitions.{ItemsFine, ConstantsFine, TypesFine}
use Rattle.typing_laws.proofs.FineInterfaces.{InterfacesFine, InterfaceMade, checked_fine}

-- ---- the law
plain_limits : KeepsLimits v.Integer × KeepsLimits v.Cardinal × KeepsLimits v.Boolean × KeepsLimits v.Character × KeepsLimits v.String × KeepsLimits v.LongInteger × KeepsLimits
    v.LongCardinal
unfolding KeepsLimits
plain_limits = (tt, tt, tt, tt, tt, tt, tt)

enumeration_limits : (o : Origin) (xs : List Identifier) → length xs ≤ ENUMERATION_ELEMENTS → KeepsLimits (v.Enumeration o (names_of xs))
unfolding KeepsLimits
enumeration_limits o xs h = omega (arith, h, length_of_map (λ (x : Identifier). x.name) xs)

subrange_limits : (k : PlainType) (x y : ℕ) → KeepsLimits k → base_of k ≡ Some k → is_ordinal k ≡ true → KeepsLimits (v.Subrange k x y)
unfolding KeepsLimits
subrange_limits k x y h e o = (h, e, o)

array_limits : (i e : PlainType) → KeepsLimits i → KeepsLimits e → words_of (v.Array i e) ≤ TYPE_WORDS → depth_of (v.Array i e) ≤ TYPE_DEPTH
    → KeepsLimits (v.Array i e)
unfolding KeepsLimits
array_limits i e h k w d = (h, k, w, d)

parts_of_fields : (fs : List PlainField) → FieldsHave KeepsLimits fs → PartsKeepLimits (parts_of fs)
unfolding FieldsHave KeepsLimits parts_of
parts_of_fields [] h = tt
parts_of_fields (f ∷ fs) h = (h.0, parts_of_fields fs h.1)

record_limits : (o : Origin) (fs : List PlainField) → FieldsHave KeepsLimits fs → words_of (v.Record o (parts_of fs)) ≤ TYPE_WORDS
    → depth_of (v.Record o (parts_of fs)) ≤ TYPE_DEPTH → KeepsLimits (v.Record o (parts_of fs))
unfolding KeepsLimits
record_limits o fs h w d = (parts_of_fields fs h, w, d)

base_limits : (k : PlainType) (x y : ℕ) → KeepsLimits (v.Subrange k x y) → KeepsLimits k
unfolding KeepsLimits
base_limits k x y h = h.0

ordinal_base : (k : PlainType) (x y : ℕ) → KeepsLimits (v.Subrange k x y) → is_ordinal k ≡ true
unfolding KeepsLimits
ordinal_base k x y h = h.2

index_limits : (i e : PlainType) → KeepsLimits (v.Array i e) → KeepsLimits i
unfolding KeepsLimits
index_limits i e h = h.0

element_limits : (i e : PlainType) → KeepsLimits (v.Array i e) → KeepsLimits e
unfolding KeepsLimits
element_limits i e h = h.1

fields_of_limits : (ps : v.Parts) → PartsKeepLimits ps → FieldsHave KeepsLimits (fields_of_parts ps)
unfolding KeepsLimits FieldsHave fields_of_parts
fields_of_limits v.NoPart h = tt
fields_of_limits (v.AndPart x k ps) h = (h.0, fields_of_limits ps h.1)

parts_limits : (o : Origin) (ps : v.Parts) → KeepsLimits (v.Record o ps) → FieldsHave KeepsLimits (fields_of_parts ps)
unfolding KeepsLimits
parts_limits o ps h = fields_of_limits ps h.0

any_tried : (r : Tried) → OfTried (λ n. Unit {0}) r
any_tried (Fine n) = tt
any_tried (Faulty f) = tt

abbrev limits : TypeLaw
limits = record {
  Kept = KeepsLimits;
  Word = λ n. Unit {0};
  Long = λ n. Unit {0};
  Worth = λ k n. Unit {0};
  Made = λ o. Unit {0};
  Written = ⊥;
  Named = ⊥;
  integer = plain_limits.0;
  cardinal = plain_limits.1;
  long_integer = plain_limits.5;
  long_cardinal = plain_limits.6;
  boolean = plain_limits.2;
  character = plain_limits.3;
  string = plain_limits.4;
  enumeration = λ o xs g w n once few. enumeration_limits o xs few;
  subrange = λ k l h x y f e o i j d. subrange_limits k _ _ f e o;
  array = λ i e h k x w d. array_limits i e h k w d;
  fields = λ o fs g h m w d. record_limits o fs h w d;
  base = base_limits;
  ordinal_base = ordinal_base;
  index = index_limits;
  element = element_limits;
  parts = parts_limits;
  small = λ n l. tt;
  operated = λ o x y h. any_tried (tried o x y);
  word = λ k n h s w. tt;
  number = λ b n w. tt;
  letter = λ n l. tt;
  truths = λ b. tt;
  enumerated = λ o xs n h l. tt;
  based = λ k b n e w. tt;
  fitted = λ j k n h i e s t f w. tt;
  long_small = λ n l. tt;
  long_operated = λ o x y h. any_tried (tried_long o x y);
  widened = λ from to n w. any_tried (widened from to n);
  long = λ b n w. tt;
  long_word = λ b n w. tt;
}

-- ---- interfaces
fields_fine : (fs : List PlainField) → FieldsKeepLimits fs → FieldsHave KeepsLimits fs
unfolding FieldsKeepLimits FieldsHave
fields_fine [] h = tt
fields_fine (f ∷ fs) h = (h.0, fields_fine fs h.1)

fields_limits : (fs : List PlainField) → FieldsHave KeepsLimits fs → FieldsKeepLimits fs
unfolding FieldsKeepLimits FieldsHave
fields_limits [] h = tt
fields_limits (f ∷ fs) h = (h.0, fields_limits fs h.1)

items_fine : (is : List PlainItem) → ItemsKeepLimits is → ItemsFine limits is
unfolding ItemsKeepLimits ItemsFine ItemFine
items_fine [] h = tt
items_fine (i ∷ is) h = ((fields_fine i.takes h.0, fields_fine i.gives h.1), items_fine is h.2)

items_limits : (is : List PlainItem) → ItemsFine limits is → ItemsKeepLimits is
unfolding ItemsKeepLimits ItemsFine ItemFine
items_limits [] h = tt
items_limits (i ∷ is) h = (fields_limits i.takes h.0.0, fields_limits i.gives h.0.1, items_limits is h.1)

constants_fine : (cs : List PlainConstant) → ConstantsKeepLimits cs → ConstantsFine limits cs
unfolding ConstantsKeepLimits ConstantsFine
constants_fine [] h = tt
constants_fine (c ∷ cs) h = (h.0, tt, constants_fine cs h.1)

constants_limits : (cs : List PlainConstant) → ConstantsFine limits cs → ConstantsKeepLimits cs
unfolding ConstantsKeepLimits ConstantsFine
constants_limits [] h = tt
constants_limits (c ∷ cs) h = (h.0, constants_limits cs h.2)

types_fine : (xs : List PlainName) → NamesKeepLimits xs → TypesFine limits xs
unfolding NamesKeepLimits TypesFine
types_fine [] h = tt
types_fine (x ∷ xs) h = (h.0, types_fine xs h.1)

types_limits : (xs : List PlainName) → TypesFine limits xs → NamesKeepLimits xs
unfolding NamesKeepLimits TypesFine
types_limits [] h = tt
types_limits (x ∷ xs) h = (h.0, types_limits xs h.1)

interfaces_fine : (is : List PlainInterface) → InterfacesKeepLimits is → InterfacesFine limits is
unfolding InterfacesKeepLimits InterfacesFine
interfaces_fine [] h = tt
interfaces_fine (i ∷ is) h = (
  record {
    items = items_fine i.items h.0.items;
    constants = constants_fine i.constants h.0.constants;
    types = types_fine i.types h.0.types;
  },
  interfaces_fine is h.1,
)

interface_limits : (i : PlainInterface) → InterfaceMade limits i → InterfaceKeepsLimits i
interface_limits i h = record {
  items = items_limits i.items h.items;
  constants = constants_limits i.constants h.constants;
  types = types_limits i.types h.types;
}

pub types_keep_limits : TypesKeepTheirLimits
types_keep_limits m stamp is h = ok_as (λ (i : Interface). InterfaceMade limits (plain_interface i)) (λ (i : Interface). InterfaceKeepsLimits (plain_interface i))
    (checked_definitions m stamp is)
    (checked_fine limits m stamp is (interfaces_fine (map plain_interface is) h) (λ p. tt) (record { written = λ l. absurd l; named = λ l. absurd l }))
    (λ i k. interface_limits (plain_interface i) k)
