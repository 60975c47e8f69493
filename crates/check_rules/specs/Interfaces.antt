-- Which interfaces are in order: no type in them is empty or past its limits, each constant is a word of an ordinal type or a
-- number of a LONG type, and an error gives nothing (rule of this project).
use Rattle.std.specs.Prelude.{◌≡◌, ℕ, ◌≤◌, ◌<◌, true, List, [], ◌∷◌, length}
use Rattle.mesa_base.specs.declared.limits.TheConstants.{TYPE_WORDS, TYPE_DEPTH, ENUMERATION_ELEMENTS}
use Rattle.mesa_types.specs.declared.faces.ItemKind.TheVariants as item
use Rattle.check_rules.specs.Typed as t
use Rattle.interface_records.specs.PlainTypes.{HasPart, PlainType, Integer, Cardinal, LongInteger, LongCardinal, Boolean, Character, String, Enumeration, Subrange, Array, Record, Parts, NoPart, AndPart, PlainField, PlainItem, PlainConstant, PlainName, PlainInterface, kind_of, elements_of, words_of, depth_of, is_ordinal}

unfoldable mutual
  pub TypeInOrder : PlainType → Type 0
  TypeInOrder Integer = Unit {0}
  TypeInOrder Cardinal = Unit {0}
  TypeInOrder LongInteger = Unit {0}
  TypeInOrder LongCardinal = Unit {0}
  TypeInOrder Boolean = Unit {0}
  TypeInOrder Character = Unit {0}
  TypeInOrder String = Unit {0}
  TypeInOrder (Enumeration o xs) = (0 < length xs) × (length xs ≤ ENUMERATION_ELEMENTS)
  -- of an ordinal type
  TypeInOrder (Subrange k first last) =
      TypeInOrder k × (is_ordinal k ≡ true) × (first < 65536) × (last < 65536) × (depth_of (Subrange k first last) ≤ TYPE_DEPTH)
  TypeInOrder (Array i e) =
      TypeInOrder i × TypeInOrder e × (0 < elements_of i) × (words_of (Array i e) ≤ TYPE_WORDS) × (depth_of (Array i e) ≤ TYPE_DEPTH)
  TypeInOrder (Record o ps) = PartsInOrder ps × HasPart ps × (words_of (Record o ps) ≤ TYPE_WORDS) × (depth_of (Record o ps) ≤ TYPE_DEPTH)

  pub PartsInOrder : Parts → Type 0
  PartsInOrder NoPart = Unit {0}
  PartsInOrder (AndPart x k ps) = TypeInOrder k × PartsInOrder ps

unfoldable pub FieldsInOrder : List PlainField → Type 0
FieldsInOrder [] = Unit {0}
FieldsInOrder (f ∷ fs) = TypeInOrder f.kind × FieldsInOrder fs

pub record ItemInOrder (i : PlainItem) : Type 0 where
  pub takes : FieldsInOrder i.takes
  pub gives : FieldsInOrder i.gives
  pub error : i.kind ≡ item.Error → i.gives ≡ []

unfoldable pub ItemsInOrder : List PlainItem → Type 0
ItemsInOrder [] = Unit {0}
ItemsInOrder (i ∷ is) = ItemInOrder i × ItemsInOrder is

-- a value of one word, or of the two of a LONG number
unfoldable pub ConstantFits : t.Kind → ℕ → Type 0
ConstantFits t.Ordinal n = n < 65536
ConstantFits t.Longs n = n < 4294967296
ConstantFits t.Texts n = ⊥
ConstantFits (t.Array count k) n = ⊥
ConstantFits (t.Record ks) n = ⊥

pub record ConstantInOrder (c : PlainConstant) : Type 0 where
  pub value : ConstantFits (kind_of c.kind) c.value
  pub kind : TypeInOrder c.kind

unfoldable pub ConstantsInOrder : List PlainConstant → Type 0
ConstantsInOrder [] = Unit {0}
ConstantsInOrder (c ∷ cs) = ConstantInOrder c × ConstantsInOrder cs

unfoldable pub NamesInOrder : List PlainName → Type 0
NamesInOrder [] = Unit {0}
NamesInOrder (x ∷ xs) = TypeInOrder x.kind × NamesInOrder xs

pub record InterfaceInOrder (i : PlainInterface) : Type 0 where
  pub items : ItemsInOrder i.items
  pub constants : ConstantsInOrder i.constants
  pub types : NamesInOrder i.types

unfoldable pub InterfacesInOrder : List PlainInterface → Type 0
InterfacesInOrder [] = Unit {0}
InterfacesInOrder (i ∷ is) = InterfaceInOrder i × InterfacesInOrder is
