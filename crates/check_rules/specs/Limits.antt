-- Which types keep their limits, inside and out: words, depth and elements (rule of this project).
use Rattle.std.specs.Prelude.{◌≡◌, ◌≤◌, true, List, [], ◌∷◌, length, Some}
use Rattle.mesa_base.specs.declared.limits.TheConstants.{TYPE_WORDS, TYPE_DEPTH, ENUMERATION_ELEMENTS}
use Rattle.interface_records.specs.PlainTypes.{PlainType, Integer, Cardinal, LongInteger, LongCardinal, Boolean, Character, String, Enumeration, Subrange, Array, Record, Parts, NoPart, AndPart, PlainField, PlainItem, PlainConstant, PlainName, PlainInterface, base_of, words_of, depth_of, is_ordinal}

unfoldable mutual
  pub KeepsLimits : PlainType → Type 0
  KeepsLimits Integer = Unit {0}
  KeepsLimits Cardinal = Unit {0}
  KeepsLimits LongInteger = Unit {0}
  KeepsLimits LongCardinal = Unit {0}
  KeepsLimits Boolean = Unit {0}
  KeepsLimits Character = Unit {0}
  KeepsLimits String = Unit {0}
  KeepsLimits (Enumeration o xs) = length xs ≤ ENUMERATION_ELEMENTS
  -- a subrange is one of a base, which is ordinal
  KeepsLimits (Subrange k first last) = KeepsLimits k × (base_of k ≡ Some k) × (is_ordinal k ≡ true)
  KeepsLimits (Array i e) = KeepsLimits i × KeepsLimits e × (words_of (Array i e) ≤ TYPE_WORDS) × (depth_of (Array i e) ≤ TYPE_DEPTH)
  KeepsLimits (Record o ps) = PartsKeepLimits ps × (words_of (Record o ps) ≤ TYPE_WORDS) × (depth_of (Record o ps) ≤ TYPE_DEPTH)

  pub PartsKeepLimits : Parts → Type 0
  PartsKeepLimits NoPart = Unit {0}
  PartsKeepLimits (AndPart x k ps) = KeepsLimits k × PartsKeepLimits ps

unfoldable pub FieldsKeepLimits : List PlainField → Type 0
FieldsKeepLimits [] = Unit {0}
FieldsKeepLimits (f ∷ fs) = KeepsLimits f.kind × FieldsKeepLimits fs

unfoldable pub ItemsKeepLimits : List PlainItem → Type 0
ItemsKeepLimits [] = Unit {0}
ItemsKeepLimits (i ∷ is) = FieldsKeepLimits i.takes × FieldsKeepLimits i.gives × ItemsKeepLimits is

unfoldable pub ConstantsKeepLimits : List PlainConstant → Type 0
ConstantsKeepLimits [] = Unit {0}
ConstantsKeepLimits (c ∷ cs) = KeepsLimits c.kind × ConstantsKeepLimits cs

unfoldable pub NamesKeepLimits : List PlainName → Type 0
NamesKeepLimits [] = Unit {0}
NamesKeepLimits (x ∷ xs) = KeepsLimits x.kind × NamesKeepLimits xs

-- of all types in an interface
pub record InterfaceKeepsLimits (i : PlainInterface) : Type 0 where
  pub items : ItemsKeepLimits i.items
  pub constants : ConstantsKeepLimits i.constants
  pub types : NamesKeepLimits i.types

unfoldable pub InterfacesKeepLimits : List PlainInterface → Type 0
InterfacesKeepLimits [] = Unit {0}
InterfacesKeepLimits (i ∷ is) = InterfaceKeepsLimits i × InterfacesKeepLimits is
