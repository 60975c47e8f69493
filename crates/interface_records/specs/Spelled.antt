-- What the form of files can spell (rule of this project): names, stamps of six bytes, counts and numbers of four, words of two, the
-- numbers of LONG constants of four, and types within their limits, in which a bound is a value of its type.
use Rattle.std.specs.Prelude.{◌≡◌, ℕ, ◌≤◌, ◌<◌, ◌⊎◌, true, false, is_some, Option, Some, None, List, [], ◌∷◌, ◌++◌, length, map}
use Rattle.std.specs.List.{All}
use Rattle.check_scopes.specs.mesa_base.specs.Name.{IsName}
use Rattle.check_scopes.specs.mesa_base.specs.declared.limits.TheConstants.{TYPE_WORDS, TYPE_DEPTH, ENUMERATION_ELEMENTS}
use Rattle.typed_answers.specs.mesa_types.specs.Operators.{shifted}
use Rattle.typed_answers.specs.mesa_types.specs.declared.types.Origin.{Origin}
use Rattle.typed_answers.specs.mesa_types.specs.declared.faces.ItemKind.TheVariants as item
use Rattle.typed_answers.specs.mesa_types.specs.declared.faces.Pair.{Pair}
use Rattle.typed_answers.specs.mesa_types.specs.declared.faces.Import.{Import}
use Rattle.typed_answers.specs.mesa_types.specs.declared.faces.Export.{Export}
use Rattle.typed_answers.specs.mesa_types.specs.declared.faces.Shape.{Shape}
use Rattle.interface_records.specs.Lists.{Ascend, NoneTwice}
use Rattle.interface_records.specs.PlainTypes.{HasPart, PlainType, Integer, Cardinal, Boolean, Character, String, Enumeration, Subrange, Array, Record, LongInteger, LongCardinal, Parts, NoPart, AndPart, PlainField, PlainItem, PlainConstant, PlainName, PlainInterface, base_of, depth_of, fields_of_parts, is_ordinal, plain_item, sign_of, words_of}
use Rattle.interface_records.specs.Sorts.{is_index}

-- a count or a number of four bytes, and a stamp of six
abbrev pub InFourBytes : ℕ → Type 0
InFourBytes n = n < 4294967296

abbrev pub InSixBytes : ℕ → Type 0
InSixBytes n = n < 281474976710656

-- the declaration of a record or an enumeration, which is one of an interface
pub record OriginCanBeSpelled (o : Origin) : Type 0 where
  pub name : IsName o.«module»
  pub stamp : (n : ℕ) × (o.stamp ≡ Some n) × InSixBytes n
  pub number : InFourBytes o.number

-- the words of the values of an ordinal type, and the numbers of a LONG type as two words spell them; of no other type
unfoldable pub IsValueOf : PlainType → ℕ → Type 0
IsValueOf Integer n = n < 65536
IsValueOf Cardinal n = n < 65536
IsValueOf LongInteger n = n < 4294967296
IsValueOf LongCardinal n = n < 4294967296
IsValueOf Boolean n = n < 2
IsValueOf Character n = n < 256
IsValueOf String n = ⊥
IsValueOf (Enumeration o xs) n = n < length xs
IsValueOf (Subrange k first last) n =
    IsValueOf k n × (shifted (sign_of k) first ≤ shifted (sign_of k) n) × (shifted (sign_of k) n ≤ shifted (sign_of k) last)
IsValueOf (Array i e) n = ⊥
IsValueOf (Record o ps) n = ⊥

-- fields, parameters or results: all of them have a name or none has, and no name stands twice
unfoldable pub EachHasName : List PlainField → Type 0
EachHasName [] = Unit {0}
EachHasName (f ∷ fs) = (is_some f.name ≡ true) × EachHasName fs

unfoldable pub NoneHasName : List PlainField → Type 0
NoneHasName [] = Unit {0}
NoneHasName (f ∷ fs) = (is_some f.name ≡ false) × NoneHasName fs

abbrev pub with_name : Option (List ℕ) → List (List ℕ) → List (List ℕ)
with_name None names = names
with_name (Some x) names = x ∷ names

abbrev pub names_among : List PlainField → List (List ℕ)
names_among [] = []
names_among (f ∷ fs) = with_name f.name (names_among fs)

pub record NamesCanBeSpelled (fs : List PlainField) : Type 0 where
  pub count : InFourBytes (length fs)
  pub all : EachHasName fs ⊎ NoneHasName fs
  pub names : All IsName (names_among fs)
  pub distinct : NoneTwice (names_among fs)

unfoldable mutual
  pub TypeCanBeSpelled : PlainType → Type 0
  TypeCanBeSpelled Integer = Unit {0}
  TypeCanBeSpelled Cardinal = Unit {0}
  TypeCanBeSpelled LongInteger = Unit {0}
  TypeCanBeSpelled LongCardinal = Unit {0}
  TypeCanBeSpelled Boolean = Unit {0}
  TypeCanBeSpelled Character = Unit {0}
  TypeCanBeSpelled String = Unit {0}
  TypeCanBeSpelled (Enumeration o xs) =
      OriginCanBeSpelled o × (0 < length xs) × (length xs ≤ ENUMERATION_ELEMENTS) × All IsName xs × NoneTwice xs
  -- of an ordinal base, whose order the bounds keep
  TypeCanBeSpelled (Subrange k first last) =
      TypeCanBeSpelled k × (base_of k ≡ Some k) × (is_ordinal k ≡ true) × IsValueOf k first × IsValueOf k last × (shifted (sign_of k) first ≤ shifted (sign_of k) last)
  TypeCanBeSpelled (Array i e) =
      (is_index i ≡ true) × TypeCanBeSpelled i × TypeCanBeSpelled e × (words_of (Array i e) ≤ TYPE_WORDS) × (depth_of (Array i e) ≤ TYPE_DEPTH)
  TypeCanBeSpelled (Record o ps) = OriginCanBeSpelled o × HasPart ps × PartsCanBeSpelled ps × NamesCanBeSpelled (fields_of_parts ps)
      × (words_of (Record o ps) ≤ TYPE_WORDS) × (depth_of (Record o ps) ≤ TYPE_DEPTH)

  pub PartsCanBeSpelled : Parts → Type 0
  PartsCanBeSpelled NoPart = Unit {0}
  PartsCanBeSpelled (AndPart x k ps) = TypeCanBeSpelled k × PartsCanBeSpelled ps

unfoldable pub FieldsCanBeSpelled : List PlainField → Type 0
FieldsCanBeSpelled [] = Unit {0}
FieldsCanBeSpelled (f ∷ fs) = TypeCanBeSpelled f.kind × FieldsCanBeSpelled fs

-- an error gives nothing
pub record ItemCanBeSpelled (i : PlainItem) : Type 0 where
  pub name : IsName i.name
  pub takes : FieldsCanBeSpelled i.takes
  pub takes_names : NamesCanBeSpelled i.takes
  pub gives : FieldsCanBeSpelled i.gives
  pub gives_names : NamesCanBeSpelled i.gives
  pub error : i.kind ≡ item.Error → i.gives ≡ []

unfoldable pub ItemsCanBeSpelled : List PlainItem → Type 0
ItemsCanBeSpelled [] = Unit {0}
ItemsCanBeSpelled (i ∷ is) = ItemCanBeSpelled i × ItemsCanBeSpelled is

abbrev pub names_of_items : List PlainItem → List (List ℕ)
names_of_items = map (λ (i : PlainItem). i.name)

abbrev pub names_of_constants : List PlainConstant → List (List ℕ)
names_of_constants = map (λ (c : PlainConstant). c.name)

abbrev pub names_of_types : List PlainName → List (List ℕ)
names_of_types = map (λ (x : PlainName). x.name)

-- a face, by its name, its stamp and its items
pub record FaceCanBeSpelled (name : List ℕ) (stamp : ℕ) (items : List PlainItem) : Type 0 where
  pub its_name : IsName name
  pub its_stamp : InSixBytes stamp
  pub count : InFourBytes (length items)
  pub each : ItemsCanBeSpelled items
  pub distinct : NoneTwice (names_of_items items)

-- a constant is a value of its type, which is ordinal or a LONG type
pub record ConstantCanBeSpelled (c : PlainConstant) : Type 0 where
  pub name : IsName c.name
  pub kind : TypeCanBeSpelled c.kind
  pub based : is_some (base_of c.kind) ≡ true
  pub value : IsValueOf c.kind c.value

unfoldable pub ConstantsCanBeSpelled : List PlainConstant → Type 0
ConstantsCanBeSpelled [] = Unit {0}
ConstantsCanBeSpelled (c ∷ cs) = ConstantCanBeSpelled c × ConstantsCanBeSpelled cs

unfoldable pub NamedTypesCanBeSpelled : List PlainName → Type 0
NamedTypesCanBeSpelled [] = Unit {0}
NamedTypesCanBeSpelled (x ∷ xs) = IsName x.name × TypeCanBeSpelled x.kind × NamedTypesCanBeSpelled xs

pub record InterfaceCanBeSpelled (i : PlainInterface) : Type 0 where
  pub face : FaceCanBeSpelled i.name i.stamp i.items
  pub constant_count : InFourBytes (length i.constants)
  pub constants : ConstantsCanBeSpelled i.constants
  pub type_count : InFourBytes (length i.types)
  pub types : NamedTypesCanBeSpelled i.types
  pub distinct : NoneTwice (names_of_items i.items ++ (names_of_constants i.constants ++ names_of_types i.types))

unfoldable pub InterfacesCanBeSpelled : List PlainInterface → Type 0
InterfacesCanBeSpelled [] = Unit {0}
InterfacesCanBeSpelled (i ∷ is) = InterfaceCanBeSpelled i × InterfacesCanBeSpelled is

-- the numbers of used and of given items ascend, and are those of items
pub record ImportCanBeSpelled (i : Import) : Type 0 where
  pub face : FaceCanBeSpelled i.face.name i.face.stamp (map plain_item i.face.items)
  pub count : InFourBytes (length i.used)
  pub used : Ascend 0 (length i.face.items) i.used

abbrev pub item_numbers : List Pair → List ℕ
item_numbers = map (λ (p : Pair). p.item)

pub record ExportCanBeSpelled (e : Export) : Type 0 where
  pub face : FaceCanBeSpelled e.face.name e.face.stamp (map plain_item e.face.items)
  pub count : InFourBytes (length e.given)
  pub items : Ascend 0 (length e.face.items) (item_numbers e.given)
  pub numbers : All (λ (p : Pair). InFourBytes p.number) e.given

-- the name, imports and exports of a module
pub record ShapeCanBeSpelled (x : Shape) : Type 0 where
  pub name : IsName x.name
  pub import_count : InFourBytes (length x.imports)
  pub imports : All ImportCanBeSpelled x.imports
  pub export_count : InFourBytes (length x.exports)
  pub exports : All ExportCanBeSpelled x.exports
