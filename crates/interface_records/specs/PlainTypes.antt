-- Types as a person reads them, and each question on them with its answer (Language Manual, chapter 3). They are the types
-- of the code, one for one; all rules of checking speak of them.
use Rattle.std.specs.Prelude.{ℕ, ◌+◌, ◌-◌, ◌*◌, ◌%◌, Bool, true, false, ◌&&◌, ◌||◌, not, List, [], ◌∷◌, length, map, max, Option, Some, None, if◌then◌else◌, bytes_eq, nat_eq}
use Rattle.typed_answers.specs.mesa_types.specs.declared.types.TypeTree.{TypeTree}
use Rattle.typed_answers.specs.mesa_types.specs.declared.types.TypeTree.TheVariants as tree
use Rattle.typed_answers.specs.mesa_types.specs.declared.types.TypeTree.TheOpen.{TypeTree-F, FieldType-F}
use Rattle.typed_answers.specs.mesa_types.specs.declared.types.TypeTree.TheFolds.{fold-TypeTree, fold-FieldType}
use Rattle.typed_answers.specs.mesa_types.specs.declared.types.FieldType.{FieldType, roll-FieldType}
use Rattle.typed_answers.specs.mesa_types.specs.declared.types.Origin.{Origin}
use Rattle.typed_answers.specs.mesa_types.specs.declared.faces.Item.{Item}
use Rattle.typed_answers.specs.mesa_types.specs.declared.faces.Face.{Face}
use Rattle.typed_answers.specs.mesa_types.specs.declared.faces.ItemKind.{ItemKind}
use Rattle.interface_records.specs.declared.interface.Interface.{Interface}
use Rattle.interface_records.specs.declared.interface.Constant.{Constant}
use Rattle.interface_records.specs.declared.interface.NamedType.{NamedType}
use Rattle.typed_answers.specs.mesa_types.specs.declared.typed_parts.Base.{Base}
use Rattle.typed_answers.specs.mesa_types.specs.declared.typed_parts.Base.TheVariants.{Signed, Unsigned}
use Rattle.typed_answers.specs.mesa_types.specs.Typed as t

mutual
  pub data PlainType : Type 0 where
    Integer : PlainType
    Cardinal : PlainType
    LongInteger : PlainType
    LongCardinal : PlainType
    Boolean : PlainType
    Character : PlainType
    String : PlainType
    Enumeration : Origin → List (List ℕ) → PlainType
    -- the type whose values it has, and the words of its first and its last value
    Subrange : PlainType → ℕ → ℕ → PlainType
    -- the index type, and the element type
    Array : PlainType → PlainType → PlainType
    Record : Origin → Parts → PlainType

  -- the fields of a record, each with its name, if it has one
  pub data Parts : Type 0 where
    NoPart : Parts
    AndPart : Option (List ℕ) → PlainType → Parts → Parts

-- a record has a field
unfoldable pub HasPart : Parts → Type 0
HasPart NoPart = ⊥
HasPart (AndPart x k ps) = Unit {0}

-- a field, parameter or result
pub record PlainField : Type 0 where
  pub name : Option (List ℕ)
  pub kind : PlainType

-- the head of a procedure, signal or error
pub record PlainItem : Type 0 where
  pub kind : ItemKind
  pub name : List ℕ
  pub takes : List PlainField
  pub gives : List PlainField

pub record PlainConstant : Type 0 where
  pub name : List ℕ
  pub kind : PlainType
  pub value : ℕ

pub record PlainName : Type 0 where
  pub name : List ℕ
  pub kind : PlainType

-- an interface under its stamp
pub record PlainInterface : Type 0 where
  pub name : List ℕ
  pub stamp : ℕ
  pub items : List PlainItem
  pub constants : List PlainConstant
  pub types : List PlainName

unfoldable pub fields_of_parts : Parts → List PlainField
fields_of_parts NoPart = []
fields_of_parts (AndPart x k ps) = record { name = x; kind = k } ∷ fields_of_parts ps

unfoldable pub parts_of : List PlainField → Parts
parts_of [] = NoPart
parts_of (f ∷ fs) = AndPart f.name f.kind (parts_of fs)

abbrev pub same_stamp : Option ℕ → Option ℕ → Bool
same_stamp (Some m) (Some n) = nat_eq m n
same_stamp None None = true
same_stamp _ _ = false

abbrev pub same_origin : Origin → Origin → Bool
same_origin a b = bytes_eq a.«module» b.«module» && (same_stamp a.stamp b.stamp && nat_eq a.number b.number)

unfoldable pub same_names : List (List ℕ) → List (List ℕ) → Bool
same_names [] [] = true
same_names (x ∷ xs) (y ∷ ys) = bytes_eq x y && same_names xs ys
same_names _ _ = false

abbrev pub same_name : Option (List ℕ) → Option (List ℕ) → Bool
same_name (Some x) (Some y) = bytes_eq x y
same_name None None = true
same_name _ _ = false

-- two types are the same where they are equal: shapes, origins, names, fields and bounds
unfoldable mutual
  pub same : PlainType → PlainType → Bool
  same Integer Integer = true
  same Cardinal Cardinal = true
  same LongInteger LongInteger = true
  same LongCardinal LongCardinal = true
  same Boolean Boolean = true
  same Character Character = true
  same String String = true
  same (Enumeration o xs) (Enumeration p ys) = same_origin o p && same_names xs ys
  same (Subrange j m n) (Subrange k x y) = same j k && (nat_eq m x && nat_eq n y)
  same (Array i e) (Array j f) = same i j && same e f
  same (Record o ps) (Record p qs) = same_origin o p && same_parts ps qs
  same _ _ = false

  pub same_parts : Parts → Parts → Bool
  same_parts NoPart NoPart = true
  same_parts (AndPart x j ps) (AndPart y k qs) = same_name x y && (same j k && same_parts ps qs)
  same_parts _ _ = false

-- the base: of a subrange that of the type whose values it has, of another ordinal type and of a LONG type the type itself
unfoldable pub base_of : PlainType → Option PlainType
base_of Integer = Some Integer
base_of Cardinal = Some Cardinal
base_of LongInteger = Some LongInteger
base_of LongCardinal = Some LongCardinal
base_of Boolean = Some Boolean
base_of Character = Some Character
base_of String = None
base_of (Enumeration o xs) = Some (Enumeration o xs)
base_of (Subrange k m n) = base_of k
base_of (Array i e) = None
base_of (Record o ps) = None

-- how many values an index type has
abbrev pub elements_of : PlainType → ℕ
elements_of Integer = 65536
elements_of Cardinal = 65536
elements_of LongInteger = 0
elements_of LongCardinal = 0
elements_of Boolean = 2
elements_of Character = 256
elements_of String = 0
elements_of (Enumeration o xs) = length xs
elements_of (Subrange k first last) = (last + 65536 - first) % 65536 + 1
elements_of (Array i e) = 0
elements_of (Record o ps) = 0

-- ordinal types have one word, STRING and the LONG types two; an array has its element for each value of its index type, a record its fields
unfoldable mutual
  pub words_of : PlainType → ℕ
  words_of Integer = 1
  words_of Cardinal = 1
  words_of LongInteger = 2
  words_of LongCardinal = 2
  words_of Boolean = 1
  words_of Character = 1
  words_of String = 2
  words_of (Enumeration o xs) = 1
  words_of (Subrange k m n) = 1
  words_of (Array i e) = elements_of i * words_of e
  words_of (Record o ps) = words_of_parts ps

  pub words_of_parts : Parts → ℕ
  words_of_parts NoPart = 0
  words_of_parts (AndPart x k ps) = words_of k + words_of_parts ps

unfoldable pub words_of_fields : List PlainField → ℕ
words_of_fields [] = 0
words_of_fields (f ∷ fs) = words_of f.kind + words_of_fields fs

-- how many types stand around each other, that type included; the base of a subrange is one inside it
unfoldable mutual
  pub depth_of : PlainType → ℕ
  depth_of Integer = 1
  depth_of Cardinal = 1
  depth_of LongInteger = 1
  depth_of LongCardinal = 1
  depth_of Boolean = 1
  depth_of Character = 1
  depth_of String = 1
  depth_of (Enumeration o xs) = 1
  depth_of (Subrange k m n) = depth_of k + 1
  depth_of (Array i e) = max (depth_of i) (depth_of e) + 1
  depth_of (Record o ps) = depth_of_parts ps + 1

  pub depth_of_parts : Parts → ℕ
  depth_of_parts NoPart = 0
  depth_of_parts (AndPart x k ps) = max (depth_of k) (depth_of_parts ps)

-- the shape of a value of a type
unfoldable mutual
  pub kind_of : PlainType → t.Kind
  kind_of Integer = t.Ordinal
  kind_of Cardinal = t.Ordinal
  kind_of LongInteger = t.Longs
  kind_of LongCardinal = t.Longs
  kind_of Boolean = t.Ordinal
  kind_of Character = t.Ordinal
  kind_of String = t.Texts
  kind_of (Enumeration o xs) = t.Ordinal
  kind_of (Subrange k m n) = t.Ordinal
  kind_of (Array i e) = t.Array (elements_of i) (kind_of e)
  kind_of (Record o ps) = t.Record (kinds_of_parts ps)

  pub kinds_of_parts : Parts → t.Kinds
  kinds_of_parts NoPart = t.NoKinds
  kinds_of_parts (AndPart x k ps) = t.AndKind (kind_of k) (kinds_of_parts ps)

unfoldable pub kinds_of : List PlainField → t.Kinds
kinds_of [] = t.NoKinds
kinds_of (f ∷ fs) = t.AndKind (kind_of f.kind) (kinds_of fs)

abbrev pub is_integer : PlainType → Bool
is_integer Integer = true
is_integer _ = false

abbrev pub is_cardinal : PlainType → Bool
is_cardinal Cardinal = true
is_cardinal _ = false

abbrev pub is_long_integer : PlainType → Bool
is_long_integer LongInteger = true
is_long_integer _ = false

abbrev pub is_long_cardinal : PlainType → Bool
is_long_cardinal LongCardinal = true
is_long_cardinal _ = false

-- a type of two words, which is not ordinal
abbrev pub is_long : PlainType → Bool
is_long k = is_long_integer k || is_long_cardinal k

abbrev pub is_text : PlainType → Bool
is_text String = true
is_text _ = false

abbrev pub bounds : PlainType → Option (ℕ × ℕ)
bounds (Subrange k first last) = Some (first, last)
bounds _ = None

abbrev pub array_parts : PlainType → Option (PlainType × PlainType)
array_parts (Array i e) = Some (i, e)
array_parts _ = None

abbrev pub fields : PlainType → Option (List PlainField)
fields (Record o ps) = Some (fields_of_parts ps)
fields _ = None

-- Three questions. Ordinal are the types of one word that have an order: the LONG types have a base, and are not ordinal.
abbrev pub is_ordinal_base : Option PlainType → Bool
is_ordinal_base (Some b) = not (is_long b)
is_ordinal_base None = false

unfoldable pub is_ordinal : PlainType → Bool
is_ordinal k = is_ordinal_base (base_of k)

-- The four number types.
abbrev pub is_number : PlainType → Bool
is_number k = is_integer k || (is_cardinal k || is_long k)

-- And they count as one base.

abbrev pub one_base : Option PlainType → Option PlainType → Bool
one_base (Some a) (Some b) = is_number a && is_number b || same a b
one_base _ _ = false

-- two ordinal types of one base, as an index and its index type are
abbrev pub one_ordinal_base : Option PlainType → Option PlainType → Bool
one_ordinal_base a b = is_ordinal_base a && (is_ordinal_base b && one_base a b)

-- a type conforms to a target where both have one base, or are the same type
unfoldable pub conforms : PlainType → PlainType → Bool
conforms from to = one_base (base_of from) (base_of to) || same from to

abbrev pub sign_by : Option PlainType → Base
sign_by (Some base) = if is_integer base || is_long_integer base then Signed else Unsigned
sign_by None = Unsigned

-- how the words of a type, or the two words of a LONG type, are read as numbers
unfoldable pub sign_of : PlainType → Base
sign_of k = sign_by (base_of k)

-- The types of the code.
unfoldable mutual
  pub tree_of : PlainType → TypeTree
  tree_of Integer = tree.Integer
  tree_of Cardinal = tree.Cardinal
  tree_of LongInteger = tree.LongInteger
  tree_of LongCardinal = tree.LongCardinal
  tree_of Boolean = tree.Boolean
  tree_of Character = tree.Character
  tree_of String = tree.String
  tree_of (Enumeration o xs) = tree.Enumeration o xs
  tree_of (Subrange k first last) = tree.Subrange (tree_of k) first last
  tree_of (Array i e) = tree.Array (tree_of i) (tree_of e)
  tree_of (Record o ps) = tree.Record o (trees_of ps)

  pub trees_of : Parts → List FieldType
  trees_of NoPart = []
  trees_of (AndPart x k ps) = roll-FieldType (record { name = x; kind = tree_of k }) ∷ trees_of ps

abbrev pub field_of : PlainField → FieldType
field_of f = roll-FieldType (record { name = f.name; kind = tree_of f.kind })

abbrev pub item_of : PlainItem → Item
item_of i = record { kind = i.kind; name = i.name; takes = map field_of i.takes; gives = map field_of i.gives }

abbrev pub constant_of : PlainConstant → Constant
constant_of c = record { name = c.name; kind = tree_of c.kind; value = c.value }

abbrev pub named_of : PlainName → NamedType
named_of x = record { name = x.name; kind = tree_of x.kind }

abbrev pub face_of : PlainInterface → Face
face_of i = record { name = i.name; stamp = i.stamp; items = map item_of i.items }

abbrev pub interface_of : PlainInterface → Interface
interface_of i = record { face = face_of i; constants = map constant_of i.constants; types = map named_of i.types }

-- and from those of the code
abbrev pub plain_step : TypeTree-F PlainType PlainField → PlainType
plain_step TypeTree-F.Integer = Integer
plain_step TypeTree-F.Cardinal = Cardinal
plain_step TypeTree-F.LongInteger = LongInteger
plain_step TypeTree-F.LongCardinal = LongCardinal
plain_step TypeTree-F.Boolean = Boolean
plain_step TypeTree-F.Character = Character
plain_step TypeTree-F.String = String
plain_step (TypeTree-F.Enumeration o xs) = Enumeration o xs
plain_step (TypeTree-F.Subrange k first last) = Subrange k first last
plain_step (TypeTree-F.Array i e) = Array i e
plain_step (TypeTree-F.Record o fs) = Record o (parts_of fs)

abbrev pub plain_field_step : FieldType-F PlainType PlainField → PlainField
plain_field_step f = record { name = f.name; kind = f.kind }

unfoldable pub plain : TypeTree → PlainType
plain = fold-TypeTree PlainType PlainField plain_step plain_field_step

unfoldable pub plain_field : FieldType → PlainField
plain_field = fold-FieldType PlainType PlainField plain_step plain_field_step

abbrev pub plain_item : Item → PlainItem
plain_item i = record { kind = i.kind; name = i.name; takes = map plain_field i.takes; gives = map plain_field i.gives }

abbrev pub plain_constant : Constant → PlainConstant
plain_constant c = record { name = c.name; kind = plain c.kind; value = c.value }

abbrev pub plain_name : NamedType → PlainName
plain_name x = record { name = x.name; kind = plain x.kind }

abbrev pub plain_interface : Interface → PlainInterface
plain_interface i = record {
  name = i.face.name;
  stamp = i.face.stamp;
  items = map plain_item i.face.items;
  constants = map plain_constant i.constants;
  types = map plain_name i.types;
}
