-- An interface that checking gives is in order, where its tree is written as a text and the interfaces given are in order.
use Rattle.std.specs.Prelude.{ℕ, ◌≡◌, ◌≢◌, ◌≤◌, ◌<◌, Bool, true, false, Some, List, [], ◌∷◌, length, map}
use Rattle.std.specs.List.{All}
use Rattle.std.proofs.Common.{refl, sym, subst, ap, ◌∙◌, arith}
use Rattle.std.proofs.lemmas.List.Elements.{All-head, All-tail}
use Rattle.mesa_base.specs.declared.limits.TheConstants.{TYPE_WORDS, TYPE_DEPTH, ENUMERATION_ELEMENTS}
use Rattle.mesa_base.specs.declared.identifier.Identifier.{Identifier}
use Rattle.mesa_types.specs.declared.faces.Item.{Item}
use Rattle.mesa_types.specs.declared.faces.ItemKind.{ItemKind}
use Rattle.mesa_types.specs.declared.faces.ItemKind.TheVariants as item
use Rattle.mesa_types.specs.declared.types.FieldType.{FieldType}
use Rattle.mesa_types.specs.declared.types.Origin.{Origin}
use Rattle.mesa_types.specs.Operators.{Tried, Fine, Faulty, tried, truth}
use Rattle.mesa_types.specs.Longs.{tried_long, widened}
use Rattle.mesa_types.proofs.LongLaws.{FineBelow, tried_long_small}
use Rattle.check_rules.specs.Typed as t
use Rattle.check_rules.specs.Operators.{number_type, long_type}
use Rattle.interface_records.specs.declared.interface.Interface.{Interface}
use Rattle.interface_records.specs.PlainTypes as v
use Rattle.interface_records.specs.PlainTypes.{PlainType, PlainField, PlainItem, PlainConstant, PlainName, PlainInterface, base_of, depth_of, kind_of, is_long, is_ordinal, fields_of_parts, parts_of, plain_field, plain_interface, plain_item, words_of}
use Rattle.check_rules.specs.Parts.{names_of}
use Rattle.interface_records.specs.PlainTypes.{HasPart}
use Rattle.check_rules.specs.Interfaces.{TypeInOrder, PartsInOrder, FieldsInOrder, ItemsInOrder, ConstantsInOrder, NamesInOrder, InterfaceInOrder, InterfacesInOrder, ConstantFits}
use Rattle.check_rules.specs.CheckedModule.{checked_definitions}
use Rattle.check_rules.specs.Laws.{GivesNothing, HeadIsInForm, CheckedInterfacesAreInOrder}
use Rattle.check_rules.specs.TypeRules.{is_index}
use Rattle.typing_laws.proofs.HeadForms.{heads_in_form}
use Rattle.typing_laws.proofs.Outcomes.{length_of_map, both_ok}
use Rattle.typing_laws.proofs.SoundConstants.{IsFineWord, wrapped, truth_word, tried_word, constant_kind, value_is_word, value_is_long, widened_small}
use Rattle.check_rules.proofs.SoundSame.{conforming_kind}
use Rattle.typing_laws.proofs.SoundOperators.{number_word, long_type_kind}
use Rattle.typing_laws.proofs.SoundLaw.{type_in}
use Rattle.typing_laws.proofs.SoundTypeRules.{index_elements}
use Rattle.check_rules.proofs.SoundTypes.{none_is_no, long_cases}
use Rattle.typing_laws.proofs.TypeLaws.{TypeLaw, FieldsHave, OfTried}
use Rattle.typing_laws.proofs.FineTypes.{ItemFine}
use Rattle.typing_laws.proofs.FineDefinitions.{ItemsFine, ConstantsFine, ConstantsOrdinal, TypesFine}
use Rattle.typing_laws.proofs.FineInterfaces.{InterfacesFine, InterfaceMade, checked_fine}

-- ---- the law
plain_order : TypeInOrder v.Integer × TypeInOrder v.Cardinal × TypeInOrder v.Boolean × TypeInOrder v.Character × TypeInOrder v.String × TypeInOrder v.LongInteger × TypeInOrder
    v.LongCardinal
unfolding TypeInOrder
plain_order = (tt, tt, tt, tt, tt, tt, tt)

pub some_name : (xs : List Identifier) → xs ≢ [] → 0 < length (names_of xs)
some_name [] h = absurd (h refl)
some_name (x ∷ xs) h = omega arith

enumeration_order : (o : Origin) (xs : List Identifier) → xs ≢ [] → length xs ≤ ENUMERATION_ELEMENTS → TypeInOrder (v.Enumeration o (names_of xs))
unfolding TypeInOrder
enumeration_order o xs h k = (some_name xs h, omega (arith, k, length_of_map (λ (x : Identifier). x.name) xs))

-- a base stands around no type
base_is_flat : (j b : PlainType) → base_of j ≡ Some b → depth_of b ≡ 1
unfolding base_of depth_of
base_is_flat j b e = by j b e
  where
    as_one : (a b : PlainType) → depth_of a ≡ 1 → Some a ≡ Some b → depth_of b ≡ 1
    as_one a b h e = subst (λ k. depth_of k ≡ 1) (same_one a b e) h
      where
        same_one : (a b : PlainType) → Some a ≡ Some b → a ≡ b
        same_one a b e = cc

    by : (j b : PlainType) → base_of j ≡ Some b → depth_of b ≡ 1
    by v.Integer b e = as_one v.Integer b refl e
    by v.Cardinal b e = as_one v.Cardinal b refl e
    by v.LongInteger b e = as_one v.LongInteger b refl e
    by v.LongCardinal b e = as_one v.LongCardinal b refl e
    by v.Boolean b e = as_one v.Boolean b refl e
    by v.Character b e = as_one v.Character b refl e
    by v.String b e = none_is_no b e
    by (v.Enumeration o xs) b e = as_one (v.Enumeration o xs) b refl e
    by (v.Subrange k m n) b e = by k b e
    by (v.Array i k) b e = none_is_no b e
    by (v.Record o ps) b e = none_is_no b e

pub subrange_order : (k : PlainType) (x y : ℕ) → TypeInOrder k → base_of k ≡ Some k → is_ordinal k ≡ true → x < 65536 → y < 65536
    → TypeInOrder (v.Subrange k x y)
unfolding TypeInOrder depth_of
subrange_order k x y h e o m n = (h, o, m, n, omega (arith, base_is_flat k k e))

array_order : (i e : PlainType) → TypeInOrder i → TypeInOrder e → is_index i ≡ true → words_of (v.Array i e) ≤ TYPE_WORDS
    → depth_of (v.Array i e) ≤ TYPE_DEPTH → TypeInOrder (v.Array i e)
unfolding TypeInOrder
array_order i e h k x w d = (h, k, index_elements i (type_in i h) x, w, d)

parts_order : (fs : List PlainField) → FieldsHave TypeInOrder fs → PartsInOrder (parts_of fs)
unfolding FieldsHave TypeInOrder parts_of
parts_order [] h = tt
parts_order (f ∷ fs) h = (h.0, parts_order fs h.1)

pub has_part : (fs : List PlainField) → fs ≢ [] → HasPart (parts_of fs)
unfolding HasPart parts_of
has_part [] h = absurd (h refl)
has_part (f ∷ fs) h = tt

record_order : (o : Origin) (fs : List PlainField) → FieldsHave TypeInOrder fs → fs ≢ [] → words_of (v.Record o (parts_of fs)) ≤ TYPE_WORDS
    → depth_of (v.Record o (parts_of fs)) ≤ TYPE_DEPTH → TypeInOrder (v.Record o (parts_of fs))
unfolding TypeInOrder
record_order o fs h s w d = (parts_order fs h, has_part fs s, w, d)

base_order : (k : PlainType) (x y : ℕ) → TypeInOrder (v.Subrange k x y) → TypeInOrder k
unfolding TypeInOrder
base_order k x y h = h.0

base_ordinal : (k : PlainType) (x y : ℕ) → TypeInOrder (v.Subrange k x y) → is_ordinal k ≡ true
unfolding TypeInOrder
base_ordinal k x y h = h.1

index_order : (i e : PlainType) → TypeInOrder (v.Array i e) → TypeInOrder i
unfolding TypeInOrder
index_order i e h = h.0

element_order : (i e : PlainType) → TypeInOrder (v.Array i e) → TypeInOrder e
unfolding TypeInOrder
element_order i e h = h.1

fields_of_order : (ps : v.Parts) → PartsInOrder ps → FieldsHave TypeInOrder (fields_of_parts ps)
unfolding TypeInOrder FieldsHave fields_of_parts
fields_of_order v.NoPart h = tt
fields_of_order (v.AndPart x k ps) h = (h.0, fields_of_order ps h.1)

record_parts : (o : Origin) (ps : v.Parts) → TypeInOrder (v.Record o ps) → FieldsHave TypeInOrder (fields_of_parts ps)
unfolding TypeInOrder
record_parts o ps h = fields_of_order ps h.0

pub as_tried : (r : Tried) → IsFineWord r → OfTried (λ n. n < 65536) r
as_tried (Fine n) h = h
as_tried (Faulty f) h = tt

element_word : (o : Origin) (xs : List (List ℕ)) (n : ℕ) → TypeInOrder (v.Enumeration o xs) → n < length xs → n < 65536
unfolding TypeInOrder
element_word o xs n h l = let few : length xs ≤ 65536 = h.1 in omega (arith, l, few)

-- ---- values of a type

word_value : (k : PlainType) (n : ℕ) → kind_of k ≡ t.Ordinal → n < 65536 → ConstantFits (kind_of k) n
unfolding ConstantFits
word_value k n e h = subst (λ j. ConstantFits j n) (sym e) h

long_value : (k : PlainType) (n : ℕ) → kind_of k ≡ t.Longs → n < 4294967296 → ConstantFits (kind_of k) n
unfolding ConstantFits
long_value k n e h = subst (λ j. ConstantFits j n) (sym e) h

plain_kinds : (kind_of v.Character ≡ t.Ordinal) × (kind_of v.Boolean ≡ t.Ordinal)
unfolding kind_of
plain_kinds = (refl, refl)

element_value : (o : Origin) (xs : List (List ℕ)) (n : ℕ) → n < 65536 → ConstantFits (kind_of (v.Enumeration o xs)) n
unfolding ConstantFits kind_of
element_value o xs n h = h

-- a word is a value of each base
base_takes : (k b : PlainType) (n : ℕ) → base_of k ≡ Some b → n < 65536 → ConstantFits (kind_of b) n
unfolding base_of ConstantFits kind_of
base_takes k b n e h = by k b e
  where
    at : (a b : PlainType) → Some a ≡ Some b → ConstantFits (kind_of a) n → ConstantFits (kind_of b) n
    at a b e w = subst (λ j. ConstantFits (kind_of j) n) (same_one a b e) w
      where
        same_one : (a b : PlainType) → Some a ≡ Some b → a ≡ b
        same_one a b e = cc

    by : (k b : PlainType) → base_of k ≡ Some b → ConstantFits (kind_of b) n
    by v.Integer b e = at v.Integer b e h
    by v.Cardinal b e = at v.Cardinal b e h
    by v.LongInteger b e = at v.LongInteger b e (omega (arith, h))
    by v.LongCardinal b e = at v.LongCardinal b e (omega (arith, h))
    by v.Boolean b e = at v.Boolean b e h
    by v.Character b e = at v.Character b e h
    by v.String b e = none_is_no b e
    by (v.Enumeration o xs) b e = at (v.Enumeration o xs) b e h
    by (v.Subrange k x y) b e = by k b e
    by (v.Array i k) b e = none_is_no b e
    by (v.Record o ps) b e = none_is_no b e

based_value : (k b : PlainType) (n : ℕ) → base_of k ≡ Some b → ConstantFits (kind_of k) n → ConstantFits (kind_of b) n
unfolding base_of
based_value k b n e w = by (is_long k) refl
  where
    by : (l : Bool) → is_long k ≡ l → ConstantFits (kind_of b) n
    by true d = long_cases (λ k. base_of k ≡ Some b → ConstantFits (kind_of k) n → ConstantFits (kind_of b) n) (of_itself v.LongInteger integer_base)
        (of_itself v.LongCardinal cardinal_base) k d e w
      where
        integer_base : base_of v.LongInteger ≡ Some v.LongInteger
        integer_base = refl

        cardinal_base : base_of v.LongCardinal ≡ Some v.LongCardinal
        cardinal_base = refl

        same_one : (a b : PlainType) → Some a ≡ Some b → a ≡ b
        same_one a b e = cc

        of_itself : (a : PlainType) → base_of a ≡ Some a → base_of a ≡ Some b → ConstantFits (kind_of a) n → ConstantFits (kind_of b) n
        of_itself a d e w = subst (λ j. ConstantFits (kind_of j) n) (same_one a b (sym d ∙ e)) w
    by false d = base_takes k b n e (value_is_word (kind_of k) n (constant_kind k n w d) w)

pub fine_below_long : (x : Tried) → FineBelow 4294967296 x → OfTried (λ n. n < 4294967296) x
unfolding FineBelow
fine_below_long (Fine n) h = h
fine_below_long (Faulty f) h = tt

abbrev order : TypeLaw
order = record {
  Kept = TypeInOrder;
  Word = λ n. n < 65536;
  Long = λ n. n < 4294967296;
  Worth = λ k n. ConstantFits (kind_of k) n;
  Made = λ o. Unit {0};
  Written = Unit {0};
  Named = ⊥;
  integer = plain_order.0;
  cardinal = plain_order.1;
  long_integer = plain_order.5;
  long_cardinal = plain_order.6;
  boolean = plain_order.2;
  character = plain_order.3;
  string = plain_order.4;
  enumeration = λ o xs g w n once few. enumeration_order o xs (w tt) few;
  subrange = λ k l h x y f e o i j d. subrange_order k _ _ f e o (wrapped _) (wrapped _);
  array = array_order;
  fields = λ o fs g h m w d. record_order o fs h (m.some tt) w d;
  base = base_order;
  ordinal_base = base_ordinal;
  index = index_order;
  element = element_order;
  parts = record_parts;
  small = λ n l. l;
  operated = λ o x y h. as_tried (tried o x y) (tried_word o x y h);
  word = λ k n h s w. value_is_word (kind_of k) n (constant_kind k n w s) w;
  number = λ b n w. word_value (number_type b) n (number_word b) w;
  letter = λ n l. word_value v.Character n plain_kinds.0 (omega (arith, l));
  truths = λ b. word_value v.Boolean (truth b) plain_kinds.1 (truth_word b);
  enumerated = λ o xs n h l. element_value o xs n (element_word o xs n h l);
  based = based_value;
  fitted = λ j k n h i e s d f w. subst (λ l. ConstantFits l n) (conforming_kind j k e s d) w;
  long_small = λ n l. l;
  long_operated = λ o x y h. fine_below_long (tried_long o x y) (tried_long_small o x y h);
  widened = λ from to n w. fine_below_long (widened from to n) (widened_small from to n w);
  long = λ b n w. long_value (long_type b) n (long_type_kind b) w;
  long_word = λ b n w. value_is_long (kind_of (long_type b)) n (long_type_kind b) w;
}

-- ---- interfaces that are given
fields_fine : (fs : List PlainField) → FieldsInOrder fs → FieldsHave TypeInOrder fs
unfolding FieldsInOrder FieldsHave
fields_fine [] h = tt
fields_fine (f ∷ fs) h = (h.0, fields_fine fs h.1)

items_fine : (is : List PlainItem) → ItemsInOrder is → ItemsFine order is
unfolding ItemsInOrder ItemsFine ItemFine
items_fine [] h = tt
items_fine (i ∷ is) h = ((fields_fine i.takes h.0.takes, fields_fine i.gives h.0.gives), items_fine is h.1)

constants_fine : (cs : List PlainConstant) → ConstantsInOrder cs → ConstantsFine order cs
unfolding ConstantsInOrder ConstantsFine
constants_fine [] h = tt
constants_fine (c ∷ cs) h = (h.0.kind, h.0.value, constants_fine cs h.1)

types_fine : (xs : List PlainName) → NamesInOrder xs → TypesFine order xs
unfolding NamesInOrder TypesFine
types_fine [] h = tt
types_fine (x ∷ xs) h = (h.0, types_fine xs h.1)

interfaces_fine : (is : List PlainInterface) → InterfacesInOrder is → InterfacesFine order is
unfolding InterfacesInOrder InterfacesFine
interfaces_fine [] h = tt
interfaces_fine (i ∷ is) h = (
  record {
    items = items_fine i.items h.0.items;
    constants = constants_fine i.constants h.0.constants;
    types = types_fine i.types h.0.types;
  },
  interfaces_fine is h.1,
)

-- ---- the interface that is made
pub ErrorsGiveNothing : List PlainItem → Type 0
ErrorsGiveNothing [] = Unit {0}
ErrorsGiveNothing (i ∷ is) = (i.kind ≡ item.Error → i.gives ≡ []) × ErrorsGiveNothing is

nothing_given : (k : ItemKind) (gs : List FieldType) → GivesNothing k gs → k ≡ item.Error → map plain_field gs ≡ []
nothing_given item.Error gs h e = ap (map plain_field) h
nothing_given item.Procedure gs h e = absurd (no e)
  where
    no : item.Procedure ≡ item.Error → ⊥
    no e = cc
nothing_given item.Signal gs h e = absurd (no e)
  where
    no : item.Signal ≡ item.Error → ⊥
    no e = cc

pub errors_give_nothing : (is : List Item) → All HeadIsInForm is → ErrorsGiveNothing (map plain_item is)
unfolding ErrorsGiveNothing
errors_give_nothing [] h = tt
errors_give_nothing (i ∷ is) h = (nothing_given i.kind i.gives (All-head HeadIsInForm i is h).error, errors_give_nothing is (All-tail HeadIsInForm i is h))

fields_order : (fs : List PlainField) → FieldsHave TypeInOrder fs → FieldsInOrder fs
unfolding FieldsInOrder FieldsHave
fields_order [] h = tt
fields_order (f ∷ fs) h = (h.0, fields_order fs h.1)

items_order : (is : List PlainItem) → ItemsFine order is → ErrorsGiveNothing is → ItemsInOrder is
unfolding ItemsInOrder ItemsFine ItemFine ErrorsGiveNothing
items_order [] h e = tt
items_order (i ∷ is) h e = (
  record { takes = fields_order i.takes h.0.0; gives = fields_order i.gives h.0.1; error = e.0 },
  items_order is h.1 e.1,
)

constants_order : (cs : List PlainConstant) → ConstantsFine order cs → ConstantsOrdinal cs → ConstantsInOrder cs
unfolding ConstantsInOrder ConstantsFine ConstantsOrdinal
constants_order [] h k = tt
constants_order (c ∷ cs) h k = (record { value = h.1; kind = h.0 }, constants_order cs h.2 k.1)

types_order : (xs : List PlainName) → TypesFine order xs → NamesInOrder xs
unfolding NamesInOrder TypesFine
types_order [] h = tt
types_order (x ∷ xs) h = (h.0, types_order xs h.1)

pub interfaces_in_order : CheckedInterfacesAreInOrder
interfaces_in_order m stamp is w h = both_ok (λ (i : Interface). InterfaceMade order (plain_interface i)) (λ (i : Interface). All HeadIsInForm i.face.items)
    (λ (i : Interface). InterfaceInOrder (plain_interface i)) (checked_definitions m stamp is)
    (checked_fine order m stamp is (interfaces_fine (map plain_interface is) h) (λ p. tt) (record { written = λ l. w; named = λ l. absurd l }))
    (heads_in_form m stamp is) (λ i k f. record {
      items = items_order (map plain_item i.face.items) k.items (errors_give_nothing i.face.items f);
      constants = constants_order (plain_interface i).constants k.constants k.ordinal;
      types = types_order (plain_interface i).types k.types;
    })
