-- Files can spell each interface that checking gives.
use Rattle.std.specs.Prelude.{ℕ, suc, ◌≡◌, ◌≤◌, Bool, true, false, ◌||◌, Some, Ok, List, [], ◌∷◌, ◌++◌, length, map, bytes_eq, filter, nat_lt, cond, IfOk}
use Rattle.std.specs.List.{All}
use Rattle.std.proofs.Common.{refl, sym, subst, ap, arith, ◌∙◌}
use Rattle.std.proofs.lemmas.List.Elements.{All-nil, All-head, All-tail}
use Rattle.mesa_base.specs.Name.{IsName}
use Rattle.mesa_base.specs.declared.place.Place.{Place}
use Rattle.syntax_trees.specs.Syntax as s
use Rattle.syntax_trees.specs.SyntaxNodes.{module_nodes, kind_nodes, definitions_nodes}
use Rattle.mesa_types.specs.declared.faces.Item.{Item}
use Rattle.mesa_types.specs.declared.faces.ItemKind.{ItemKind}
use Rattle.mesa_types.specs.declared.faces.ItemKind.TheVariants as item
use Rattle.interface_records.specs.declared.interface.Constant.{Constant}
use Rattle.interface_records.specs.declared.interface.Interface.{Interface}
use Rattle.interface_records.specs.declared.interface.NamedType.{NamedType}
use Rattle.interface_records.specs.PlainTypes.{PlainField, PlainItem, PlainConstant, PlainName, PlainInterface, interface_of, plain_constant, plain_interface, plain_item, plain_name}
use Rattle.check_rules.specs.Scopes.{has}
use Rattle.check_rules.specs.Mentions.{of_kind, origins}
use Rattle.check_rules.specs.CheckedModule.{checked_definitions, interface_by, known_of}
use Rattle.check_rules.specs.TypeRules.{origin}
use Rattle.interface_records.specs.Lists.{NoneTwice}
use Rattle.interface_records.specs.Spelled.{InSixBytes, OriginCanBeSpelled, names_among, NamesCanBeSpelled, TypeCanBeSpelled, FieldsCanBeSpelled, ItemsCanBeSpelled, names_of_items, names_of_constants, names_of_types, ConstantsCanBeSpelled, NamedTypesCanBeSpelled, InterfaceCanBeSpelled, InterfacesCanBeSpelled}
use Rattle.check_rules.specs.TreeNames.{HasNames, KindNamed, DefinitionNamed}
use Rattle.check_rules.specs.Written.{ModuleWritten}
use Rattle.check_rules.specs.Laws.{IsOfItsText, definitions_of, names_of_interface, IsOfTextSize, CheckedInterfacesCanBeSpelled}
use Rattle.typing_laws.proofs.DeclaredNames.{of_their_text}
use Rattle.typing_laws.proofs.Distinct.{names_once, none_twice, times}
use Rattle.typing_laws.proofs.HeadForms.{AllOrNone, NothingFor, ItemsForm, interface_form}
use Rattle.typing_laws.proofs.HeadCounts.{ItemsFew, interface_few, declared_few, declared_spelled}
use Rattle.typing_laws.proofs.OriginCounts.{kind_many}
use Rattle.typing_laws.proofs.Outcomes.{then_ok, both_ok, length_of_map, map_twice}
use Rattle.typing_laws.proofs.RoundTrip.{interface_again}
use Rattle.typing_laws.proofs.SpelledTypes.{spelled, names_among_spelled}
use Rattle.typing_laws.proofs.TypeLaws.{FieldsHave, NamesFine}
use Rattle.typing_laws.proofs.FineTypes.{ItemFine}
use Rattle.typing_laws.proofs.FineDefinitions.{ItemsFine, ItemsNamed, ConstantsFine, ConstantsOrdinal, TypesFine}
use Rattle.typing_laws.proofs.FineInterfaces.{InterfacesFine, InterfaceMade, checked_fine}

-- ---- interfaces that are given
fields_have : (fs : List PlainField) → FieldsCanBeSpelled fs → FieldsHave TypeCanBeSpelled fs
unfolding FieldsCanBeSpelled FieldsHave
fields_have [] h = tt
fields_have (f ∷ fs) h = (h.0, fields_have fs h.1)

items_have : (is : List PlainItem) → ItemsCanBeSpelled is → ItemsFine spelled is
unfolding ItemsCanBeSpelled ItemsFine ItemFine
items_have [] h = tt
items_have (i ∷ is) h = ((fields_have i.takes h.0.takes, fields_have i.gives h.0.gives), items_have is h.1)

constants_have : (cs : List PlainConstant) → ConstantsCanBeSpelled cs → ConstantsFine spelled cs
unfolding ConstantsCanBeSpelled ConstantsFine
constants_have [] h = tt
constants_have (c ∷ cs) h = (h.0.kind, h.0.value, constants_have cs h.1)

types_have : (xs : List PlainName) → NamedTypesCanBeSpelled xs → TypesFine spelled xs
unfolding NamedTypesCanBeSpelled TypesFine
types_have [] h = tt
types_have (x ∷ xs) h = (h.1, types_have xs h.2)

interfaces_have : (is : List PlainInterface) → InterfacesCanBeSpelled is → InterfacesFine spelled is
unfolding InterfacesCanBeSpelled InterfacesFine
interfaces_have [] h = tt
interfaces_have (i ∷ is) h = (
  record {
    items = items_have i.items h.0.face.each;
    constants = constants_have i.constants h.0.constants;
    types = types_have i.types h.0.types;
  },
  interfaces_have is h.1,
)

-- ---- what is made
have_fields : (fs : List PlainField) → FieldsHave TypeCanBeSpelled fs → FieldsCanBeSpelled fs
unfolding FieldsCanBeSpelled FieldsHave
have_fields [] h = tt
have_fields (f ∷ fs) h = (h.0, have_fields fs h.1)

no_result : (k : ItemKind) (gs : List PlainField) → NothingFor k gs → k ≡ item.Error → gs ≡ []
no_result item.Error gs h e = h
no_result item.Procedure gs h e = absurd (no e)
  where
    no : item.Procedure ≡ item.Error → ⊥
    no e = cc
no_result item.Signal gs h e = absurd (no e)
  where
    no : item.Signal ≡ item.Error → ⊥
    no e = cc

names_can : (fs : List PlainField) → length fs ≤ 2097152 → AllOrNone fs → NamesFine fs → ((n : List ℕ) → times n (names_among fs) ≤ 1) → NamesCanBeSpelled fs
names_can fs l a h o = record {
  count = omega (arith, l);
  all = a;
  names = names_among_spelled fs h;
  distinct = none_twice (names_among fs) o;
}

items_can : (is : List PlainItem) → ItemsFine spelled is → ItemsNamed is → ItemsForm is → (n : ℕ) → n ≤ 2097152 → ItemsFew n is
    → All IsName (names_of_items is) → ItemsCanBeSpelled is
unfolding ItemsFine ItemFine ItemsNamed ItemsForm ItemsFew ItemsCanBeSpelled
items_can [] h k f n l m a = tt
items_can (i ∷ is) h k f n l m a = (
  record {
    name = All-head IsName i.name (names_of_items is) a;
    takes = have_fields i.takes h.0.0;
    takes_names = names_can i.takes (omega (arith, l, m.0)) f.0.takes_all k.0 (λ x. omega (arith, f.0.distinct x));
    gives = have_fields i.gives h.0.1;
    gives_names = names_can i.gives (omega (arith, l, m.1)) f.0.gives_all k.1 (λ x. omega (arith, f.0.distinct x));
    error = no_result i.kind i.gives f.0.none;
  },
  items_can is h.1 k.2 f.1 n l m.2 (All-tail IsName i.name (names_of_items is) a),
)

constants_can : (cs : List PlainConstant) → ConstantsFine spelled cs → ConstantsOrdinal cs → All IsName (names_of_constants cs) → ConstantsCanBeSpelled cs
unfolding ConstantsFine ConstantsOrdinal ConstantsCanBeSpelled
constants_can [] h o a = tt
constants_can (c ∷ cs) h o a = (
  record { name = All-head IsName c.name (names_of_constants cs) a; kind = h.0; based = o.0; value = h.1 },
  constants_can cs h.2 o.1 (All-tail IsName c.name (names_of_constants cs) a),
)

types_can : (xs : List PlainName) → TypesFine spelled xs → All IsName (names_of_types xs) → NamedTypesCanBeSpelled xs
unfolding TypesFine NamedTypesCanBeSpelled
types_can [] h a = tt
types_can (x ∷ xs) h a = (All-head IsName x.name (names_of_types xs) a, h.0, types_can xs h.1 (All-tail IsName x.name (names_of_types xs) a))

-- names that stand once in a longer list
not_in : (x : List ℕ) (xs ys : List (List ℕ)) → has x (xs ++ ys) ≡ false → has x xs ≡ false
unfolding has
not_in x [] ys e = refl
not_in x (y ∷ xs) ys e = by (bytes_eq x y) e (not_in x xs ys)
  where
    by : (b : Bool) → (b || has x (xs ++ ys)) ≡ false → (has x (xs ++ ys) ≡ false → has x xs ≡ false) → (b || has x xs) ≡ false
    by true d r = d
    by false d r = r d

first_once : (xs ys : List (List ℕ)) → NoneTwice (xs ++ ys) → NoneTwice xs
unfolding NoneTwice
first_once [] ys h = tt
first_once (x ∷ xs) ys h = (not_in x xs ys h.0, first_once xs ys h.1)

-- ---- the text
few_filtered : (f : ℕ → Bool) (ns : List ℕ) → length (filter f ns) ≤ length ns
few_filtered f [] = omega arith
few_filtered f (n ∷ ns) = by (f n) (few_filtered f ns)
  where
    by : (b : Bool) → length (filter f ns) ≤ length ns → length (cond b (n ∷ filter f ns) (filter f ns)) ≤ suc (length ns)
    by true h = omega (arith, h)
    by false h = omega (arith, h)

kind_few : (m : s.Module) → IsOfTextSize m → kind_nodes m.kind ≤ 2097152
unfolding module_nodes
kind_few m h = let l : module_nodes m ≤ 2097152 = h in omega (arith, l)

definitions_few : (k : s.ModuleKind) → definitions_nodes (definitions_of k) ≤ kind_nodes k
unfolding kind_nodes definitions_nodes
definitions_few (s.Program p imports exports opens inner) = omega arith
definitions_few (s.Interface p opens ds) = omega arith

definitions_named : (k : s.ModuleKind) → KindNamed k → All DefinitionNamed (definitions_of k)
unfolding KindNamed
definitions_named (s.Program p imports exports opens inner) h = All-nil DefinitionNamed
definitions_named (s.Interface p opens ds) h = h.1

module _ (m : s.Module) (stamp : ℕ) (is : List Interface) (small : InSixBytes stamp) (named : HasNames m) (size : IsOfTextSize m) where
  origin_can : (p : Place) → OriginCanBeSpelled (origin (known_of m (Some stamp) false [] (map plain_interface is)) p)
  unfolding HasNames
  origin_can p = record {
    name = named.1;
    stamp = (stamp, refl, small);
    number = omega (arith, few_filtered (λ n. nat_lt n p.token) (origins (of_kind m.kind)), kind_many m.kind, kind_few m size);
  }

  of_plain : (P : PlainInterface → Type 0) → IfOk (interface_by m stamp (map plain_interface is) m.kind) P
      → IfOk (checked_definitions m stamp is) (λ (i : Interface). P (plain_interface i))
  unfolding checked_definitions
  of_plain P h = then_ok P (λ (i : Interface). P (plain_interface i)) (interface_by m stamp (map plain_interface is) m.kind) (λ i. Ok (interface_of i)) h
      (λ i k. subst P (sym (interface_again i)) k)

  abbrev Plainly : PlainInterface → Type 0
  Plainly i = ItemsForm i.items × ItemsFew (definitions_nodes (definitions_of m.kind)) i.items

  plainly : IfOk (interface_by m stamp (map plain_interface is) m.kind) Plainly
  plainly = both_ok (λ (i : PlainInterface). ItemsForm i.items) (λ (i : PlainInterface). ItemsFew (definitions_nodes (definitions_of m.kind)) i.items) Plainly
      (interface_by m stamp (map plain_interface is) m.kind) (interface_form m stamp (map plain_interface is) m.kind)
      (interface_few m stamp (map plain_interface is) m.kind) (λ i h k. (h, k))

  names_of_code : (i : Interface) → (names_of_items (plain_interface i).items ≡ map (λ (x : Item). x.name) i.face.items) × (names_of_constants
      (plain_interface i).constants ≡ map (λ (c : Constant). c.name) i.constants) × (names_of_types (plain_interface i).types ≡ map
      (λ (x : NamedType). x.name) i.types)
  names_of_code i = (
    map_twice plain_item (λ (x : PlainItem). x.name) (λ (x : Item). x.name) (λ x. refl) i.face.items,
    map_twice plain_constant (λ (c : PlainConstant). c.name) (λ (c : Constant). c.name) (λ x. refl) i.constants,
    map_twice plain_name (λ (x : PlainName). x.name) (λ (x : NamedType). x.name) (λ x. refl) i.types,
  )

  can : (i : Interface) → InterfaceMade spelled (plain_interface i) → IsOfItsText m stamp i → NoneTwice (names_of_interface i) → Plainly (plain_interface i)
      → InterfaceCanBeSpelled (plain_interface i)
  unfolding HasNames
  can i made text once f =
      let ds = definitions_of m.kind in
      let few : definitions_nodes ds ≤ 2097152 = omega (arith, definitions_few m.kind, kind_few m size) in
      let names = declared_spelled ds (definitions_named m.kind named.2) in
      let many = declared_few ds in
      let code = names_of_code i in
      let items = code.0 ∙ text.items in
      let constants = code.1 ∙ text.constants in
      let types = code.2 ∙ text.types in
      let all : NoneTwice (names_of_items (plain_interface i).items ++ (names_of_constants (plain_interface i).constants ++ names_of_types
      (plain_interface i).types)) = in_plain code once in
      record {
        face = record {
          its_name = subst IsName (sym text.name) named.1;
          its_stamp = subst InSixBytes (sym text.stamped) small;
          count = omega (arith, few, many.0, ap length items, length_of_map (λ (x : PlainItem). x.name) (plain_interface i).items);
          each = items_can (plain_interface i).items made.items (made.names tt) f.0 (definitions_nodes ds) few f.1 (subst (All IsName) (sym items) names.0);
          distinct = first_once (names_of_items (plain_interface i).items) _ all;
        };
        constant_count = omega (arith, few, many.1, ap length constants, length_of_map (λ (c : PlainConstant). c.name) (plain_interface i).constants);
        constants = constants_can (plain_interface i).constants made.constants made.ordinal (subst (All IsName) (sym constants) names.1);
        type_count = omega (arith, few, many.2, ap length types, length_of_map (λ (x : PlainName). x.name) (plain_interface i).types);
        types = types_can (plain_interface i).types made.types (subst (All IsName) (sym types) names.2);
        distinct = all;
      }
    where
      in_plain : {a b c d e f : List (List ℕ)} → (a ≡ d) × (b ≡ e) × (c ≡ f) → NoneTwice (d ++ (e ++ f)) → NoneTwice (a ++ (b ++ c))
      in_plain {a} {b} {c} {d} {e} {f} h k =
          subst NoneTwice (sym (ap (λ x. x ++ (b ++ c)) h.0 ∙ (ap (λ x. d ++ (x ++ c)) h.1 ∙ ap (λ x. d ++ (e ++ x)) h.2))) k

  law : ModuleWritten m.kind → InterfacesCanBeSpelled (map plain_interface is)
      → IfOk (checked_definitions m stamp is) (λ (i : Interface). InterfaceCanBeSpelled (plain_interface i))
  unfolding HasNames
  law w h =
      both_ok (λ (i : Interface). InterfaceMade spelled (plain_interface i) × IsOfItsText m stamp i)
      (λ (i : Interface). NoneTwice (names_of_interface i) × Plainly (plain_interface i)) (λ (i : Interface). InterfaceCanBeSpelled (plain_interface i))
      (checked_definitions m stamp is)
      (both_ok (λ (i : Interface). InterfaceMade spelled (plain_interface i)) (IsOfItsText m stamp)
      (λ (i : Interface). InterfaceMade spelled (plain_interface i) × IsOfItsText m stamp i) (checked_definitions m stamp is)
      (checked_fine spelled m stamp is (interfaces_have (map plain_interface is) h) origin_can
      (record { written = λ l. w; named = λ l. named.2 }))
      (of_their_text m stamp is) (λ i j k. (j, k)))
      (both_ok (λ (i : Interface). NoneTwice (names_of_interface i)) (λ (i : Interface). Plainly (plain_interface i))
      (λ (i : Interface). NoneTwice (names_of_interface i) × Plainly (plain_interface i)) (checked_definitions m stamp is) (names_once m stamp is)
      (of_plain Plainly plainly) (λ i j k. (j, k)))
      (λ i j k. can i j.0 j.1 k.0 k.1)

pub interfaces_can_be_spelled : CheckedInterfacesCanBeSpelled
interfaces_can_be_spelled m stamp is small named w size h = law m stamp is small named size w h
