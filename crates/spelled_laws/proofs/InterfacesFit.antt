-- Interfaces that can be spelled are those that their form fits; and the built-in one is such.
use Rattle.std.proofs.Common.{◌≡◌, ℕ, ◌^◌, ◌<◌, false, List, [], ◌∷◌, ◌++◌, length, refl, sym, ap, subst, ◌∙◌, arith}
use Rattle.std.specs.Prelude.{map}
use Rattle.std.proofs.lemmas.Bool.{le-leb}
use Rattle.std.proofs.lemmas.List.{length-map, map-append, append-nil}
use Rattle.mesa_base.specs.Name.{IsName}
use Rattle.mesa_types.specs.declared.types.TypeTree.{TypeTree}
use Rattle.interface_records.specs.declared.interface.Interface.{Interface}
use Rattle.interface_records.specs.declared.interface.Constant.{Constant}
use Rattle.interface_records.specs.declared.interface.NamedType.{NamedType}
use Rattle.interface_records.specs.Faces.{iodefs}
use Rattle.interface_records.specs.Lists.{NoneTwice}
use Rattle.interface_records.specs.PlainTypes.{PlainConstant, PlainName, plain, plain_item, plain_constant, plain_name, plain_interface}
use Rattle.interface_records.specs.Spelled.{IsValueOf, TypeCanBeSpelled, ConstantCanBeSpelled, ConstantsCanBeSpelled, NamedTypesCanBeSpelled, InterfaceCanBeSpelled, names_of_items, names_of_constants, names_of_types}
use Rattle.interface_records.proofs.BuiltIn.{built_in_can_be_spelled}
use Rattle.file_forms.specs.Names.{is_among}
use Rattle.face_rules.specs.Layers.{value_bytes, holds}
use Rattle.face_rules.specs.FaceForms.{item_names}
use Rattle.face_rules.specs.InterfaceForms.{value_of, constant, constant_names, constants, named_type, type_names, named_types, interface}
use Rattle.spelled_laws.specs.Laws.{InterfacesFit, FacesOfInterfacesFit, BuiltInFits}
use Rattle.spelled_laws.proofs.Names.{fresh_fits, fresh_is}
use Rattle.spelled_laws.proofs.Once.{Each, Fresh, fresh, together, each_fits, each_fine, map-map}
use Rattle.spelled_laws.proofs.Labels.{fresh_append, append_fresh}
use Rattle.spelled_laws.proofs.Twins.{type_back}
use Rattle.spelled_laws.proofs.Measures.{room_for, room_same, value_holds, holds_value, value_room}
use Rattle.spelled_laws.proofs.FacesFit.{types_fit, constant_types_fit, faces_fit, names_same}

-- ---- constants

abbrev FineConstant : Constant → Type 0
FineConstant c = ConstantCanBeSpelled (plain_constant c)

abbrev constant_name : Constant → List ℕ
constant_name c = c.name

constants_grow : (before : List Constant) (c : Constant) → constant_names (before ++ c ∷ []) ≡ constant_names before ++ c.name ∷ []
constants_grow before c = map-append constant_name before (c ∷ [])

each_constant : (cs : List Constant) → ConstantsCanBeSpelled (map plain_constant cs) → Each FineConstant cs
unfolding ConstantsCanBeSpelled Each
each_constant [] h = tt
each_constant (c ∷ cs) h = (h.0, each_constant cs h.1)

constant_each : (cs : List Constant) → Each FineConstant cs → ConstantsCanBeSpelled (map plain_constant cs)
unfolding ConstantsCanBeSpelled Each
constant_each [] h = tt
constant_each (c ∷ cs) h = (h.0, constant_each cs h.1)

room_is : (t : TypeTree) → 256 ^ value_bytes t ≡ room_for (plain t)
room_is t = ap (λ u. 256 ^ value_bytes u) (sym (type_back t)) ∙ room_same (plain t)

put_value : (t : TypeTree) (n : ℕ) → TypeCanBeSpelled (plain t) → IsValueOf (plain t) n → (value_of t).fits n
put_value t n h v = (
  omega (arith, value_room (plain t) n h v, room_is t),
  ap (λ u. holds u n) (sym (type_back t)) ∙ value_holds (plain t) h n v,
)

got_value : (t : TypeTree) (n : ℕ) → TypeCanBeSpelled (plain t) → (value_of t).fits n → IsValueOf (plain t) n
got_value t n h f = holds_value (plain t) h n (omega (arith, f.0, room_is t)) (ap (λ u. holds u n) (type_back t) ∙ f.1)

put_constant : (known : List (List ℕ)) (c : Constant) → FineConstant c → is_among known c.name ≡ false → (constant 2 known).fits c
unfolding constant
put_constant known c h e = (fresh_fits known c.name h.name e, ((constant_types_fit c.kind).0 (h.kind, h.based), put_value c.kind c.value h.kind h.value))

got_constant : (known : List (List ℕ)) (c : Constant) → (constant 2 known).fits c → FineConstant c × (is_among known c.name ≡ false)
unfolding constant
got_constant known c h =
    let n = fresh_is known c.name h.0 in
    let k = (constant_types_fit c.kind).1 h.1.0 in
    (record { name = n.0; kind = k.0; based = k.1; value = got_value c.kind c.value k.0 h.1.1 }, n.1)

-- ---- named types

abbrev FineType : NamedType → Type 0
FineType x = IsName x.name × TypeCanBeSpelled (plain x.kind)

abbrev type_name : NamedType → List ℕ
type_name x = x.name

types_grow : (before : List NamedType) (x : NamedType) → type_names (before ++ x ∷ []) ≡ type_names before ++ x.name ∷ []
types_grow before x = map-append type_name before (x ∷ [])

each_type : (xs : List NamedType) → NamedTypesCanBeSpelled (map plain_name xs) → Each FineType xs
unfolding NamedTypesCanBeSpelled Each
each_type [] h = tt
each_type (x ∷ xs) h = ((h.0, h.1), each_type xs h.2)

type_each : (xs : List NamedType) → Each FineType xs → NamedTypesCanBeSpelled (map plain_name xs)
unfolding NamedTypesCanBeSpelled Each
type_each [] h = tt
type_each (x ∷ xs) h = (h.0.0, h.0.1, type_each xs h.1)

put_type : (known : List (List ℕ)) (x : NamedType) → FineType x → is_among known x.name ≡ false → (named_type 2 known).fits x
unfolding named_type
put_type known x h e = (fresh_fits known x.name h.0 e, (types_fit x.kind).0 h.1)

got_type : (known : List (List ℕ)) (x : NamedType) → (named_type 2 known).fits x → FineType x × (is_among known x.name ≡ false)
unfolding named_type
got_type known x h = let n = fresh_is known x.name h.0 in ((n.0, (types_fit x.kind).1 h.1), n.1)

-- ---- interfaces

abbrev names_in : Interface → List (List ℕ)
names_in i = item_names i.face.items ++ (constant_names i.constants ++ type_names i.types)

all_names : (i : Interface) → names_of_items (map plain_item i.face.items) ++ (names_of_constants (map plain_constant i.constants) ++ names_of_types (map plain_name i.types)) ≡ names_in i
all_names i =
    ap (λ xs. xs ++ (names_of_constants (map plain_constant i.constants) ++ names_of_types (map plain_name i.types))) (names_same i.face.items)
    ∙ (ap (λ xs. item_names i.face.items ++ (xs ++ names_of_types (map plain_name i.types))) (map-map plain_constant (λ (c : PlainConstant). c.name) i.constants)
    ∙ ap (λ xs. item_names i.face.items ++ (constant_names i.constants ++ xs)) (map-map plain_name (λ (x : PlainName). x.name) i.types))

module _ (i : Interface) where
  abbrev seen : List (List ℕ)
  seen = item_names i.face.items

  abbrev known : List (List ℕ)
  known = item_names i.face.items ++ constant_names i.constants

  put_interface : InterfaceCanBeSpelled (plain_interface i) → (interface 2).fits i
  unfolding interface constants named_types
  put_interface h =
      let once = subst NoneTwice (all_names i) h.distinct in
      let a = fresh_append [] seen (constant_names i.constants ++ type_names i.types) (fresh [] (names_in i) once) in
      let b = fresh_append seen (constant_names i.constants) (type_names i.types) a.1 in
      let few : length (map plain_constant i.constants) < 4294967296 = h.constant_count in
      let few_types : length (map plain_name i.types) < 4294967296 = h.type_count in (
        (faces_fit i.face).0 h.face,
        (
          (
            (omega (arith, few, length-map i.constants plain_constant), le-leb 0 (length i.constants) (omega arith)),
            (
              refl,
              each_fits (constant 2) constant_name FineConstant constant_names constants_grow seen put_constant [] i.constants (each_constant i.constants h.constants)
                  (subst (λ xs. Fresh xs (constant_names i.constants)) (sym (append-nil seen)) b.0),
            ),
          ),
          (
            (omega (arith, few_types, length-map i.types plain_name), le-leb 0 (length i.types) (omega arith)),
            (
              refl,
              each_fits (named_type 2) type_name FineType type_names types_grow known put_type [] i.types (each_type i.types h.types)
                  (subst (λ xs. Fresh xs (type_names i.types)) (sym (append-nil known)) b.1),
            ),
          ),
        ),
      )

  got_interface : (interface 2).fits i → InterfaceCanBeSpelled (plain_interface i)
  unfolding interface constants named_types
  got_interface h =
      let f = (faces_fit i.face).1 h.0 in
      let c = each_fine (constant 2) constant_name FineConstant constant_names constants_grow seen got_constant [] i.constants h.1.0.1.1 in
      let t = each_fine (named_type 2) type_name FineType type_names types_grow known got_type [] i.types h.1.1.1.1 in
      let few : length i.constants < 4294967296 = h.1.0.0.0 in
      let few_types : length i.types < 4294967296 = h.1.1.0.0 in
      let more = append_fresh seen (constant_names i.constants) (type_names i.types)
      (subst (λ xs. Fresh xs (constant_names i.constants)) (append-nil seen) c.1) (subst (λ xs. Fresh xs (type_names i.types)) (append-nil known) t.1) in
      record {
        face = f;
        constant_count = omega (arith, few, length-map i.constants plain_constant);
        constants = constant_each i.constants c.0;
        type_count = omega (arith, few_types, length-map i.types plain_name);
        types = type_each i.types t.0;
        distinct = subst NoneTwice (sym (all_names i)) (together seen (constant_names i.constants ++ type_names i.types) (subst NoneTwice (names_same i.face.items) f.distinct) more);
      }

pub interfaces_fit : InterfacesFit
interfaces_fit i = (put_interface i, got_interface i)

pub faces_of_interfaces_fit : FacesOfInterfacesFit
unfolding interface
faces_of_interfaces_fit version i h = h.0

pub built_in_fits : BuiltInFits
built_in_fits = (interfaces_fit iodefs).0 built_in_can_be_spelled
