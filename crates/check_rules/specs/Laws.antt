-- The laws of checking.
use Rattle.std.specs.Prelude.{◌≡◌, ℕ, ◌*◌, ◌≤◌, ◌⊎◌, true, false, is_some, List, [], ◌∷◌, ◌++◌, length, map, Ok, Err, IfOk, IfErr}
use Rattle.std.specs.List.{All, Contains}
use Rattle.mesa_base.specs.Name.{IsName}
use Rattle.mesa_base.specs.declared.limits.TheConstants.{TEXT_BYTES}
use Rattle.mesa_base.specs.declared.place.Place.{Place}
use Rattle.syntax_trees.specs.Syntax as s
use Rattle.mesa_types.specs.Nodes.{nodes}
use Rattle.syntax_trees.specs.SyntaxNodes.{module_nodes}
use Rattle.mesa_types.specs.declared.faces.Import.{Import}
use Rattle.mesa_types.specs.declared.faces.Export.{Export}
use Rattle.mesa_types.specs.declared.faces.Face.{Face}
use Rattle.mesa_types.specs.declared.faces.Shape.{Shape}
use Rattle.mesa_types.specs.declared.faces.Item.{Item}
use Rattle.mesa_types.specs.declared.faces.ItemKind.{ItemKind}
use Rattle.mesa_types.specs.declared.faces.ItemKind.TheVariants.{Error}
use Rattle.mesa_types.specs.declared.types.FieldType.{FieldType}
use Rattle.mesa_base.specs.declared.identifier.Identifier.{Identifier}
use Rattle.interface_records.specs.declared.interface.Interface.{Interface}
use Rattle.interface_records.specs.declared.interface.Constant.{Constant}
use Rattle.interface_records.specs.declared.interface.NamedType.{NamedType}
use Rattle.check_rules.specs.Typed as t
use Rattle.mesa_types.specs.Sound.{Sound}
use Rattle.check_rules.specs.Interfaces.{InterfaceInOrder, InterfacesInOrder}
use Rattle.interface_records.specs.Lists.{Ascend, NoneTwice}
use Rattle.interface_records.specs.Spelled.{InSixBytes, InterfaceCanBeSpelled, InterfacesCanBeSpelled, ShapeCanBeSpelled, item_numbers, with_name}
use Rattle.check_rules.specs.TreeNames.{HasNames}
use Rattle.check_rules.specs.Written.{ModuleWritten}
use Rattle.check_rules.specs.Steps.{Checked, Fault, refuse}
use Rattle.check_rules.specs.declared.fault.Cause.TheVariants.{StampMissing, StampUnwanted}
use Rattle.check_rules.specs.CheckedModule.{checked, checked_definitions}
use Rattle.interface_records.specs.PlainTypes.{PlainInterface, plain_interface}
use Rattle.check_rules.specs.Limits.{InterfaceKeepsLimits, InterfacesKeepLimits}
use Rattle.check_rules.specs.Parts.{names_of}
use Rattle.check_rules.specs.Places.{places_in}

-- a value or a fault, one of them and one alone
pub record ComesToOne {A : Type 0} (r : Checked A) : Type 0 where
  pub some : ((a : A) × (r ≡ Ok a)) ⊎ ((f : Fault) × (r ≡ Err f))
  pub one_value : (a b : A) → r ≡ Ok a → r ≡ Ok b → a ≡ b
  pub one_fault : (f g : Fault) → r ≡ Err f → r ≡ Err g → f ≡ g
  pub not_both : (a : A) (f : Fault) → r ≡ Ok a → r ≡ Err f → ⊥

-- each text has exactly one result: a typed module or an interface, or its first fault
pub record EachTextHasOneResult : Type 0 where
  pub programs : (m : s.Module) (is : List Interface) → ComesToOne (checked m is)
  pub definitions : (m : s.Module) (stamp : ℕ) (is : List Interface) → ComesToOne (checked_definitions m stamp is)

unfoldable pub ImportsInOrder : List Import → Type 0
ImportsInOrder [] = Unit {0}
ImportsInOrder (i ∷ is) = Ascend 0 (length i.face.items) i.used × ImportsInOrder is

unfoldable pub ExportsInOrder : List Export → Type 0
ExportsInOrder [] = Unit {0}
ExportsInOrder (e ∷ es) = Ascend 0 (length e.face.items) (item_numbers e.given) × ExportsInOrder es

-- the numbers of used and of given items ascend, and are those of items of their face
pub record ShapesAreInOrder : Type 0 where
  pub imports : (m : s.Module) (is : List Interface) → IfOk (checked m is) (λ (x : t.Module). ImportsInOrder x.imports)
  pub exports : (m : s.Module) (is : List Interface) → IfOk (checked m is) (λ (x : t.Module). ExportsInOrder x.exports)

-- a typed tree has at most two nodes for each node of its syntax tree
abbrev pub TypedTreesHaveFewNodes : Type 0
TypedTreesHaveFewNodes = (m : s.Module) (is : List Interface) → IfOk (checked m is) (λ (x : t.Module). nodes x ≤ 2 * module_nodes m)

-- a fault is named at a place that stands in the tree
pub record FaultsStandInTheText : Type 0 where
  pub programs : (m : s.Module) (is : List Interface) → IfErr (checked m is) (λ (f : Fault). Contains (places_in m) f.place)
  pub definitions : (m : s.Module) (stamp : ℕ) (is : List Interface)
      → IfErr (checked_definitions m stamp is) (λ (f : Fault). Contains (places_in m) f.place)

abbrev pub names_of_interface : Interface → List (List ℕ)
names_of_interface i =
    map (λ (x : Item). x.name) i.face.items ++ (map (λ (c : Constant). c.name) i.constants ++ map (λ (x : NamedType). x.name) i.types)

-- no two items, constants and types of an interface have one name
abbrev pub NamesStandOnce : Type 0
NamesStandOnce = (m : s.Module) (stamp : ℕ) (is : List Interface)
    → IfOk (checked_definitions m stamp is) (λ (i : Interface). NoneTwice (names_of_interface i))

abbrev pub faces : List Interface → List Face
faces = map (λ (i : Interface). i.face)

-- a module has the name of its text, and the faces of its imports and exports are faces of the interfaces given to it
pub record ShapesAreGiven : Type 0 where
  pub name : (m : s.Module) (is : List Interface) → IfOk (checked m is) (λ (x : t.Module). x.name ≡ m.name.name)
  pub imports : (m : s.Module) (is : List Interface)
      → IfOk (checked m is) (λ (x : t.Module). All (λ (i : Import). Contains (faces is) i.face) x.imports)
  pub exports : (m : s.Module) (is : List Interface)
      → IfOk (checked m is) (λ (x : t.Module). All (λ (e : Export). Contains (faces is) e.face) x.exports)

-- the names that a module of definitions declares, in the order of the text: of items, of constants, of types
abbrev pub item_names : List Identifier → s.Defined → List (List ℕ)
item_names xs (s.ProcedureItem h) = names_of xs
item_names xs (s.SignalItem h) = names_of xs
item_names xs (s.ErrorItem takes) = names_of xs
item_names xs _ = []

abbrev pub constant_names : List Identifier → s.Defined → List (List ℕ)
constant_names xs (s.ConstantItem e x) = names_of xs
constant_names xs _ = []

abbrev pub type_names : List Identifier → s.Defined → List (List ℕ)
type_names xs (s.TypeItem e) = names_of xs
type_names xs _ = []

unfoldable pub each_declares : (List Identifier → s.Defined → List (List ℕ)) → List s.Definition → List (List ℕ)
each_declares names [] = []
each_declares names (d ∷ ds) = names d.names d.defined ++ each_declares names ds

abbrev pub definitions_of : s.ModuleKind → List s.Definition
definitions_of (s.Program p imports exports opens inner) = []
definitions_of (s.Interface p opens defs) = defs

-- an interface has the name of its module, the stamp, and the names that the text declares
pub record IsOfItsText (m : s.Module) (stamp : ℕ) (i : Interface) : Type 0 where
  pub name : i.face.name ≡ m.name.name
  pub stamped : i.face.stamp ≡ stamp
  pub items : map (λ (x : Item). x.name) i.face.items ≡ each_declares item_names (definitions_of m.kind)
  pub constants : map (λ (c : Constant). c.name) i.constants ≡ each_declares constant_names (definitions_of m.kind)
  pub types : map (λ (x : NamedType). x.name) i.types ≡ each_declares type_names (definitions_of m.kind)

abbrev pub InterfacesAreOfTheirText : Type 0
InterfacesAreOfTheirText = (m : s.Module) (stamp : ℕ) (is : List Interface) → IfOk (checked_definitions m stamp is) (IsOfItsText m stamp)

-- fields that all have a name, and fields of which none has one
unfoldable pub AllNamed : List FieldType → Type 0
AllNamed [] = Unit {0}
AllNamed (f ∷ fs) = (is_some f.name ≡ true) × AllNamed fs

unfoldable pub NoneNamed : List FieldType → Type 0
NoneNamed [] = Unit {0}
NoneNamed (f ∷ fs) = (is_some f.name ≡ false) × NoneNamed fs

unfoldable pub names_of_fields : List FieldType → List (List ℕ)
names_of_fields [] = []
names_of_fields (f ∷ fs) = with_name f.name (names_of_fields fs)

abbrev pub GivesNothing : ItemKind → List FieldType → Type 0
GivesNothing Error gives = gives ≡ []
GivesNothing _ gives = Unit {0}

-- the parameters of an item all have names or none has one, and its results; none stands twice; an error gives nothing
pub record HeadIsInForm (i : Item) : Type 0 where
  pub takes : AllNamed i.takes ⊎ NoneNamed i.takes
  pub gives : AllNamed i.gives ⊎ NoneNamed i.gives
  pub distinct : NoneTwice (names_of_fields i.takes ++ names_of_fields i.gives)
  pub error : GivesNothing i.kind i.gives

abbrev pub HeadsAreInForm : Type 0
HeadsAreInForm = (m : s.Module) (stamp : ℕ) (is : List Interface)
    → IfOk (checked_definitions m stamp is) (λ (i : Interface). All HeadIsInForm i.face.items)

-- the types of an interface keep their limits where those of the interfaces given do
abbrev pub TypesKeepTheirLimits : Type 0
TypesKeepTheirLimits = (m : s.Module) (stamp : ℕ) (is : List Interface) → InterfacesKeepLimits (map plain_interface is)
    → IfOk (checked_definitions m stamp is) (λ (i : Interface). InterfaceKeepsLimits (plain_interface i))

-- what checking gives of a program is sound: of a tree that is written as a text, with interfaces that are in order
abbrev pub CheckedModulesAreSound : Type 0
CheckedModulesAreSound = (m : s.Module) (is : List Interface) → ModuleWritten m.kind → InterfacesInOrder (map plain_interface is) → IfOk (checked m is) Sound

-- an interface that checking gives is in order: of a tree that is written as a text, with interfaces that are
abbrev pub CheckedInterfacesAreInOrder : Type 0
CheckedInterfacesAreInOrder = (m : s.Module) (stamp : ℕ) (is : List Interface) → ModuleWritten m.kind → InterfacesInOrder (map plain_interface is)
    → IfOk (checked_definitions m stamp is) (λ (i : Interface). InterfaceInOrder (plain_interface i))

-- at most two nodes for each byte that a text may have, as each tree of a text
abbrev pub IsOfTextSize : s.Module → Type 0
IsOfTextSize m = module_nodes m ≤ 2 * TEXT_BYTES

abbrev pub shape_of : t.Module → Shape
shape_of x = record { name = x.name; imports = x.imports; exports = x.exports }

-- files can spell the name, imports and exports of a checked module, where they can spell the interfaces given to it
abbrev pub ModulesCanBeSpelled : Type 0
ModulesCanBeSpelled = (m : s.Module) (is : List Interface) → HasNames m → IsOfTextSize m → InterfacesCanBeSpelled (map plain_interface is)
    → IfOk (checked m is) (λ (x : t.Module). ShapeCanBeSpelled (shape_of x))

-- and each interface that checking gives, of a tree that is written as a text
abbrev pub CheckedInterfacesCanBeSpelled : Type 0
CheckedInterfacesCanBeSpelled = (m : s.Module) (stamp : ℕ) (is : List Interface) → InSixBytes stamp → HasNames m → ModuleWritten m.kind → IsOfTextSize m
    → InterfacesCanBeSpelled (map plain_interface is)
    → IfOk (checked_definitions m stamp is) (λ (i : Interface). InterfaceCanBeSpelled (plain_interface i))

-- an interface that files can spell, as one that is read, is in order
abbrev pub SpelledInterfacesAreInOrder : Type 0
SpelledInterfacesAreInOrder = (i : PlainInterface) → InterfaceCanBeSpelled i → InterfaceInOrder i

-- the signals and procedures of a module have names
pub record NamedThroughout (x : t.Module) : Type 0 where
  pub signals : All (λ (i : Item). IsName i.name) x.signals
  pub procedures : All (λ (p : t.Procedure). IsName p.head.name) x.procedures

-- so it is with what checking gives of a tree that has names and is written as a text
abbrev pub CheckedModulesHaveNames : Type 0
CheckedModulesHaveNames = (m : s.Module) (is : List Interface) → HasNames m → ModuleWritten m.kind → IfOk (checked m is) NamedThroughout

-- a module of definitions, or a program, the word of its kind at this place
abbrev pub AreDefinitionsAt : s.ModuleKind → Place → Type 0
AreDefinitionsAt (s.Program q imports exports opens inner) p = ⊥
AreDefinitionsAt (s.Interface q opens defs) p = q ≡ p

abbrev pub IsProgramAt : s.ModuleKind → Place → Type 0
IsProgramAt (s.Program q imports exports opens inner) p = q ≡ p
IsProgramAt (s.Interface q opens defs) p = ⊥

-- definitions without a stamp, and a program under one, are refused at that word, whatever the stamp and the interfaces are
pub record StampsComeFirst : Type 0 where
  pub missing : (m : s.Module) (is : List Interface) (p : Place) → AreDefinitionsAt m.kind p → checked m is ≡ refuse StampMissing p
  pub unwanted : (m : s.Module) (stamp : ℕ) (is : List Interface) (p : Place) → IsProgramAt m.kind p
      → checked_definitions m stamp is ≡ refuse StampUnwanted p
