-- A text that is compiled for one purpose comes to one thing, and what it comes to can be translated and written to a file.
use Rattle.std.specs.Prelude.{◌≡◌, ◌≤◌, ℕ, List, map, Err}
use Rattle.mesa_base.specs.declared.limits.TheConstants.{TREE_NODES}
use Rattle.syntax_trees.specs.declared.syntax.Module.{Module}
use Rattle.mesa_types.specs.Nodes.{nodes}
use Rattle.mesa_types.specs.Sound.{Sound}
use Rattle.mesa_types.specs.Typed as t
use Rattle.interface_records.specs.declared.interface.Interface as records
use Rattle.interface_records.specs.PlainTypes.{plain_interface}
use Rattle.interface_records.specs.Spelled.{InSixBytes, InterfaceCanBeSpelled, InterfacesCanBeSpelled, ShapeCanBeSpelled}
use Rattle.syntax_trees.specs.Syntax as s
use Rattle.check_rules.specs.Laws.{NamedThroughout, shape_of}
use Rattle.check_rules.specs.Steps.{Fault}
use Rattle.written_trees.specs.Laws.{IsTreeOf}
use Rattle.checking_laws.specs.UsedItems.{used_items}
use Rattle.config_rules.specs.InOrder.{ShapeInOrder}
use Rattle.checked_texts.specs.Asked.{Purpose, Program, Interface, fits}
use Rattle.checked_texts.specs.TextFaults.{TextFault}
use Rattle.checked_texts.specs.Texts.{HasNoTree, HasEarlyFault, Begins, Reads, Defines, IsRefused, HasCheckFault}

-- one tree, or one reason why there is none
pub record TextsHaveOneTree : Type 0 where
  pub one_tree : (text : List ℕ) (x y : Module) → IsTreeOf text x → IsTreeOf text y → x ≡ y
  pub one_fault : (text : List ℕ) (f g : TextFault) → HasNoTree text f → HasNoTree text g → f ≡ g
  pub never_both : (text : List ℕ) (x : Module) (f : TextFault) → IsTreeOf text x → HasNoTree text f → ⊥

-- before any interface is read: one tree that may be checked, or one fault
pub record TextsBeginOnce : Type 0 where
  pub one_tree : (text : List ℕ) (purpose : Purpose) (x y : Module) → Begins text purpose x → Begins text purpose y → x ≡ y
  pub one_fault : (text : List ℕ) (purpose : Purpose) (f g : TextFault) → HasEarlyFault text purpose f → HasEarlyFault text purpose g → f ≡ g
  pub never_both : (text : List ℕ) (purpose : Purpose) (x : Module) (f : TextFault) → Begins text purpose x → HasEarlyFault text purpose f → ⊥

-- with one list of interfaces: one module of a program, or one fault
pub record ProgramsComeToOne : Type 0 where
  pub one_module : (text : List ℕ) (is : List records.Interface) (m n : t.Module) → Reads text is m → Reads text is n → m ≡ n
  pub one_fault : (text : List ℕ) (is : List records.Interface) (f g : TextFault) → HasCheckFault text Program is f → HasCheckFault text Program is g → f ≡ g
  pub never_both : (text : List ℕ) (is : List records.Interface) (m : t.Module) (f : TextFault) → Reads text is m → HasCheckFault text Program is f → ⊥

-- one interface of definitions, or one fault
pub record DefinitionsComeToOne : Type 0 where
  pub one_interface : (text : List ℕ) (stamp : ℕ) (is : List records.Interface) (i j : records.Interface) → Defines text stamp is i → Defines text stamp is j → i ≡ j
  pub one_fault : (text : List ℕ) (stamp : ℕ) (is : List records.Interface) (f g : TextFault) → HasCheckFault text (Interface stamp) is f
      → HasCheckFault text (Interface stamp) is g → f ≡ g
  pub never_both : (text : List ℕ) (stamp : ℕ) (is : List records.Interface) (i : records.Interface) (f : TextFault) → Defines text stamp is i
      → HasCheckFault text (Interface stamp) is f → ⊥

-- a text with an early fault is not checked, and none is both a program and definitions, whatever the interfaces are
pub record FaultsComeInOrder : Type 0 where
  pub not_read : (text : List ℕ) (is : List records.Interface) (m : t.Module) (f : TextFault) → HasEarlyFault text Program f → Reads text is m → ⊥
  pub not_defined : (text : List ℕ) (stamp : ℕ) (is : List records.Interface) (i : records.Interface) (f : TextFault) → HasEarlyFault text (Interface stamp) f
      → Defines text stamp is i → ⊥
  pub not_refused : (text : List ℕ) (purpose : Purpose) (is : List records.Interface) (f g : TextFault) → HasEarlyFault text purpose f
      → HasCheckFault text purpose is g → ⊥
  pub one_kind : (text : List ℕ) (stamp : ℕ) (is js : List records.Interface) (m : t.Module) (i : records.Interface) → Reads text is m
      → Defines text stamp js i → ⊥

-- what is refused for its stamp, checking refuses too, with whatever interfaces: they need not be read
abbrev pub StampsNeedNoInterface : Type 0
StampsNeedNoInterface = (purpose : Purpose) (m : s.Module) (is : List records.Interface) (fault : Fault) → fits purpose m.kind ≡ Err fault
    → IsRefused purpose m is fault

-- a module that can be translated, whose object files can spell, and from which the tree of a configuration can be made
pub record CanBeKept (m : t.Module) : Type 0 where
  pub sound : Sound m
  pub few : nodes m ≤ TREE_NODES
  pub few_items : used_items m.imports ≤ nodes m
  pub shape : ShapeCanBeSpelled (shape_of m)
  pub named : NamedThroughout m
  pub in_order : ShapeInOrder (shape_of m)

-- the module of a text is such, where files can spell the interfaces given, as they can those that were read from them
abbrev pub ReadModulesCanBeKept : Type 0
ReadModulesCanBeKept = (text : List ℕ) (is : List records.Interface) (m : t.Module) → InterfacesCanBeSpelled (map plain_interface is) → Reads text is m
    → CanBeKept m

-- and they can spell the interface of a text, under a stamp of six bytes
abbrev pub DefinedInterfacesCanBeSpelled : Type 0
DefinedInterfacesCanBeSpelled = (text : List ℕ) (stamp : ℕ) (is : List records.Interface) (i : records.Interface) → InSixBytes stamp
    → InterfacesCanBeSpelled (map plain_interface is) → Defines text stamp is i → InterfaceCanBeSpelled (plain_interface i)
