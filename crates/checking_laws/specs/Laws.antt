-- Laws of checking that its readers need: how many items a module uses, and which texts have a fault of the stamp.
use Rattle.std.specs.Prelude.{◌≡◌, ℕ, ◌+◌, ◌≤◌, ◌<◌, ◌↔◌, List, length, Err, IfOk}
use Rattle.syntax_trees.specs.Syntax as s
use Rattle.mesa_types.specs.Nodes.{nodes}
use Rattle.interface_records.specs.declared.interface.Interface.{Interface}
use Rattle.check_rules.specs.Typed as t
use Rattle.check_rules.specs.Steps.{Checked, Fault}
use Rattle.check_rules.specs.CheckedModule.{checked, checked_definitions}
use Rattle.check_rules.specs.declared.fault.Cause.{Cause}
use Rattle.check_rules.specs.declared.fault.Cause.TheVariants.{StampMissing, StampUnwanted}
use Rattle.checking_laws.specs.Sizes.{SizedBy}
use Rattle.checking_laws.specs.Weights.{one_each, kind_weight}
use Rattle.checking_laws.specs.UsedItems.{used_items}

-- a checked module uses fewer items of its imports than its typed tree has nodes: each use is a call, a raise or a label there
abbrev pub UsedItemsAreFew : Type 0
UsedItemsAreFew = (m : s.Module) (is : List Interface) → IfOk (checked m is) (λ (x : t.Module). used_items x.imports < nodes x)

-- each interface that it imports or exports, and each item that it uses, is named behind its DIRECTORY, each at a name of its own
abbrev pub UsedItemsAreNamed : Type 0
UsedItemsAreNamed = (m : s.Module) (is : List Interface)
    → IfOk (checked m is) (λ (x : t.Module). length x.imports + length x.exports + used_items x.imports ≤ kind_weight one_each m.kind)

-- a checked module is no larger than its text and the interfaces given to it
abbrev pub ModulesAreSizedByTheirText : Type 0
ModulesAreSizedByTheirText = (m : s.Module) (is : List Interface) → IfOk (checked m is) (SizedBy m is)

-- the result is a fault of this cause
abbrev pub HasCause : {A : Type 0} → Cause → Checked A → Type 0
HasCause cause r = (f : Fault) × (r ≡ Err f) × (f.cause ≡ cause)

abbrev pub AreDefinitions : s.ModuleKind → Type 0
AreDefinitions (s.Program p imports exports opens inner) = ⊥
AreDefinitions (s.Interface p opens defs) = Unit {0}

abbrev pub IsProgram : s.ModuleKind → Type 0
IsProgram (s.Program p imports exports opens inner) = Unit {0}
IsProgram (s.Interface p opens defs) = ⊥

-- A stamp is missing exactly where definitions have none, and unwanted exactly where a program has one: whatever the interfaces
-- are, and whatever else is wrong in the text.
pub record StampFaultsAreOfTheKind : Type 0 where
  -- of a text that has no stamp
  pub missing : (m : s.Module) (is : List Interface) → HasCause StampMissing (checked m is) ↔ AreDefinitions m.kind
  pub none_unwanted : (m : s.Module) (is : List Interface) → HasCause StampUnwanted (checked m is) → ⊥
  -- of a text under a stamp
  pub unwanted : (m : s.Module) (stamp : ℕ) (is : List Interface) → HasCause StampUnwanted (checked_definitions m stamp is) ↔ IsProgram m.kind
  pub none_missing : (m : s.Module) (stamp : ℕ) (is : List Interface) → HasCause StampMissing (checked_definitions m stamp is) → ⊥
