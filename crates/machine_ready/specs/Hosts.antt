-- The items that an image wants and the host has not (rule of this project).
pub use Rattle.interface_records.specs.Hosts.{SameItem, IsHostItem}
use Rattle.std.specs.Prelude.{◌≡◌, ℕ, List, [], take, All, Some, slice_get}
use Rattle.interface_records.specs.declared.wanted.Wanted.{Wanted}
use Rattle.interface_records.specs.declared.wanted.WantedItem.{WantedItem}
use Rattle.machine_ready.specs.declared.fault.ReadyFault.{ReadyFault}
use Rattle.machine_ready.specs.declared.fault.ReadyFault.TheVariants.{Unresolved, Memory}

-- as a fault names it
abbrev pub named : Wanted → WantedItem
named w = record { at = []; face = w.face; stamp = w.stamp; item = w.item.name }

-- the first of the wanted items that is none of the host's
pub record IsFirstUnresolved (wanteds : List Wanted) (fault : WantedItem) : Type 0 where
  pub number : ℕ
  pub wanted : Wanted
  pub is : slice_get wanteds number ≡ Some wanted
  pub none : IsHostItem wanted → ⊥
  pub before : All IsHostItem (take number wanteds)
  pub is_named : fault ≡ named wanted

-- of want of memory nothing is said
abbrev pub IsFault : List Wanted → ReadyFault → Type 0
IsFault wanteds (Unresolved item) = IsFirstUnresolved wanteds item
IsFault wanteds Memory = Unit {0}
