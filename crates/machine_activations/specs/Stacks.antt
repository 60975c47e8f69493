-- What is said of the parts of a stack of activations, said of the stack (rule of this project).
use Rattle.std.specs.Prelude.{◌≡◌, ℕ, ◌≤◌, List, vec_capacity}
use Rattle.machine_activations.specs.declared.calling.Sequel.{Sequel}
use Rattle.machine_activations.specs.declared.row.Layout.{Layout}
use Rattle.machine_activations.specs.declared.row.Row.{Row}
use Rattle.machine_activations.specs.declared.stack.Stack.{Stack}
use Rattle.machine_activations.specs.Calling.{IsAmpleFor}
use Rattle.machine_activations.specs.Shows.{IsAmple, IsReserved}

-- what is said of a layout, a region and the rows
abbrev pub on : {A : Type 1} → Stack → (Layout → List ℕ → List Row → A) → A
on s said = said s.layout s.region.items s.rows.items

-- it has the parts of the places up to the topmost one, memory for a part for as many activations as may be, and a row for each
pub record HasRoom (s : Stack) (top : ℕ) : Type 0 where
  pub ample : on s IsAmple top
  pub reserved : IsReserved s.layout (vec_capacity s.region)

-- it has so too with what comes next, and its places lie where they did
pub record KeepsRoom (s s' : Stack) (sequel : Sequel) : Type 0 where
  pub ample : on s' IsAmpleFor sequel
  pub same_layout : s'.layout ≡ s.layout
  pub reserved : vec_capacity s.region ≤ vec_capacity s'.region

-- what runs on top changes the words of the region alone
pub record KeepsRows (s s' : Stack) : Type 0 where
  pub rows : s'.rows ≡ s.rows
  pub same_layout : s'.layout ≡ s.layout
  pub reserved : vec_capacity s.region ≤ vec_capacity s'.region
