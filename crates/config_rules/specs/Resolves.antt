-- What an item that is used stands for, and the first that is bad (Language Manual, chapter 7; the faults are a rule of this project).
use Rattle.std.specs.Prelude.{ℕ, zero, suc, Bool, true, false, ◌&&◌, List, [], ◌∷◌, ◌++◌, filter, flat_map, nat_eq, bytes_eq, Option, Some, None, slice_get, if◌then◌else◌}
use Rattle.mesa_types.specs.declared.faces.Face.{Face}
use Rattle.mesa_types.specs.declared.faces.Import.{Import}
use Rattle.mesa_types.specs.declared.faces.Item.{Item}
use Rattle.mesa_types.specs.declared.faces.Pair.{Pair}
use Rattle.config_rules.specs.declared.tree.TreeInstance.{TreeInstance}
use Rattle.config_rules.specs.declared.tree.Tree.{Tree}
use Rattle.config_rules.specs.Exporters.{Spot, Step, Stays, Goes, Leaves, step, Outlet, is_named, exporters}

unfoldable pub from_outside : (here : Spot) → Step → (Spot → Option Spot) → Option Spot
from_outside a Stays f = Some a
from_outside a (Goes b) f = f b
from_outside a Leaves f = None

-- where an import is looked up: while the scope imports the record, outward; None past the outermost scope
unfoldable pub source : (most : ℕ) → Tree → Spot → Option Spot
source zero t a = Some a
source (suc n) t a = from_outside a (step (λ s. s.imports) t a) (λ b. source n t b)

abbrev pub looked_up : Tree → Spot → Option Spot
looked_up t a = source (suc a.scope) t a

pub data Resolution : Type 0 where
  -- to the loader
  Left : Resolution
  -- a procedure or signal of an instance
  Bound : (instance number : ℕ) → Resolution
  NoExporter : Resolution
  -- the first two exporters' instances
  Twice : (first second : ℕ) → Resolution
  -- the first exporter's instance
  OtherInterface : (instance : ℕ) → Resolution
  -- the first exporter's stamp
  OtherStamp : (found : ℕ) → Resolution

abbrev pub under : Face → Outlet → Bool
under face o = bytes_eq o.gives.face.name face.name && nat_eq o.gives.face.stamp face.stamp

-- the procedure or signal that is given for an item of this name
unfoldable pub given_for : List ℕ → Face → List Pair → ℕ
given_for name face [] = 0
given_for name face (p ∷ ps) = if is_named name (slice_get face.items p.item) then p.number else given_for name face ps

-- by the exporters of the item's name under the same interface name and stamp, and by all of them
unfoldable pub chosen : Face → List ℕ → (same all : List Outlet) → Resolution
chosen face name (o ∷ []) all = Bound o.exporter.instance (given_for name o.gives.face o.gives.given)
chosen face name (o ∷ p ∷ os) all = Twice o.exporter.instance p.exporter.instance
chosen face name [] (o ∷ os) = if bytes_eq o.gives.face.name face.name then OtherStamp o.gives.face.stamp else OtherInterface o.exporter.instance
chosen face name [] [] = NoExporter

abbrev pub among : Face → List ℕ → List Outlet → Resolution
among face name all = chosen face name (filter (under face) all) all

unfoldable pub resolved_at : Tree → Face → List ℕ → Option Spot → Resolution
resolved_at t face name None = Left
resolved_at t face name (Some a) = among face name (exporters t a name)

-- an item of this face, imported by the record of this scope
unfoldable pub resolved : Tree → Spot → Face → List ℕ → Resolution
resolved t a face name = resolved_at t face name (looked_up t a)

-- an item that an instance uses, with what it stands for
pub record Want : Type 0 where
  pub path : List (List ℕ)
  pub face : Face
  pub item : Item
  pub answer : Resolution

unfoldable pub want : Tree → TreeInstance → (record_name : List ℕ) → Face → Option Item → List Want
want t x r face None = []
want t x r face (Some i) =
    record { path = x.path; face = face; item = i; answer = resolved t (record { scope = x.scope; record_name = r }) face i.name } ∷ []

unfoldable pub wants_of : Tree → TreeInstance → List (List ℕ) → List Import → List Want
wants_of t x [] _ = []
wants_of t x _ [] = []
wants_of t x (r ∷ rs) (m ∷ ms) = flat_map (λ n. want t x r m.face (slice_get m.face.items n)) m.used ++ wants_of t x rs ms

-- imports in order, items in the interface's order: the links of the instance
abbrev pub wants_in : Tree → TreeInstance → List Want
wants_in t x = wants_of t x x.imports x.shape.imports

-- over the instances in tree order
abbrev pub wants : Tree → List Want
wants t = flat_map (wants_in t) t.instances

unfoldable pub is_bad : Resolution → Bool
is_bad Left = false
is_bad (Bound j n) = false
is_bad NoExporter = true
is_bad (Twice j k) = true
is_bad (OtherInterface j) = true
is_bad (OtherStamp s) = true

unfoldable pub first_bad : List Want → Option Want
first_bad [] = None
first_bad (w ∷ ws) = if is_bad w.answer then Some w else first_bad ws
