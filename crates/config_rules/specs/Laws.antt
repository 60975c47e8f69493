-- What is so of each tree.
use Rattle.std.specs.Prelude.{◌≡◌, ◌↔◌, ◌⊎◌, ℕ, List, [], ◌∷◌, map, filter, false, Some, None, Ok}
use Rattle.mesa_types.specs.declared.faces.Face.{Face}
use Rattle.cmesa_grammar.specs.Syntax.{Configuration}
use Rattle.config_rules.specs.declared.tree.Tree.{Tree}
use Rattle.config_rules.specs.Through.{Module}
use Rattle.config_rules.specs.Tree.{made}
use Rattle.config_rules.specs.Exporters.{Spot, Outlet, exporters}
use Rattle.config_rules.specs.Resolves.{looked_up, under, resolved, is_bad}
use Rattle.config_rules.specs.Outgoing.{outgoing, entries_for, exporters_in, visible}
use Rattle.config_rules.specs.InOrder.{IsInward, TreeIn}

abbrev pub TreesAreInOrder : Type 0
TreesAreInOrder = (modules : List Module) (c : Configuration) (t : Tree) → made modules c ≡ Ok t → TreeIn (map (λ (m : Module). m.shape) modules) t

-- exactly one exporter that is visible at the record where it is looked up, under the same interface name and stamp
abbrev pub HasOneExporter : Tree → Spot → Face → List ℕ → Type 0
HasOneExporter t b face name = (o : Outlet) × (filter (under face) (exporters t b name) ≡ o ∷ [])

-- it passes the outermost scope, or has exactly one exporter
abbrev pub Binds : Tree → Spot → Face → List ℕ → Type 0
Binds t a face name = (looked_up t a ≡ None) ⊎ ((b : Spot) × (looked_up t a ≡ Some b) × HasOneExporter t b face name)

abbrev pub ItemsBind : Type 0
ItemsBind = (t : Tree) (a : Spot) (face : Face) (name : List ℕ) → (is_bad (resolved t a face name) ≡ false) ↔ Binds t a face name

-- the exporters of an item to a record of a scope are the entries of that scope and record whose export gives the item, in that order
abbrev pub EntriesAreExporters : Type 0
EntriesAreExporters = (t : Tree) → IsInward t → (a : Spot) (name : List ℕ) → exporters_in (entries_for t a name (outgoing t)) ≡ visible t a name
