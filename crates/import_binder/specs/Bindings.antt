-- What links stand for, and how the first bad item of a tree is answered.
use Rattle.std.specs.Prelude.{◌≡◌, ◌⊎◌, ℕ, List, [], ◌∷◌, ◌++◌, map, flat_map, Option, Some, None, slice_get}
use Rattle.interface_records.specs.declared.wanted.WantedItem.{WantedItem}
use Rattle.mesa_types.specs.declared.faces.Face.{Face}
use Rattle.mesa_types.specs.declared.faces.Import.{Import}
use Rattle.mesa_types.specs.declared.faces.Item.{Item}
use Rattle.config_rules.specs.declared.tree.Tree.{Tree}
use Rattle.config_rules.specs.declared.tree.TreeInstance.{TreeInstance}
use Rattle.config_rules.specs.Exporters.{Spot}
use Rattle.config_rules.specs.Resolves.{Resolution, Want, resolved_at, want, wants, first_bad}
use Rattle.config_rules.specs.Resolves as rules
use Rattle.config_rules.specs.Bindings.{bindings_of}
use Rattle.config_rules.specs.declared.tree.Binding.{Binding}
use Rattle.config_rules.specs.declared.tree.Binding.TheVariants.{Left, To}
use Rattle.import_binder.specs.declared.bindings.Bindings.{Bindings}
use Rattle.import_binder.specs.declared.fault.BindFault.{BindFault}
use Rattle.import_binder.specs.declared.fault.BindFault.TheVariants.{NoExporter, Twice, OtherInterface, OtherStamp, Memory}
use Rattle.import_binder.specs.Exporting.{HoldsExporters}

-- what a link stands for
unfoldable pub meant : Binding → Resolution
meant Left = rules.Left
meant (To j n) = rules.Bound j n

abbrev pub all_meant : List Binding → List Resolution
all_meant bs = map meant bs

abbrev pub answers : List Want → List Resolution
answers ws = map (λ (w : Want). w.answer) ws

unfoldable pub path_in : Option TreeInstance → List (List ℕ)
path_in None = []
path_in (Some x) = x.path

abbrev pub path_of : Tree → ℕ → List (List ℕ)
path_of t j = path_in (slice_get t.instances j)

-- an item as a fault names it
abbrev pub item_named : List (List ℕ) → Face → Item → WantedItem
item_named path face i = record { at = path; face = face.name; stamp = face.stamp; item = i.name }

-- what is answered of an item that is bad, with the exporters' paths or with the stamps that are wanted and found. (An item that is not
-- bad has no fault: what stands for it here is never answered.)
unfoldable pub fault_by : Tree → WantedItem → Resolution → BindFault
fault_by t i rules.Left = Memory
fault_by t i (rules.Bound j n) = Memory
fault_by t i rules.NoExporter = NoExporter i
fault_by t i (rules.Twice j k) = Twice i (path_of t j) (path_of t k)
fault_by t i (rules.OtherInterface j) = OtherInterface i (path_of t j)
fault_by t i (rules.OtherStamp s) = OtherStamp i i.stamp s

abbrev pub fault_of : Tree → Want → BindFault
fault_of t w = fault_by t (item_named w.path w.face w.item) w.answer

-- the fault is that of the first bad one of these, or memory ran out
abbrev pub IsRefused : Tree → List Want → BindFault → Type 0
IsRefused t ws fault = (fault ≡ Memory) ⊎ ((w : Want) × (first_bad ws ≡ Some w) × (fault ≡ fault_of t w))

-- the links are what these stand for, and none of these is bad
pub record AreLinks (ws : List Want) (links : List Binding) : Type 0 where
  pub links_are : all_meant links ≡ answers ws
  pub none_bad : first_bad ws ≡ None

-- for each instance its links, in order; none is bad; and the index of exporters
pub record AreBindings (t : Tree) (b : Bindings) : Type 0 where
  pub none_bad : first_bad (wants t) ≡ None
  pub links_are : b.links ≡ bindings_of t
  pub exporters_are : HoldsExporters t b.exporters.entries

-- ---- the parts that the code makes one at a time

-- links of these were put behind others
pub record Puts (old new : List Binding) (ws : List Want) : Type 0 where
  pub links_are : all_meant new ≡ all_meant old ++ answers ws
  pub none_bad : first_bad ws ≡ None

-- an item of an import that is looked up there
unfoldable pub want_at : Tree → TreeInstance → Face → Option Spot → Option Item → List Want
want_at t x face source None = []
want_at t x face source (Some i) = record { path = x.path; face = face; item = i; answer = resolved_at t face i.name source } ∷ []

-- an import, with its record
unfoldable pub wants_at : Tree → TreeInstance → Option (List ℕ) → Option Import → List Want
wants_at t x None m = []
wants_at t x (Some r) None = []
wants_at t x (Some r) (Some m) = flat_map (λ n. want t x r m.face (slice_get m.face.items n)) m.used
