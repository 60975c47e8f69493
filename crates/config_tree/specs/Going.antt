-- Where one export goes, one instance after the other: the parts of `outgoing` that the code makes one at a time.
use Rattle.std.specs.Prelude.{ℕ, List, [], ◌∷◌, map, Option, Some, None}
use Rattle.mesa_types.specs.declared.faces.Export.{Export}
use Rattle.config_rules.specs.declared.tree.Exporter.{Exporter}
use Rattle.config_rules.specs.declared.tree.Outgoing.{Outgoing}
use Rattle.config_rules.specs.declared.tree.Tree.{Tree}
use Rattle.config_rules.specs.declared.tree.TreeInstance.{TreeInstance}
use Rattle.config_rules.specs.Exporters.{Spot, Step, Stays, Goes, Leaves, step, reach, Outlet, outlets_of}
use Rattle.config_rules.specs.Outgoing.{spot_of}
use Rattle.config_tree.specs.Outward.{exported}

abbrev pub entry_at : Exporter → Spot → Outgoing
entry_at e b = record { scope = b.scope; record_name = b.record_name; exporter = e }

-- a step outward from the scope and record of an entry
abbrev pub step_of : Tree → Outgoing → Step
step_of t g = step exported t (spot_of g)

abbrev pub next_of : Exporter → Step → Option Outgoing
next_of e Stays = None
next_of e (Goes b) = Some (entry_at e b)
next_of e Leaves = None

-- the entry, and those of the scopes that the export reaches outside it
abbrev pub entries_from : (most : ℕ) → Tree → Outgoing → List Outgoing
entries_from most t g = map (entry_at g.exporter) (reach most t (spot_of g))

-- the export of this number, with its record
abbrev pub outlet_at : (instance number scope : ℕ) → Option (List ℕ) → Option Export → List Outlet
outlet_at i n s None x = []
outlet_at i n s (Some r) None = []
outlet_at i n s (Some r) (Some x) =
    record { exporter = record { instance = i; export = n }; from = record { scope = s; record_name = r }; gives = x } ∷ []

-- those of the instance of this number
abbrev pub outlets_at : (instance : ℕ) → Option TreeInstance → List Outlet
outlets_at i None = []
outlets_at i (Some x) = outlets_of i 0 x.scope x.exports x.shape.exports
