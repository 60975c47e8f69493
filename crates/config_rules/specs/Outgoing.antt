-- Where exports go: what the code keeps, so that it finds exporters without going through all exports (a rule of this project).
use Rattle.std.specs.Prelude.{ℕ, Bool, false, ◌&&◌, List, map, filter, flat_map, Option, Some, None, slice_get}
use Rattle.mesa_types.specs.declared.faces.Export.{Export}
use Rattle.config_rules.specs.declared.tree.Exporter.{Exporter}
use Rattle.config_rules.specs.declared.tree.Outgoing.{Outgoing}
use Rattle.config_rules.specs.declared.tree.Tree.{Tree}
use Rattle.config_rules.specs.declared.tree.TreeInstance.{TreeInstance}
use Rattle.config_rules.specs.Exporters.{Spot, same_spot, Outlet, outlets, reached, is_given, exporters}

abbrev pub outgoing_at : Outlet → Spot → Outgoing
outgoing_at o b = record { scope = b.scope; record_name = b.record_name; exporter = o.exporter }

abbrev pub entries_of : Tree → List Outlet → List Outgoing
entries_of t os = flat_map (λ (o : Outlet). map (outgoing_at o) (reached t o.from)) os

-- in tree order of the instances and then of their exports, one entry for each scope that an export reaches, the innermost first
abbrev pub outgoing : Tree → List Outgoing
outgoing t = entries_of t (outlets t)

abbrev pub spot_of : Outgoing → Spot
spot_of g = record { scope = g.scope; record_name = g.record_name }

abbrev pub export_in : Option TreeInstance → ℕ → Option Export
export_in None n = None
export_in (Some x) n = slice_get x.shape.exports n

abbrev pub export_of : Tree → Exporter → Option Export
export_of t e = export_in (slice_get t.instances e.instance) e.export

abbrev pub gives_by : List ℕ → Option Export → Bool
gives_by name None = false
gives_by name (Some x) = is_given name x.face x.given

abbrev pub gives : Tree → List ℕ → Exporter → Bool
gives t name e = gives_by name (export_of t e)

-- the entries of a scope and record whose export gives the item
abbrev pub entries_for : Tree → Spot → List ℕ → List Outgoing → List Outgoing
entries_for t a name gs = filter (λ (g : Outgoing). same_spot a (spot_of g) && gives t name g.exporter) gs

abbrev pub exporters_in : List Outgoing → List Exporter
exporters_in gs = map (λ (g : Outgoing). g.exporter) gs

abbrev pub visible : Tree → Spot → List ℕ → List Exporter
visible t a name = map (λ (o : Outlet). o.exporter) (exporters t a name)
