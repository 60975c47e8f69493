-- What is offered, in code: the exporters under each record of the outermost configuration.
use Rattle.std.specs.Prelude.{◌≡◌, ℕ, Bool, List, [], ◌∷◌, ◌++◌, map, filter, flat_map, unwrap_or, bytes_eq, if◌then◌else◌}
use Rattle.check_scopes.specs.Shows.{listed}
use Rattle.check_scopes.specs.declared.index.Index.{Index}
use Rattle.object_files.specs.declared.image.Offer.{Offer}
use Rattle.config_rules.specs.Exporters.{same_spot}
use Rattle.config_rules.specs.Outgoing.{spot_of, exporters_in}
use Rattle.config_rules.specs.declared.tree.Exporter.{Exporter}
use Rattle.config_rules.specs.declared.tree.Outgoing.{Outgoing}
use Rattle.config_rules.specs.declared.tree.RecordPair.{RecordPair}
use Rattle.link_tables.specs.Linked.{in_outermost}

-- those that the index has under the record
abbrev pub under : Index (List Exporter) → List ℕ → List Exporter
under index r = unwrap_or (listed index r) []

abbrev pub taken : Bool → Exporter → List Exporter
taken b e = if b then e ∷ [] else []

-- one more is under this record
abbrev pub TakesIn : (old new : Index (List Exporter)) → List ℕ → Exporter → Type 0
TakesIn old new name e = (r : List ℕ) → under new r ≡ under old r ++ taken (bytes_eq r name) e

-- it goes to this record of the outermost configuration
abbrev pub is_out : List ℕ → Outgoing → Bool
is_out r g = same_spot (in_outermost r) (spot_of g)

-- where it is one of the outermost configuration, its exporter more is under its record
abbrev pub TakesEntry : (old new : Index (List Exporter)) → Outgoing → Type 0
TakesEntry old new g = (r : List ℕ) → under new r ≡ under old r ++ taken (is_out r g) g.exporter

-- of these entries, the exporters to the record
abbrev pub exporters_out : List Outgoing → List ℕ → List Exporter
exporters_out gs r = exporters_in (filter (is_out r) gs)

-- the index has them under each record
abbrev pub Gathers : Index (List Exporter) → List Outgoing → Type 0
Gathers index gs = (r : List ℕ) → under index r ≡ exporters_out gs r

abbrev pub offer_by : (record_name : List ℕ) → Exporter → Offer
offer_by r e = record { name = r; instance = e.instance; export = e.export }

abbrev pub offers_under : (List ℕ → List Exporter) → RecordPair → List Offer
offers_under exporters r = map (offer_by r.inside) (exporters r.inside)

abbrev pub offers_by : (List ℕ → List Exporter) → List RecordPair → List Offer
offers_by exporters rs = flat_map (offers_under exporters) rs
