-- The index from records and items to their exporters: one mention after the other is put into it.
use Rattle.std.specs.Prelude.{List, [], ◌∷◌, ◌++◌, flat_map, Option, Some, None, slice_get, if◌then◌else◌}
use Rattle.mesa_types.specs.declared.faces.Export.{Export}
use Rattle.mesa_types.specs.declared.faces.Face.{Face}
use Rattle.mesa_types.specs.declared.faces.Item.{Item}
use Rattle.mesa_types.specs.declared.faces.Pair.{Pair}
use Rattle.config_rules.specs.declared.tree.Exporter.{Exporter}
use Rattle.config_rules.specs.declared.tree.Outgoing.{Outgoing}
use Rattle.config_rules.specs.declared.tree.Tree.{Tree}
use Rattle.config_rules.specs.Outgoing.{export_of}
use Rattle.import_binder.specs.declared.key.ExporterKey.{ExporterKey}
use Rattle.import_binder.specs.Keys.{same_key}

abbrev pub Entries : Type 0
Entries = List (ExporterKey × List Exporter)

-- behind those of the key; a new key goes last
abbrev pub put : Entries → ExporterKey → Exporter → Entries
put [] k e = (k, e ∷ []) ∷ []
put (x ∷ xs) k e = if same_key k x.0 then (x.0, x.1 ++ e ∷ []) ∷ xs else x ∷ put xs k e

-- that a record and the name of an item have an exporter
pub record Mention : Type 0 where
  pub key : ExporterKey
  pub exporter : Exporter

-- one after the other
abbrev pub indexed : Entries → List Mention → Entries
indexed done [] = done
indexed done (m ∷ ms) = indexed (put done m.key m.exporter) ms

abbrev pub mention : Outgoing → Option Item → List Mention
mention g None = []
mention g (Some i) = record { key = record { scope = g.scope; record_name = g.record_name; item = i.name }; exporter = g.exporter } ∷ []

-- an export reaches a scope with each item that it gives
abbrev pub mentions_of : Outgoing → Face → List Pair → List Mention
mentions_of g face given = flat_map (λ (p : Pair). mention g (slice_get face.items p.item)) given

abbrev pub mentions_by : Outgoing → Option Export → List Mention
mentions_by g None = []
mentions_by g (Some x) = mentions_of g x.face x.given

-- in the order of where exports go, and for each of them in the order of what it gives
abbrev pub mentions_in : Tree → List Outgoing → List Mention
mentions_in t gs = flat_map (λ (g : Outgoing). mentions_by g (export_of t g.exporter)) gs

-- the exporters under a key; none where it is not there
abbrev pub listed_under : ExporterKey → Entries → List Exporter
listed_under k [] = []
listed_under k (x ∷ xs) = if same_key k x.0 then x.1 else listed_under k xs
