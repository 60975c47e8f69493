-- That an index holds exactly the exporters of a tree.
use Rattle.std.specs.Prelude.{◌≡◌, ◌↔◌, List, [], ◌∷◌, ◌++◌, map, Contains, if◌then◌else◌}
use Rattle.std.specs.List.{list_any, IsDistinct}
use Rattle.std.specs.Map.{keys_of}
use Rattle.config_rules.specs.declared.tree.Exporter.{Exporter}
use Rattle.config_rules.specs.declared.tree.Tree.{Tree}
use Rattle.config_rules.specs.Exporters.{Spot}
use Rattle.config_rules.specs.Outgoing.{outgoing, visible}
use Rattle.import_binder.specs.declared.key.ExporterKey.{ExporterKey}
use Rattle.import_binder.specs.Index.{Entries, Mention, mentions_in, listed_under}
use Rattle.import_binder.specs.Keys.{same_key}

abbrev pub spot_in : ExporterKey → Spot
spot_in k = record { scope = k.scope; record_name = k.record_name }

-- the exporters of the item of a key to its record, in tree order
abbrev pub visible_under : Tree → ExporterKey → List Exporter
visible_under t k = visible t (spot_in k) k.item

-- each key once, where it stands first
unfoldable pub first_mentions : (before : List ExporterKey) → List ExporterKey → List ExporterKey
first_mentions before [] = []
first_mentions before (k ∷ ks) = if list_any (same_key k) before then first_mentions before ks else k ∷ first_mentions (before ++ k ∷ []) ks

abbrev pub keys_mentioned : Tree → List ExporterKey
keys_mentioned t = map (λ (m : Mention). m.key) (mentions_in t (outgoing t))

pub record HoldsExporters (t : Tree) (entries : Entries) : Type 0 where
  -- no key stands twice
  pub distinct : IsDistinct same_key (keys_of entries)
  -- the keys are those to which somebody exports
  pub exported : (k : ExporterKey) → Contains (keys_of entries) k ↔ (visible_under t k ≡ [] → ⊥)
  -- each stands with its exporters
  pub each : (k : ExporterKey) (es : List Exporter) → Contains entries (k, es) → es ≡ visible_under t k
  -- the keys stand in the order in which they are mentioned first: that of where exports go, and for each of them that of what it gives
  pub order : keys_of entries ≡ first_mentions [] (keys_mentioned t)

-- what a look-up finds under a key, none where it is not there, are its exporters
abbrev pub FindsExporters : Tree → Entries → Type 0
FindsExporters t entries = (k : ExporterKey) → listed_under k entries ≡ visible_under t k
