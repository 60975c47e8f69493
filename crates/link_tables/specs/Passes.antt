-- One pass over the items that are used: one that is left to the loader has its number as soon as it is wanted first, since those behind it change no number.
use Rattle.std.specs.Prelude.{List, [], ◌∷◌, ◌++◌, length, flat_map, Option, Some, None, slice_get}
use Rattle.mesa_types.specs.declared.faces.Face.{Face}
use Rattle.mesa_types.specs.declared.faces.Import.{Import}
use Rattle.mesa_types.specs.declared.faces.Item.{Item}
use Rattle.interface_records.specs.declared.wanted.Wanted.{Wanted as Entry}
use Rattle.object_files.specs.declared.image.Link.{Link}
use Rattle.config_rules.specs.declared.tree.Binding.{Binding}
use Rattle.config_rules.specs.declared.tree.Binding.TheVariants.{Left, To}
use Rattle.config_rules.specs.declared.tree.TreeInstance.{TreeInstance}
use Rattle.link_tables.specs.Linked.{noted, link_by}

-- ---- the items that an instance uses, in the order of its links

abbrev pub entry_in : Face → Item → Entry
entry_in f i = record { face = f.name; stamp = f.stamp; item = i }

abbrev pub entry_at : Face → Option Item → List Entry
entry_at f None = []
entry_at f (Some i) = entry_in f i ∷ []

abbrev pub entries_of : Import → List Entry
entries_of m = flat_map (λ n. entry_at m.face (slice_get m.face.items n)) m.used

abbrev pub entries_in : List Import → List Entry
entries_in ms = flat_map entries_of ms

-- ---- the links of an instance

-- what is wanted so far, and the links so far
pub record Pass : Type 0 where
  pub wanted : List Entry
  pub links : List Link

abbrev pub pass : List Entry → List Link → Pass
pass wanted links = record { wanted = wanted; links = links }

abbrev pub noted_by : List Entry → Entry → Binding → List Entry
noted_by wanted e Left = noted wanted (e ∷ [])
noted_by wanted e (To j n) = wanted

abbrev pub bound : Pass → Entry → Binding → Pass
bound p e b = pass (noted_by p.wanted e b) (p.links ++ link_by (noted_by p.wanted e b) e b ∷ [])

abbrev pub bound_by : Pass → Entry → Option Binding → Pass
bound_by p e None = p
bound_by p e (Some b) = bound p e b

-- the next link is bound as the list says at its place
abbrev pub next_bound : List Binding → Pass → Entry → Pass
next_bound bs p e = bound_by p e (slice_get bs (length p.links))

abbrev pub all_bound : List Binding → Pass → List Entry → Pass
all_bound bs p [] = p
all_bound bs p (e ∷ es) = all_bound bs (next_bound bs p e) es

-- ---- the links of all instances

pub record Tables : Type 0 where
  pub wanted : List Entry
  pub tables : List (List Link)

abbrev pub tables : List Entry → List (List Link) → Tables
tables wanted links = record { wanted = wanted; tables = links }

abbrev pub with_table : Tables → Pass → Tables
with_table ts p = tables p.wanted (ts.tables ++ p.links ∷ [])

abbrev pub table_by : Tables → TreeInstance → Option (List Binding) → Tables
table_by ts x None = ts
table_by ts x (Some bs) = with_table ts (all_bound bs (pass ts.wanted []) (entries_in x.shape.imports))

abbrev pub next_table : List (List Binding) → Tables → TreeInstance → Tables
next_table bss ts x = table_by ts x (slice_get bss (length ts.tables))

abbrev pub all_tables : List (List Binding) → Tables → List TreeInstance → Tables
all_tables bss ts [] = ts
all_tables bss ts (x ∷ xs) = all_tables bss (next_table bss ts x) xs
