-- The items wanted of the loader, beside an index of them.
use Rattle.std.specs.Prelude.{◌≡◌, map}
use Rattle.interface_records.specs.declared.wanted.Wanted.{Wanted as Entry}
use Rattle.link_tables.specs.declared.key.EntryKey.{EntryKey}
use Rattle.link_tables.specs.declared.wanting.Wanting.{Wanting}

abbrev pub key_of : Entry → EntryKey
key_of e = record { face = e.face; stamp = e.stamp; item = e.item.name }

-- the place of a key is that of its item
abbrev pub IsIndexed : Wanting → Type 0
IsIndexed w = w.keys.keys ≡ map key_of w.entries
