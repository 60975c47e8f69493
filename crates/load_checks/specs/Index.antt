-- The index of those who offer items, as it is made: export by export, and pair by pair of what each gives.
use Rattle.std.specs.Prelude.{ℕ, Bool, false, not, ◌&&◌, ◌||◌, List, [], ◌∷◌, nat_eq, bytes_eq, Option, slice_get, if◌then◌else◌}
use Rattle.std.specs.Map.{lookup}
use Rattle.mesa_types.specs.declared.faces.Item.{Item}
use Rattle.mesa_types.specs.declared.faces.Pair.{Pair}
use Rattle.object_files.specs.declared.image.Image.{Image}
use Rattle.object_files.specs.declared.image.Offer.{Offer}
use Rattle.config_rules.specs.Exporters.{is_named}
use Rattle.loader_rules.specs.Exporters.{Offered, export_of}
use Rattle.load_checks.specs.declared.exporters.Found.{Found}
use Rattle.link_tables.specs.declared.key.EntryKey.{EntryKey}
use Rattle.load_checks.specs.Givers.{Giver, Firsts, noted, offered_at, found_shown}
use Rattle.link_tables.specs.Keys.{same_key}

abbrev pub Entries : Type 0
Entries = List (EntryKey × Found)

-- the first two under a key
abbrev pub found_under : EntryKey → Entries → Firsts
found_under k es = found_shown (lookup (same_key k) es)

abbrev pub noted_in : Bool → Firsts → Giver → Firsts
noted_in b f g = if b then noted f g else f

-- with what a pair gives, under its item's name; not where one before it gave an item of that name
abbrev pub giver_by : Offered → (number : ℕ) → Giver
giver_by o n = record { instance = o.instance; path = o.path; face = o.gives.face; number = n }

abbrev pub fits : EntryKey → Offered → Bool
fits k o = bytes_eq o.record_name k.face && nat_eq o.gives.face.stamp k.stamp

abbrev pub through : EntryKey → Offered → Option Item → (number : ℕ) → (seen : Bool) → Firsts → Firsts
through k o item n seen f = noted_in (fits k o && (not seen && is_named k.item item)) f (giver_by o n)

-- pair by pair; `seen` tells that one before gave an item of the key's name
abbrev pub noted_pairs : EntryKey → Offered → List Pair → (seen : Bool) → Firsts → Firsts
noted_pairs k o [] seen f = f
noted_pairs k o (p ∷ ps) seen f =
    noted_pairs k o ps (seen || is_named k.item (slice_get o.gives.face.items p.item)) (through k o (slice_get o.gives.face.items p.item) p.number seen f)

-- export by export
abbrev pub noted_offered : EntryKey → List Offered → Firsts → Firsts
noted_offered k [] f = f
noted_offered k (o ∷ os) f = noted_offered k os (noted_pairs k o o.gives.given false f)

-- entry by entry of what an image offers
abbrev pub noted_offers : EntryKey → (number before : ℕ) → Image → List Offer → Firsts → Firsts
noted_offers k n b i [] f = f
noted_offers k n b i (o ∷ os) f = noted_offers k n b i os (noted_offered k (offered_at n b i o (export_of i o)) f)
