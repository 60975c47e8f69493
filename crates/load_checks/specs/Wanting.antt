-- What images still want, as the code notes it: image by image, and item by item.
use Rattle.std.specs.Prelude.{ℕ, ◌&&◌, not, List, [], ◌∷◌, ◌++◌, map, Option, Some, None, if◌then◌else◌}
use denote.Ref.{Bor}
use Rattle.interface_records.specs.declared.wanted.Wanted.{Wanted as Entry}
use Rattle.object_files.specs.declared.image.Image.{Image}
use Rattle.loader_rules.specs.Wanted.{is_built_in, has_entry, entry_number}
use Rattle.load_checks.specs.declared.wanting.Wanting.{Wanting}
use Rattle.load_checks.specs.Places.{HoldsPlaces}

abbrev pub entries_shown : List (Bor Entry) → List Entry
entries_shown es = map (λ (e : Bor Entry). e.now) es

abbrev pub noted_one : (already : List Entry) → Entry → List Entry
noted_one already e = if is_built_in e.face && not (has_entry already e) then already ++ e ∷ [] else already

abbrev pub noted_in : (already : List Entry) → List Entry → List Entry
noted_in already [] = already
noted_in already (e ∷ es) = noted_in (noted_one already e) es

abbrev pub all_noted : (already : List Entry) → List Image → List Entry
all_noted already [] = already
all_noted already (i ∷ is) = all_noted (noted_in already i.wanted) is

-- the number of an item, if it is one of those that are wanted
abbrev pub place_of : List Entry → Entry → Option ℕ
place_of es e = if has_entry es e then Some (entry_number es e) else None

-- the index holds those that are wanted
abbrev pub IsIndexed : Wanting → Type 0
IsIndexed w = HoldsPlaces (entries_shown w.entries.items) w.places.entries
