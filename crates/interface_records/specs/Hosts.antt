-- When two items are the same to one who uses them, and which items the host has: those of the built-in interface (rules of this project).
use Rattle.std.specs.Prelude.{◌≡◌, Any}
use Rattle.typed_answers.specs.mesa_types.specs.declared.faces.Item.{Item}
use Rattle.interface_records.specs.declared.wanted.Wanted.{Wanted}
use Rattle.interface_records.specs.Faces.{SameSignature, iodefs}

-- items of one name and kind, with the same types; what parameters and results are called is free
abbrev pub SameItem : Item → Item → Type 0
SameItem a b = (a.name ≡ b.name) × SameSignature a b

-- a wanted item is the host's by the name and the stamp of its interface, and as an item
abbrev pub IsHostItem : Wanted → Type 0
IsHostItem w = (w.face ≡ iodefs.face.name) × (w.stamp ≡ iodefs.face.stamp) × Any (SameItem w.item) iodefs.face.items
