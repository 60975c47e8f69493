-- The listing of an object (rule of this project): a line for it, for each import and its used items, for its globals, its code, and for
-- each export and what it gives.
use Rattle.std.specs.Prelude.{ℕ, List, [], ◌∷◌, ◌++◌, flat_map, codes, decimal, Option, Some, None, slice_get}
use Rattle.line_pieces.specs.Texts.{stamp_text}
use Rattle.mesa_types.specs.declared.faces.Export.{Export}
use Rattle.mesa_types.specs.declared.faces.Face.{Face}
use Rattle.mesa_types.specs.declared.faces.Import.{Import}
use Rattle.mesa_types.specs.declared.faces.Item.{Item}
use Rattle.mesa_types.specs.declared.faces.Pair.{Pair}
use Rattle.object_files.specs.declared.object.Object.{Object}
use Rattle.listing_rules.specs.Lines.{line}
use Rattle.listing_rules.specs.Code.{code_lines}

abbrev pub name_in : Option Item → List ℕ
name_in None = []
name_in (Some item) = item.name

-- the name of the item of this number; each number that an object has for one is that of an item
abbrev pub item_name : List Item → ℕ → List ℕ
item_name items n = name_in (slice_get items n)

-- USES ITEM
abbrev pub use_line : List Item → ℕ → List ℕ
use_line items n = line (codes "USES" ∷ item_name items n ∷ [])

-- IMPORT NAME STAMP, or EXPORT NAME STAMP
abbrev pub face_line : List ℕ → Face → List ℕ
face_line word face = line (word ∷ face.name ∷ stamp_text face.stamp ∷ [])

-- an import, and its used items
abbrev pub import_lines : Import → List ℕ
import_lines i = face_line (codes "IMPORT") i.face ++ flat_map (use_line i.face.items) i.used

-- GIVES ITEM N
abbrev pub pair_line : List Item → Pair → List ℕ
pair_line items p = line (codes "GIVES" ∷ item_name items p.item ∷ decimal p.number ∷ [])

-- an export, and what it gives
abbrev pub export_lines : Export → List ℕ
export_lines e = face_line (codes "EXPORT") e.face ++ flat_map (pair_line e.face.items) e.given

-- OBJECT NAME
abbrev pub object_line : List ℕ → List ℕ
object_line name = line (codes "OBJECT" ∷ name ∷ [])

abbrev pub object_listing : Object → List ℕ
object_listing o =
    object_line o.shape.name
    ++ (flat_map import_lines o.shape.imports ++ (code_lines o.code ++ flat_map export_lines o.shape.exports))
