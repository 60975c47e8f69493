-- How many bytes the parts of files take, in version 2 (rule of this project).
use Rattle.std.specs.Prelude.{ℕ, ◌+◌, ◌*◌, List, [], ◌∷◌, length}
use Rattle.mesa_types.specs.declared.faces.Export.{Export}
use Rattle.mesa_types.specs.declared.faces.Face.{Face}
use Rattle.mesa_types.specs.declared.faces.Import.{Import}
use Rattle.mesa_types.specs.declared.faces.Item.{Item}
use Rattle.interface_records.specs.declared.interface.Interface.{Interface}
use Rattle.interface_records.specs.declared.wanted.Wanted.{Wanted as Entry}
use Rattle.code_forms.specs.declared.module_code.CodeProcedure.{CodeProcedure}
use Rattle.code_forms.specs.declared.module_code.CodeSignal.{CodeSignal}
use Rattle.code_blocks.specs.Weights.{procedure_bytes}
use Rattle.file_forms.specs.Files.{versioned}
use Rattle.face_rules.specs.FaceForms.{face, item}
use Rattle.face_rules.specs.InterfaceForms.{interface}
use Rattle.object_files.specs.declared.image.Image.{Image}
use Rattle.object_files.specs.declared.image.Instance.{Instance}
use Rattle.object_files.specs.declared.image.Link.{Link}
use Rattle.object_files.specs.declared.image.Link.TheVariants.{Wanted, To}
use Rattle.object_files.specs.declared.image.Offer.{Offer}
use Rattle.object_files.specs.declared.object.Object.{Object}

-- so many for each, together
unfoldable pub total : {A : Type 0} → (A → ℕ) → List A → ℕ
total f [] = 0
total f (x ∷ xs) = f x + total f xs

-- ---- interfaces

unfoldable pub item_size : Item → ℕ
item_size i = length ((item 2).spell i)

unfoldable pub face_size : Face → ℕ
face_size f = length ((face 2).spell f)

-- three letters, the version and the interface
unfoldable pub interface_size : Interface → ℕ
interface_size i = 3 + length ((versioned interface).spell (2, i))

-- ---- objects

-- the face, and the numbers of the used items
abbrev pub import_size : Import → ℕ
import_size i = face_size i.face + (4 + 4 * length i.used)

-- the face, and a pair of numbers for each item that is given
abbrev pub export_size : Export → ℕ
export_size e = face_size e.face + (4 + 8 * length e.given)

abbrev pub signal_size : CodeSignal → ℕ
signal_size s = 6 + length s.name

abbrev pub string_size : List ℕ → ℕ
string_size s = 2 + length s

-- the name, four numbers, and the code and the phrases
abbrev pub procedure_size : CodeProcedure → ℕ
procedure_size p = 11 + length p.name + procedure_bytes p

unfoldable pub module_size : Object → ℕ
module_size o = 23 + length o.shape.name + total import_size o.shape.imports + total signal_size o.code.signals + total string_size o.code.strings
    + total procedure_size o.code.procedures + total export_size o.shape.exports

-- three letters, the version and the module
abbrev pub object_size : Object → ℕ
object_size o = 4 + module_size o

-- ---- images

-- the interface's name and stamp, and the item
abbrev pub entry_size : Entry → ℕ
entry_size e = 7 + length e.face + item_size e.item

abbrev pub name_size : List ℕ → ℕ
name_size x = 1 + length x

-- the path, and the module's number
abbrev pub instance_size : Instance → ℕ
instance_size x = 5 + total name_size x.path

abbrev pub link_size : Link → ℕ
link_size (Wanted n) = 5
link_size (To j n) = 9

abbrev pub table_size : List Link → ℕ
table_size links = total link_size links

abbrev pub offer_size : Offer → ℕ
offer_size o = 9 + length o.name

-- three letters, the version, five counts, and what is counted; an instance has as many links as its module needs
unfoldable pub image_size : Image → ℕ
image_size i = 24 + total module_size i.modules + total entry_size i.wanted + total instance_size i.instances + total table_size i.links
    + total offer_size i.offered + 4 * length i.control
