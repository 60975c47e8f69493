-- The size of a text with the files of its interfaces, by which the sizes of what is made from it are bounded (rule of this project).
use Rattle.std.specs.Prelude.{◌≡◌, ℕ, ◌+◌, ◌*◌, Bool, true, List, [], ◌∷◌, length, bytes_eq, if◌then◌else◌}
use Rattle.mesa_types.specs.declared.faces.Import.{Import}
use Rattle.mesa_types.specs.declared.faces.Shape.{Shape}
use Rattle.syntax_trees.specs.declared.syntax.DirectoryItem.{DirectoryItem}
use Rattle.interface_records.specs.Faces.{iodefs}
use Rattle.interface_records.specs.declared.interface.Interface.{Interface}
use Rattle.checking_laws.specs.UsedItems.{used_items}
use Rattle.file_sizes.specs.Sizes.{total, item_size, interface_size}

-- an item of the DIRECTORY that takes the built-in interface, for which no file is asked
abbrev pub is_built_in : DirectoryItem → Bool
is_built_in d = bytes_eq d.name.name iodefs.face.name

-- the bytes of an interface's file; the built-in one has none
abbrev pub size_given : DirectoryItem → Interface → ℕ
size_given d i = if is_built_in d then 0 else interface_size i

-- one interface for each item, and the built-in one where no file is asked
unfoldable pub AreGiven : List DirectoryItem → List Interface → Type 0
AreGiven [] [] = Unit {0}
AreGiven (d ∷ ds) (i ∷ is) = (is_built_in d ≡ true → i ≡ iodefs) × AreGiven ds is
AreGiven _ _ = ⊥

-- the bytes of their files together
unfoldable pub files_size : List DirectoryItem → List Interface → ℕ
files_size [] is = 0
files_size (d ∷ ds) [] = 0
files_size (d ∷ ds) (i ∷ is) = size_given d i + files_size ds is

-- 160 for each byte of the text, and 4 for each of its interfaces' files
unfoldable pub text_size : List ℕ → List DirectoryItem → List Interface → ℕ
text_size text ds is = 160 * length text + 4 * files_size ds is

-- what an instance of this shape adds to an image, besides its own entry: a link, and perhaps an item that is wanted, for each used item, and perhaps an
-- offer for each export
unfoldable pub shape_cost : Shape → ℕ
shape_cost s = 271 * used_items s.imports + total (λ (i : Import). total item_size i.face.items) s.imports + 264 * length s.exports
