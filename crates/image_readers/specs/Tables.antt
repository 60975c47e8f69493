-- The links of an instance so far.
use Rattle.std.specs.Prelude.{◌≡◌, ℕ, ◌-◌, List, [], ◌∷◌, ◌++◌, length, Option, Some, None, slice_get}
use Rattle.file_forms.specs.Forms.{Form, read_each}
use Rattle.interface_records.specs.declared.wanted.Wanted.{Wanted as Entry}
use Rattle.mesa_types.specs.declared.faces.Face.{Face}
use Rattle.mesa_types.specs.declared.faces.Item.{Item}
use Rattle.object_files.specs.declared.image.Instance.{Instance}
use Rattle.object_files.specs.declared.image.Link.{Link}
use Rattle.object_rules.specs.ImageForms.{link, link_table, needed_by, module_at, needed_of}
use Rattle.object_rules.specs.Parts.{ModulePart}

-- what the item of an interface needs, if there is one
abbrev pub needed_at : Face → Option Item → List Entry
needed_at f None = []
needed_at f (Some i) = needed_of f i ∷ []

-- the form of the next link of a module that needs these
abbrev pub next_link : List ModulePart → List Entry → List Instance → List Entry → List Link → Form Link
next_link modules wanted instances needed before = link modules wanted instances (slice_get needed (length before))

-- these links stand for the first of what is needed, and what is still read for those after is what is read from the start
pub record IsLinkedOn (modules : List ModulePart) (wanted : List Entry) (instances : List Instance) (needed : List Entry) (all : List Link)
    (after : List Entry) (bytes start : List ℕ) : Type 0 where
  pub done : List Entry
  pub split : needed ≡ done ++ after
  pub far : length all ≡ length done
  pub same : read_each (next_link modules wanted instances needed) (length needed - length done) all bytes ≡ read_each (next_link modules wanted instances needed) (length needed) [] start

-- the form of the links of the next instance
abbrev pub next_table : List ModulePart → List Entry → List Instance → List (List Link) → Form (List Link)
next_table modules wanted instances before = link_table modules wanted instances (needed_by (module_at modules (slice_get instances (length before))))
