-- The sizes of files (rule of this project).
use Rattle.std.specs.Prelude.{◌≡◌, ◌+◌, ◌≤◌, length}
use Rattle.mesa_types.specs.declared.faces.Face.{Face}
use Rattle.mesa_types.specs.declared.faces.Item.{Item}
use Rattle.interface_records.specs.Faces.{iodefs}
use Rattle.interface_records.specs.declared.interface.Interface.{Interface}
use Rattle.file_forms.specs.Files.{versioned}
use Rattle.object_files.specs.declared.image.Image.{Image}
use Rattle.object_files.specs.declared.object.Object.{Object}
use Rattle.object_rules.specs.ImageForms.{parts_of_image, image_form}
use Rattle.object_rules.specs.ModuleForms.{module_form}
use Rattle.object_rules.specs.Parts.{parts_of}
use Rattle.file_sizes.specs.Sizes.{total, item_size, face_size, interface_size, object_size, image_size}

-- a face takes what its name and its items take, and 11 bytes; an item takes at least its name and 6 bytes; and the file of an interface its face and at
-- least 12 bytes
pub record InterfacesAreSized : Type 0 where
  pub faces : (f : Face) → face_size f ≡ 11 + length f.name + total item_size f.items
  pub items : (i : Item) → 6 + length i.name ≤ item_size i
  pub files : (i : Interface) → face_size i.face + 12 ≤ interface_size i
  -- the built-in one, which has no file
  pub built_in : face_size iodefs.face ≤ 200

abbrev pub ObjectsAreSized : Type 0
ObjectsAreSized = (o : Object) → 3 + length ((versioned module_form).spell (2, parts_of o)) ≡ object_size o

abbrev pub ImagesAreSized : Type 0
ImagesAreSized = (i : Image) → 3 + length ((versioned image_form).spell (2, parts_of_image i)) ≡ image_size i
