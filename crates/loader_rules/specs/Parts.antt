-- Images that are loaded one behind the other (rule of this project).
use Rattle.std.specs.Prelude.{ℕ, ◌+◌, List, [], ◌∷◌, ◌++◌, length, flat_map, codes, decimal}
use Rattle.object_files.specs.declared.image.Image.{Image}
use Rattle.object_files.specs.declared.image.Instance.{Instance}
use Rattle.object_files.specs.declared.object.Object.{Object}

-- an image, and those before it
pub record Part : Type 0 where
  pub before : List Image
  pub image : Image

abbrev pub part : List Image → Image → Part
part before image = record { before = before; image = image }

unfoldable pub parts_behind : (before : List Image) → List Image → List Part
parts_behind before [] = []
parts_behind before (i ∷ is) = part before i ∷ parts_behind (before ++ i ∷ []) is

-- each of them
abbrev pub parts : List Image → List Part
parts images = parts_behind [] images

-- its number among the images, from 0
abbrev pub number : Part → ℕ
number p = length p.before

-- the name that is put before its paths: I1, I2 and so on
abbrev pub image_name : Part → List ℕ
image_name p = codes "I" ++ decimal (length p.before + 1)

-- what images have, one behind the other
abbrev pub modules_of : List Image → List Object
modules_of images = flat_map (λ (i : Image). i.modules) images

abbrev pub instances_of : List Image → List Instance
instances_of images = flat_map (λ (i : Image). i.instances) images

-- so many stand before those of an image, whose numbers are shifted by them
abbrev pub modules_before : Part → ℕ
modules_before p = length (modules_of p.before)

abbrev pub instances_before : Part → ℕ
instances_before p = length (instances_of p.before)
