-- What `run` runs: the image of one file, or several images that are read one after the other and loaded as one (rule of this project).
use Rattle.std.specs.Prelude.{◌≡◌, ℕ, List, [], ◌∷◌, All, filter, map, slice_get, unwrap_or}
use Rattle.interface_records.specs.Hosts.{IsHostItem}
use Rattle.interface_records.specs.declared.wanted.Wanted.{Wanted as Entry}
use Rattle.interface_records.specs.declared.wanted.WantedItem.{WantedItem}
use Rattle.linked_programs.specs.machine_ready.specs.Hosts.{IsFirstUnresolved}
use Rattle.object_files.specs.declared.image.Image.{Image}
use Rattle.object_rules.specs.ImageForms.{ImagePart, parts_of_image}
use Rattle.object_rules.specs.Parts.{IsWhole}
use Rattle.loader_rules.specs.LoadFaults.{HasLoadFault}
use Rattle.loader_rules.specs.Loaded.{Loaded}
use Rattle.loader_rules.specs.Wanted.{is_built_in}
use Rattle.loader_rules.specs.declared.fault.LoadFault.{LoadFault}
use Rattle.loader_rules.specs.declared.fault.LoadFault.TheVariants as load
use Rattle.command_rules.specs.Case.{Case, Refused, Load}
use Rattle.command_rules.specs.Forms.{image_file}
use Rattle.command_rules.specs.Objects.{IsImageWith, image_in}
use Rattle.command_rules.specs.Passes.{Outcome, Has, Stops, Pass, decided, and_then, each}

-- ---- the files

-- each file in order
unfoldable pub images_in : (bases : List (List ℕ)) → Pass Case (List ImagePart)
images_in bases = each (λ base. image_in (image_file base)) bases

-- images of these parts, in order
pub record AreImagesWith (parts : List ImagePart) (images : List Image) : Type 0 where
  pub its : map parts_of_image images ≡ parts
  pub whole : All (λ (i : Image). All IsWhole i.modules) images

-- ---- several are loaded as one

-- the number of the image that a fault is of
abbrev pub faulty : LoadFault → ℕ
faulty (load.NoExporter k i) = k
faulty (load.Twice k i one other) = k
faulty (load.OtherStamp k i wanted found) = k
faulty (load.FaceDiffers k i) = k
faulty (load.OddRecord k name) = k
faulty (load.TooManyInstances k) = k
faulty (load.TooNested k) = k
faulty load.Memory = 0

-- its file
abbrev pub faulty_file : (bases : List (List ℕ)) → LoadFault → List ℕ
faulty_file bases why = image_file (unwrap_or (slice_get bases (faulty why)) [])

-- one alone is run as it is; several are loaded as one, or have a first fault
pub data Joins (bases : List (List ℕ)) : List ImagePart → Outcome Case (List ImagePart) → Type 0 where
  alone : (p : ImagePart) → Joins bases (p ∷ []) (Has (p ∷ []))
  joined : (p q : ImagePart) (parts : List ImagePart) (images : List Image) (image : Image) → AreImagesWith (p ∷ q ∷ parts) images → Loaded images image
      → Joins bases (p ∷ q ∷ parts) (Has (p ∷ q ∷ parts))
  not_joined : (p q : ImagePart) (parts : List ImagePart) (images : List Image) (why : LoadFault) → AreImagesWith (p ∷ q ∷ parts) images
      → HasLoadFault images why → Joins bases (p ∷ q ∷ parts) (Stops (Refused (faulty_file bases why) (Load why)))

-- the files in order, and then what they come to
unfoldable pub runnable_in : (bases : List (List ℕ)) → Pass Case (List ImagePart)
runnable_in bases = and_then (images_in bases) (λ parts. decided (Joins bases parts))

-- the image that is run
pub data IsRunOf : List ImagePart → Image → Type 0 where
  alone : (p : ImagePart) (image : Image) → IsImageWith p image → IsRunOf (p ∷ []) image
  joined : (p q : ImagePart) (parts : List ImagePart) (images : List Image) (image : Image) → AreImagesWith (p ∷ q ∷ parts) images → Loaded images image
      → IsRunOf (p ∷ q ∷ parts) image

-- ---- what they want of the host: one alone all that it wants, each of several what it wants of the built-in interface

abbrev pub of_host : ImagePart → List Entry
of_host p = filter (λ (e : Entry). is_built_in e.face) p.wanted

unfoldable pub host_wants : List ImagePart → List (List Entry)
host_wants [] = []
host_wants (p ∷ []) = p.wanted ∷ []
host_wants (p ∷ q ∷ parts) = map of_host (p ∷ q ∷ parts)

-- the host has all of it
abbrev pub HostHas : List ImagePart → Type 0
HostHas parts = All (λ (wanted : List Entry). All IsHostItem wanted) (host_wants parts)

-- or this is the first that lacks something, with the first such item
pub data IsFirstToLack : (bases : List (List ℕ)) → List (List Entry) → (base : List ℕ) → WantedItem → Type 0 where
  here : (base : List ℕ) (bases : List (List ℕ)) (wanted : List Entry) (more : List (List Entry)) (i : WantedItem) → IsFirstUnresolved wanted i
      → IsFirstToLack (base ∷ bases) (wanted ∷ more) base i
  there : (base : List ℕ) (bases : List (List ℕ)) (wanted : List Entry) (more : List (List Entry)) (other : List ℕ) (i : WantedItem) → All IsHostItem wanted
      → IsFirstToLack bases more other i → IsFirstToLack (base ∷ bases) (wanted ∷ more) other i
