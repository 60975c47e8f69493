-- The laws of loading (rule of this project).
use Rattle.std.specs.Prelude.{◌≡◌, ℕ, ◌≤◌, ◌⊎◌, List, [], ◌∷◌, ◌++◌, length, filter, All, Contains, Some}
use Rattle.interface_records.specs.declared.wanted.Wanted.{Wanted as Entry}
use Rattle.object_files.specs.declared.image.Image.{Image}
use Rattle.object_rules.specs.Exact.{IsSameImage}
use Rattle.object_rules.specs.ImageFiles.{IsImageFile}
use Rattle.object_rules.specs.ImageForms.{parts_of_image, image_form}
use Rattle.object_rules.specs.Parts.{IsWhole}
use Rattle.loader_rules.specs.declared.fault.LoadFault.{LoadFault}
use Rattle.loader_rules.specs.declared.limits.TheConstants.{MOST_IMAGES}
use Rattle.loader_rules.specs.LoadFaults.{faults_in, load_faults, first_of, HasLoadFault}
use Rattle.loader_rules.specs.Loaded.{Loaded}
use Rattle.loader_rules.specs.Parts.{part}
use Rattle.loader_rules.specs.Wanted.{is_built_in}

-- one image or one fault, and never both
pub record LoadsComeOnce : Type 0 where
  pub one_or_the_other : (images : List Image) → ((image : Image) × Loaded images image) ⊎ ((fault : LoadFault) × HasLoadFault images fault)
  pub one_image : (images : List Image) (a b : Image) → Loaded images a → Loaded images b → a ≡ b
  pub one_fault : (images : List Image) (a b : LoadFault) → HasLoadFault images a → HasLoadFault images b → a ≡ b
  pub not_both : (images : List Image) (image : Image) (fault : LoadFault) → Loaded images image → HasLoadFault images fault → ⊥

-- the fault is the first of an image, and those before it have none
pub record HasFirst (images : List Image) (fault : LoadFault) : Type 0 where
  pub before : List Image
  pub image : Image
  pub behind : List Image
  pub are : images ≡ before ++ image ∷ behind
  pub none_before : load_faults before ≡ []
  pub first : first_of (faults_in (part before image)) ≡ Some fault

abbrev pub FirstImageHasTheFault : Type 0
FirstImageHasTheFault = (images : List Image) (fault : LoadFault) → HasLoadFault images fault → HasFirst images fault

-- ---- images in order

-- a file holds it
abbrev pub HasFile : (version : ℕ) → Image → Type 0
HasFile version i = (bytes : List ℕ) × IsImageFile version i bytes

-- the form of files fits it, the size of the file aside
pub record IsInOrder (version : ℕ) (i : Image) : Type 0 where
  pub fits : (image_form version).fits (parts_of_image i)
  pub whole : All IsWhole i.modules

abbrev pub LoadedImagesAreInOrder : Type 0
LoadedImagesAreInOrder = (version : ℕ) (images : List Image) (image : Image) → length images ≤ MOST_IMAGES → All (HasFile version) images
    → Loaded images image → IsInOrder version image

-- ---- images that differ in depths alone, which files do not hold

unfoldable pub AreSameImages : List Image → List Image → Type 0
AreSameImages [] [] = Unit {0}
AreSameImages (a ∷ more) (b ∷ rest) = IsSameImage a b × AreSameImages more rest
AreSameImages _ _ = ⊥

-- they have the same faults, and are loaded as images that differ in depths alone
pub record LoadAlike (xs ys : List Image) : Type 0 where
  pub faults : load_faults xs ≡ load_faults ys
  pub images : (a b : Image) → Loaded xs a → Loaded ys b → IsSameImage a b

abbrev pub LoadsAreAlike : Type 0
LoadsAreAlike = (xs ys : List Image) → AreSameImages xs ys → LoadAlike xs ys

-- ---- what is still wanted is of the built-in interface, and one of the images wants it

-- the items of the built-in interface that it wants
abbrev pub wanted_of_host : Image → List Entry
wanted_of_host i = filter (λ (e : Entry). is_built_in e.face) i.wanted

-- one of the images wants it, and it is of the built-in interface
pub record IsWantedByOne (images : List Image) (e : Entry) : Type 0 where
  pub image : Image
  pub is_one : Contains images image
  pub wants : Contains (wanted_of_host image) e

abbrev pub WantedByOne : Type 0
WantedByOne = (images : List Image) (image : Image) → Loaded images image → All (IsWantedByOne images) image.wanted
