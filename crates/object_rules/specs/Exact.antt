-- What the definitions of object and image files say together: a file holds one object or image and is its one spelling, a fault is the
-- one first fault, and no bytes have both (rule of this project).
use Rattle.std.specs.Prelude.{◌≡◌, ℕ, List, [], ◌∷◌}
use Rattle.code_forms.specs.Same.{IsSameCode}
use Rattle.object_files.specs.declared.image.Image.{Image}
use Rattle.object_files.specs.declared.object.Object.{Object}
use Rattle.object_rules.specs.declared.object_fault.ObjectFault.{ObjectFault}
use Rattle.object_rules.specs.ImageFiles.{IsImageFile, IsNoImageFile}
use Rattle.object_rules.specs.ObjectFiles.{IsObjectFile, IsNoObjectFile}

-- objects with equal shapes, and codes that are the same, depths aside
pub record IsSameObject (a b : Object) : Type 0 where
  pub shape : a.shape ≡ b.shape
  pub code : IsSameCode a.code b.code

unfoldable pub AreSameObjects : List Object → List Object → Type 0
AreSameObjects [] [] = Unit {0}
AreSameObjects (a ∷ more) (b ∷ rest) = IsSameObject a b × AreSameObjects more rest
AreSameObjects _ _ = ⊥

-- images whose objects are the same, and all else equal
pub record IsSameImage (a b : Image) : Type 0 where
  pub modules : AreSameObjects a.modules b.modules
  pub wanted : a.wanted ≡ b.wanted
  pub instances : a.instances ≡ b.instances
  pub links : a.links ≡ b.links
  pub offered : a.offered ≡ b.offered
  pub control : a.control ≡ b.control

-- ---- objects

abbrev pub OneObject : Type 0
OneObject = (version other : ℕ) (a b : Object) (bytes : List ℕ) → IsObjectFile version a bytes → IsObjectFile other b bytes → (version ≡ other) × IsSameObject a b

abbrev pub OneObjectSpelling : Type 0
OneObjectSpelling = (version : ℕ) (o : Object) (bytes others : List ℕ) → IsObjectFile version o bytes → IsObjectFile version o others → bytes ≡ others

abbrev pub OneObjectFault : Type 0
OneObjectFault = (bytes : List ℕ) (a b : ObjectFault) → IsNoObjectFile bytes a → IsNoObjectFile bytes b → a ≡ b

abbrev pub ObjectOrFault : Type 0
ObjectOrFault = (version : ℕ) (o : Object) (bytes : List ℕ) (fault : ObjectFault) → IsObjectFile version o bytes → IsNoObjectFile bytes fault → ⊥

-- ---- images

abbrev pub OneImage : Type 0
OneImage = (version other : ℕ) (a b : Image) (bytes : List ℕ) → IsImageFile version a bytes → IsImageFile other b bytes → (version ≡ other) × IsSameImage a b

abbrev pub OneImageSpelling : Type 0
OneImageSpelling = (version : ℕ) (i : Image) (bytes others : List ℕ) → IsImageFile version i bytes → IsImageFile version i others → bytes ≡ others

abbrev pub OneImageFault : Type 0
OneImageFault = (bytes : List ℕ) (a b : ObjectFault) → IsNoImageFile bytes a → IsNoImageFile bytes b → a ≡ b

abbrev pub ImageOrFault : Type 0
ImageOrFault = (version : ℕ) (i : Image) (bytes : List ℕ) (fault : ObjectFault) → IsImageFile version i bytes → IsNoImageFile bytes fault → ⊥
