-- The laws of listings of files: bytes have one listing, or one first fault, and never both.
use Rattle.std.specs.Prelude.{◌≡◌, ℕ, List}
use Rattle.listed_files.specs.Listings.{IsListing, HasFault}
use Rattle.listed_files.specs.declared.file_kind.FileKind.{FileKind}
use Rattle.listing_rules.specs.Images.{image_listing}
use Rattle.object_files.specs.declared.image.Image.{Image}
use Rattle.object_rules.specs.Exact.{IsSameImage}
use Rattle.object_rules.specs.declared.object_fault.ObjectFault.{ObjectFault}

abbrev pub OneListing : Type 0
OneListing = (kind : FileKind) (bytes a b : List ℕ) → IsListing kind bytes a → IsListing kind bytes b → a ≡ b

abbrev pub OneFault : Type 0
OneFault = (kind : FileKind) (bytes : List ℕ) (a b : ObjectFault) → HasFault kind bytes a → HasFault kind bytes b → a ≡ b

abbrev pub ListingOrFault : Type 0
ListingOrFault = (kind : FileKind) (bytes text : List ℕ) (fault : ObjectFault) → IsListing kind bytes text → HasFault kind bytes fault → ⊥

-- images whose objects are the same, depths of instructions aside, and all else equal, have one listing
abbrev pub SameImagesHaveOneListing : Type 0
SameImagesHaveOneListing = (a b : Image) → IsSameImage a b → image_listing a ≡ image_listing b
