-- The law of listings.
use Rattle.std.specs.Prelude.{◌≡◌}
use Rattle.code_forms.specs.Same.{IsSameCode}
use Rattle.object_files.specs.declared.object.Object.{Object}
use Rattle.listing_rules.specs.Objects.{object_listing}

-- objects with equal shapes, and codes that are the same, depths of instructions aside, have one listing
abbrev pub SameObjectsHaveOneListing : Type 0
SameObjectsHaveOneListing = (a b : Object) → a.shape ≡ b.shape → IsSameCode a.code b.code → object_listing a ≡ object_listing b
