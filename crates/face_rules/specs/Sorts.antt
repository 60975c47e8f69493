-- Which types may stand at a place.
use Rattle.std.specs.Prelude.{ℕ, Bool}
use Rattle.face_rules.specs.declared.sort.Sort.{Sort}
use Rattle.face_rules.specs.declared.sort.Sort.TheVariants as sort
use Rattle.face_rules.specs.TypeForms.{any, is_base, is_index, is_of_constants}

abbrev pub takes : Sort → ℕ → Bool
takes sort.Any = any
takes sort.Base = is_base
takes sort.Index = is_index
takes sort.OfConstant = is_of_constants
