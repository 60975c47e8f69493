-- A file's version and its image, as the code holds them.
use Rattle.std.specs.Prelude.{ℕ}
use Rattle.image_readers.specs.Rows.{image_part}
use Rattle.image_readers.specs.declared.image_rows.ImageRows.{ImageRows}
use Rattle.object_rules.specs.ImageForms.{ImagePart}

abbrev pub versioned_part : ℕ × ImageRows → ℕ × ImagePart
versioned_part p = (p.0, image_part p.1)
