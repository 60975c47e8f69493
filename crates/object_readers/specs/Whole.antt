-- A file's version and its module, as the code holds them.
use Rattle.std.specs.Prelude.{ℕ}
use Rattle.object_readers.specs.Rows.{module_part}
use Rattle.held_objects.specs.declared.rows.ModuleRows.{ModuleRows}
use Rattle.object_rules.specs.Parts.{ModulePart}

abbrev pub versioned_part : ℕ × ModuleRows → ℕ × ModulePart
versioned_part p = (p.0, module_part p.1)
