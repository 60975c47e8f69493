use Rattle.std.proofs.Common.{◌≡◌, take}
use Rattle.config_templates.specs.Found.{names_imported}
use Rattle.config_templates.proofs.copies.imported.Given as goal

abbrev pub invariant-loop-one : goal.invariant-loop-one
invariant-loop-one l = l.names ≡ names_imported (take l.one-index l.imports)
