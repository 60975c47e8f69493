use Rattle.std.proofs.Common.{◌≡◌, take}
use Rattle.config_templates.specs.Found.{names_exported}
use Rattle.config_templates.proofs.copies.exported.Given as goal

abbrev pub invariant-loop-one : goal.invariant-loop-one
invariant-loop-one l = l.names ≡ names_exported (take l.one-index l.exports)
