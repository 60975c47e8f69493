use Rattle.std.proofs.Common.{◌≡◌, take}
use Rattle.config_rules.specs.Components.{names_of}
use Rattle.config_templates.proofs.copies.names_in.Given as goal

abbrev pub invariant-loop-one : goal.invariant-loop-one
invariant-loop-one l = l.names ≡ names_of (take l.one-index l.list)
