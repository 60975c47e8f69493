use Rattle.std.proofs.Common.{◌≡◌, map, take}
use Rattle.command_passes.specs.command_rules.specs.Planning.{base_at}
use Rattle.command_plans.proofs.report.bases_of.Given as goal

abbrev pub invariant-numbers : goal.invariant-numbers
invariant-numbers l = l.bases ≡ map (base_at l.texts) (take l.number-index l.numbers)
