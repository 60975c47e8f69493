use Rattle.std.proofs.Common.{◌≡◌, ◌++◌, flat_map, take}
use Rattle.command_passes.specs.command_rules.specs.Planning.{line}
use Rattle.command_plans.proofs.report.put_names.Given as goal

abbrev pub invariant-names : goal.invariant-names
invariant-names l = l.out ≡ l.fn.out ++ flat_map (line l.word) (take l.name-index l.names)
