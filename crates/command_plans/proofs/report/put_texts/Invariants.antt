use Rattle.std.proofs.Common.{◌≡◌, ◌++◌, flat_map, take}
use Rattle.command_passes.specs.command_rules.specs.Planning.{base_at, line}
use Rattle.command_plans.proofs.report.put_texts.Given as goal

abbrev pub invariant-numbers : goal.invariant-numbers
invariant-numbers l = l.out ≡ l.fn.out ++ flat_map (λ k. line l.word (base_at l.texts k)) (take l.number-index l.numbers)
