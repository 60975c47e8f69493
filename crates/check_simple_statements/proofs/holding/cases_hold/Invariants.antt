use Rattle.std.proofs.Common.{◌≡◌, drop}
use Rattle.syntax_trees.specs.PlainSyntax.{cases}
use Rattle.check_rules.specs.Phrases.{in_cases}
use Rattle.check_simple_statements.proofs.holding.cases_hold.Given as goal

abbrev pub invariant-loop-case : goal.invariant-loop-case
invariant-loop-case l = in_cases (cases l.all) ≡ in_cases (cases (drop l.case-index l.all))
