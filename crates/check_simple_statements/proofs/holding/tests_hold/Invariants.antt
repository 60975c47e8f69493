use Rattle.std.proofs.Common.{◌≡◌, drop}
use Rattle.syntax_trees.specs.PlainSyntax.{tests}
use Rattle.check_rules.specs.Phrases.{in_tests}
use Rattle.check_simple_statements.proofs.holding.tests_hold.Given as goal

abbrev pub invariant-loop-test : goal.invariant-loop-test
invariant-loop-test l = in_tests (tests l.all) ≡ in_tests (tests (drop l.test-index l.all))
