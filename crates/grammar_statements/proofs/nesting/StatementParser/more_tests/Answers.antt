use Rattle.std.proofs.Common.{rules, arith}
use Rattle.std.proofs.lemmas.Grind.{common_steps}
use Rattle.grammar_rules.specs.ReadNested.{comma}
use Rattle.grammar_rules.specs.ReadStatements.{nested, tests_step}
use Rattle.grammar_rules.proofs.Parts.{tests_eats}
use Rattle.token_cursor.proofs.Taking.{many_falls}
use Rattle.grammar_statements.proofs.nesting.StatementParser.more_tests.Goals as goal

pub tests-smaller : goal.tests-smaller
tests-smaller g c = many_falls comma (tests_step (nested c.args.self.now.level.depth)) (tests_eats c.args.self.now.level.depth) c.tests.all c.in_ok-all.all _ _ (first_of (search rules, grind (arith, common_steps)))
