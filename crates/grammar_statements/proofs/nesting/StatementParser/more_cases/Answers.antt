use Rattle.std.proofs.Common.{rules, arith}
use Rattle.std.proofs.lemmas.Grind.{common_steps}
use Rattle.grammar_rules.specs.ReadNested.{begins_test}
use Rattle.grammar_rules.specs.ReadStatements.{nested, semicolon, cases_step}
use Rattle.grammar_rules.proofs.Parts.{cases_eats}
use Rattle.token_cursor.proofs.Taking.{ended_falls}
use Rattle.grammar_statements.proofs.nesting.StatementParser.more_cases.Goals as goal

pub cases-smaller : goal.cases-smaller
cases-smaller g c = ended_falls semicolon begins_test (cases_step (nested c.args.self.now.level.depth)) (cases_eats c.args.self.now.level.depth) c.cases.all c.in_ok-all.all _ _ (first_of (search rules, grind (arith, common_steps)))
