use Rattle.std.proofs.Common.{◌≡◌, length}
use Rattle.token_cursor.specs.Parsing.{ended}
use Rattle.grammar_rules.specs.ReadNested.{begins_test}
use Rattle.grammar_rules.specs.ReadStatements.{nested, semicolon, cases_step}
use Rattle.grammar_statements.proofs.nesting.StatementParser.more_cases.Given as goal

abbrev pub invariant-cases : goal.invariant-cases
invariant-cases g l = ended semicolon begins_test (cases_step (nested l.self.level.depth)) l.fn.all l.fn.tokens.rest.now ≡ ended semicolon begins_test (cases_step (nested l.self.level.depth)) l.all l.tokens.rest.now

abbrev pub decreases-cases : goal.decreases-cases
decreases-cases g l = length l.tokens.rest.now
