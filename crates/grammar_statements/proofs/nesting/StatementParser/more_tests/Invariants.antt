use Rattle.std.proofs.Common.{◌≡◌, length}
use Rattle.token_cursor.specs.Parsing.{many}
use Rattle.grammar_rules.specs.ReadNested.{comma}
use Rattle.grammar_rules.specs.ReadStatements.{nested, tests_step}
use Rattle.grammar_statements.proofs.nesting.StatementParser.more_tests.Given as goal

abbrev pub invariant-tests : goal.invariant-tests
invariant-tests g l = many comma (tests_step (nested l.self.level.depth)) l.fn.all l.fn.tokens.rest.now ≡ many comma (tests_step (nested l.self.level.depth)) l.all l.tokens.rest.now

abbrev pub decreases-tests : goal.decreases-tests
decreases-tests g l = length l.tokens.rest.now
