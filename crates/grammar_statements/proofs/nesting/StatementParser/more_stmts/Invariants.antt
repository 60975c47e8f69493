use Rattle.std.proofs.Common.{◌≡◌, length}
use Rattle.token_cursor.specs.Parsing.{ended}
use Rattle.grammar_rules.specs.ReadNested.{begins_stmt}
use Rattle.grammar_rules.specs.ReadStatements.{nested, semicolon, stmts_step}
use Rattle.grammar_statements.proofs.nesting.StatementParser.more_stmts.Given as goal

abbrev pub invariant-statements : goal.invariant-statements
invariant-statements g l = ended semicolon begins_stmt (stmts_step (nested l.self.level.depth)) l.fn.all l.fn.tokens.rest.now ≡ ended semicolon begins_stmt (stmts_step (nested l.self.level.depth)) l.all l.tokens.rest.now

abbrev pub decreases-statements : goal.decreases-statements
decreases-statements g l = length l.tokens.rest.now
