use Rattle.std.proofs.Common.{◌≡◌, length}
use Rattle.token_cursor.specs.Parsing.{ended}
use Rattle.cmesa_grammar.specs.ReadConfigs.{nested, semicolon, begins_statement, statements_step}
use Rattle.cmesa_grammar.proofs.nesting.Level.more_statements.Given as goal

abbrev pub invariant-statements : goal.invariant-statements
invariant-statements g l = ended semicolon begins_statement (statements_step (nested l.self.depth)) l.fn.all l.fn.tokens.rest.now ≡ ended semicolon begins_statement (statements_step (nested l.self.depth)) l.all l.tokens.rest.now

abbrev pub decreases-statements : goal.decreases-statements
decreases-statements g l = length l.tokens.rest.now
