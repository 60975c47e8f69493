use Rattle.std.proofs.Common.{◌≡◌, length}
use Rattle.token_cursor.specs.Parsing.{ended}
use Rattle.grammar_rules.specs.ReadStatements.{nested, semicolon, begins_label, exits_step}
use Rattle.grammar_statements.proofs.nesting.StatementParser.more_exits.Given as goal

abbrev pub invariant-exits : goal.invariant-exits
invariant-exits g l = ended semicolon begins_label (exits_step (nested l.self.level.depth)) l.fn.all l.fn.tokens.rest.now ≡ ended semicolon begins_label (exits_step (nested l.self.level.depth)) l.all l.tokens.rest.now

abbrev pub decreases-exits : goal.decreases-exits
decreases-exits g l = length l.tokens.rest.now
