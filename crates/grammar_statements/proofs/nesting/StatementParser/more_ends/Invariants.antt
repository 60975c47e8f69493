use Rattle.std.proofs.Common.{◌≡◌, length}
use Rattle.token_cursor.specs.Parsing.{ended}
use Rattle.grammar_rules.specs.ReadNested.{begins_repeat}
use Rattle.grammar_rules.specs.ReadStatements.{nested, semicolon, repeats_step}
use Rattle.grammar_statements.proofs.nesting.StatementParser.more_ends.Given as goal

abbrev pub invariant-ends : goal.invariant-ends
invariant-ends g l = ended semicolon begins_repeat (repeats_step (nested l.self.level.depth)) l.fn.all l.fn.tokens.rest.now ≡ ended semicolon begins_repeat (repeats_step (nested l.self.level.depth)) l.all l.tokens.rest.now

abbrev pub decreases-ends : goal.decreases-ends
decreases-ends g l = length l.tokens.rest.now
