use Rattle.std.proofs.Common.{◌≡◌, length}
use Rattle.token_cursor.specs.Parsing.{repeat}
use Rattle.grammar_rules.specs.ReadStatements.{nested}
use Rattle.grammar_rules.specs.ReadStatements.{head_turn}
use Rattle.grammar_statements.proofs.nesting.StatementParser.locals.Given as goal

abbrev pub invariant-locals : goal.invariant-locals
invariant-locals g l = repeat (head_turn (nested l.self.level.depth)) l.fn.all l.fn.tokens.rest.now ≡ repeat (head_turn (nested l.self.level.depth)) l.all l.tokens.rest.now

abbrev pub decreases-locals : goal.decreases-locals
decreases-locals g l = length l.tokens.rest.now
