use Rattle.std.proofs.Common.{◌≡◌, length}
use Rattle.token_cursor.specs.Parsing.{many}
use Rattle.grammar_expressions.specs.Runs.{operations}
use Rattle.grammar_expressions.proofs.nesting.Level.operations.Given as goal

abbrev pub invariant-operators : goal.invariant-operators
invariant-operators g l = many g.R.Rank.operators (operations (g.R.Rank.operand_at l.self.depth)) l.fn.all l.fn.tokens.rest.now
    ≡ many g.R.Rank.operators (operations (g.R.Rank.operand_at l.self.depth)) l.all l.tokens.rest.now

abbrev pub decreases-operators : goal.decreases-operators
decreases-operators g l = length l.tokens.rest.now
