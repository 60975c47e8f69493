use Rattle.std.proofs.Common.{◌≡◌, length}
use Rattle.token_cursor.specs.Parsing.{many}
use Rattle.grammar_rules.specs.ReadNested.{comma}
use Rattle.grammar_rules.specs.ReadStatements.{nested, lefts_step}
use Rattle.grammar_expressions.proofs.nesting.Level.more_lefts.Given as goal

abbrev pub invariant-lefts : goal.invariant-lefts
invariant-lefts g l = many comma (lefts_step (nested l.self.depth)) l.fn.all l.fn.tokens.rest.now ≡ many comma (lefts_step (nested l.self.depth)) l.all l.tokens.rest.now

abbrev pub decreases-lefts : goal.decreases-lefts
decreases-lefts g l = length l.tokens.rest.now
