use Rattle.std.proofs.Common.{◌≡◌, length}
use Rattle.token_cursor.specs.Parsing.{many}
use Rattle.grammar_rules.specs.ReadNested.{comma}
use Rattle.grammar_rules.specs.ReadExpressions.{exprs_step}
use Rattle.grammar_rules.specs.ReadStatements.{nested}
use Rattle.grammar_expressions.proofs.nesting.Level.more_exprs.Given as goal

abbrev pub invariant-exprs : goal.invariant-exprs
invariant-exprs g l = many comma (exprs_step (nested l.self.depth)) l.fn.all l.fn.tokens.rest.now ≡ many comma (exprs_step (nested l.self.depth)) l.all l.tokens.rest.now

abbrev pub decreases-exprs : goal.decreases-exprs
decreases-exprs g l = length l.tokens.rest.now
