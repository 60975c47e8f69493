use Rattle.std.proofs.Common.{◌≡◌, length}
use Rattle.token_cursor.specs.Parsing.{many}
use Rattle.grammar_rules.specs.ReadNested.{comma}
use Rattle.grammar_rules.specs.ReadExpressions.{types_step}
use Rattle.grammar_rules.specs.ReadStatements.{nested}
use Rattle.grammar_expressions.proofs.nesting.Level.more_types.Given as goal

abbrev pub invariant-types : goal.invariant-types
invariant-types g l = many comma (types_step (nested l.self.depth)) l.fn.all l.fn.tokens.rest.now ≡ many comma (types_step (nested l.self.depth)) l.all l.tokens.rest.now

abbrev pub decreases-types : goal.decreases-types
decreases-types g l = length l.tokens.rest.now
