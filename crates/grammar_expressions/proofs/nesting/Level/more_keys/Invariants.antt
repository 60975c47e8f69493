use Rattle.std.proofs.Common.{◌≡◌, length}
use Rattle.token_cursor.specs.Parsing.{many}
use Rattle.grammar_rules.specs.ReadNested.{comma}
use Rattle.grammar_rules.specs.ReadExpressions.{keys_step}
use Rattle.grammar_rules.specs.ReadStatements.{nested}
use Rattle.grammar_expressions.proofs.nesting.Level.more_keys.Given as goal

abbrev pub invariant-keys : goal.invariant-keys
invariant-keys g l = many comma (keys_step (nested l.self.depth)) l.fn.all l.fn.tokens.rest.now ≡ many comma (keys_step (nested l.self.depth)) l.all l.tokens.rest.now

abbrev pub decreases-keys : goal.decreases-keys
decreases-keys g l = length l.tokens.rest.now
