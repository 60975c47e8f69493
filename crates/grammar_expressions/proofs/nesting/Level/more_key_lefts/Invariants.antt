use Rattle.std.proofs.Common.{◌≡◌, length}
use Rattle.token_cursor.specs.Parsing.{many}
use Rattle.grammar_rules.specs.ReadNested.{comma}
use Rattle.grammar_rules.specs.ReadStatements.{nested, key_lefts_step}
use Rattle.grammar_expressions.proofs.nesting.Level.more_key_lefts.Given as goal

abbrev pub invariant-key_lefts : goal.invariant-key_lefts
invariant-key_lefts g l = many comma (key_lefts_step (nested l.self.depth)) l.fn.all l.fn.tokens.rest.now ≡ many comma (key_lefts_step (nested l.self.depth)) l.all l.tokens.rest.now

abbrev pub decreases-key_lefts : goal.decreases-key_lefts
decreases-key_lefts g l = length l.tokens.rest.now
