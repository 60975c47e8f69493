use Rattle.std.proofs.Common.{◌≡◌, length}
use Rattle.token_cursor.specs.Parsing.{many}
use Rattle.grammar_rules.specs.ReadExpressions.{suffixes_step, suffixing}
use Rattle.grammar_rules.specs.ReadStatements.{nested}
use Rattle.grammar_expressions.proofs.nesting.Level.more_suffixes.Given as goal

abbrev pub invariant-suffixes : goal.invariant-suffixes
invariant-suffixes g l = many suffixing (suffixes_step (nested l.self.depth)) l.fn.all l.fn.tokens.rest.now ≡ many suffixing (suffixes_step (nested l.self.depth)) l.all l.tokens.rest.now

abbrev pub decreases-suffixes : goal.decreases-suffixes
decreases-suffixes g l = length l.tokens.rest.now
