use Rattle.std.proofs.Common.{◌≡◌, length}
use Rattle.token_cursor.specs.Parsing.{many}
use Rattle.grammar_rules.specs.ReadNested.{comma}
use Rattle.grammar_rules.specs.ReadExpressions.{groups_step}
use Rattle.grammar_rules.specs.ReadStatements.{nested}
use Rattle.grammar_expressions.proofs.nesting.Level.more_groups.Given as goal

abbrev pub invariant-groups : goal.invariant-groups
invariant-groups g l = many comma (groups_step (nested l.self.depth)) l.fn.all l.fn.tokens.rest.now ≡ many comma (groups_step (nested l.self.depth)) l.all l.tokens.rest.now

abbrev pub decreases-groups : goal.decreases-groups
decreases-groups g l = length l.tokens.rest.now
