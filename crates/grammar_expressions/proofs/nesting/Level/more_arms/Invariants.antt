use Rattle.std.proofs.Common.{◌≡◌, length}
use Rattle.token_cursor.specs.Parsing.{ended}
use Rattle.mesa_lexer.specs.declared.token.Kind.TheVariants as k
use Rattle.mesa_lexer.specs.declared.mark.Mark.TheVariants.{Semicolon}
use Rattle.grammar_rules.specs.ReadNested.{begins_arm}
use Rattle.grammar_rules.specs.ReadExpressions.{arms_step}
use Rattle.grammar_rules.specs.ReadStatements.{nested}
use Rattle.grammar_expressions.proofs.nesting.Level.more_arms.Given as goal

abbrev pub invariant-arms : goal.invariant-arms
invariant-arms g l = ended (k.Mark Semicolon) begins_arm (arms_step (nested l.self.depth)) l.fn.all l.fn.tokens.rest.now ≡ ended (k.Mark Semicolon) begins_arm (arms_step (nested l.self.depth)) l.all l.tokens.rest.now

abbrev pub decreases-arms : goal.decreases-arms
decreases-arms g l = length l.tokens.rest.now
