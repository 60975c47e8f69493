use Rattle.std.proofs.Common.{rules, arith}
use Rattle.std.proofs.lemmas.Grind.{common_steps}
use Rattle.mesa_lexer.specs.declared.token.Kind.TheVariants as k
use Rattle.mesa_lexer.specs.declared.mark.Mark.TheVariants.{Semicolon}
use Rattle.grammar_rules.specs.ReadNested.{begins_arm}
use Rattle.grammar_rules.specs.ReadExpressions.{arms_step}
use Rattle.grammar_rules.specs.ReadStatements.{nested}
use Rattle.grammar_rules.proofs.Parts.{arms_eats}
use Rattle.token_cursor.proofs.Taking.{ended_falls}
use Rattle.grammar_expressions.proofs.nesting.Level.more_arms.Goals as goal

pub arms-smaller : goal.arms-smaller
arms-smaller g c = ended_falls (k.Mark Semicolon) begins_arm (arms_step (nested c.args.self.now.depth)) (arms_eats c.args.self.now.depth) c.arms.all c.in_ok-all.all _ _ (first_of (search rules, grind (arith, common_steps)))
