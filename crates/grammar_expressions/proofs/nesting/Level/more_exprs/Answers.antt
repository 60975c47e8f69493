use Rattle.std.proofs.Common.{rules, arith}
use Rattle.std.proofs.lemmas.Grind.{common_steps}
use Rattle.grammar_rules.specs.ReadNested.{comma}
use Rattle.grammar_rules.specs.ReadExpressions.{exprs_step}
use Rattle.grammar_rules.specs.ReadStatements.{nested}
use Rattle.grammar_rules.proofs.Parts.{exprs_eats}
use Rattle.token_cursor.proofs.Taking.{many_falls}
use Rattle.grammar_expressions.proofs.nesting.Level.more_exprs.Goals as goal

pub exprs-smaller : goal.exprs-smaller
exprs-smaller g c = many_falls comma (exprs_step (nested c.args.self.now.depth)) (exprs_eats c.args.self.now.depth) c.exprs.all c.in_ok-all.all _ _ (first_of (search rules, grind (arith, common_steps)))
