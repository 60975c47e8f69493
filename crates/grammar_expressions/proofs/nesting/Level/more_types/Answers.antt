use Rattle.std.proofs.Common.{rules, arith}
use Rattle.std.proofs.lemmas.Grind.{common_steps}
use Rattle.grammar_rules.specs.ReadNested.{comma}
use Rattle.grammar_rules.specs.ReadExpressions.{types_step}
use Rattle.grammar_rules.specs.ReadStatements.{nested}
use Rattle.grammar_expressions.proofs.FieldLoops.{types_eats}
use Rattle.token_cursor.proofs.Taking.{many_falls}
use Rattle.grammar_expressions.proofs.nesting.Level.more_types.Goals as goal

pub types-smaller : goal.types-smaller
types-smaller g c = many_falls comma (types_step (nested c.args.self.now.depth)) (types_eats c.args.self.now.depth) c.types.all c.in_ok-all.all _ _ (first_of (search rules, grind (arith, common_steps)))
