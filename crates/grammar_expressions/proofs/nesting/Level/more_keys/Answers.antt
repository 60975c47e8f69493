use Rattle.std.proofs.Common.{rules, arith}
use Rattle.std.proofs.lemmas.Grind.{common_steps}
use Rattle.grammar_rules.specs.ReadNested.{comma}
use Rattle.grammar_rules.specs.ReadExpressions.{keys_step}
use Rattle.grammar_rules.specs.ReadStatements.{nested}
use Rattle.grammar_rules.proofs.Parts.{keys_eats}
use Rattle.token_cursor.proofs.Taking.{many_falls}
use Rattle.grammar_expressions.proofs.nesting.Level.more_keys.Goals as goal

pub keys-smaller : goal.keys-smaller
keys-smaller g c = many_falls comma (keys_step (nested c.args.self.now.depth)) (keys_eats c.args.self.now.depth) c.keys.all c.in_ok-all.all _ _ (first_of (search rules, grind (arith, common_steps)))
