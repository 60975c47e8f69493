use Rattle.std.proofs.Common.{rules, arith}
use Rattle.std.proofs.lemmas.Grind.{common_steps}
use Rattle.grammar_rules.specs.ReadNested.{comma}
use Rattle.grammar_rules.specs.ReadStatements.{nested, key_lefts_step}
use Rattle.grammar_rules.proofs.Parts.{key_lefts_eats}
use Rattle.token_cursor.proofs.Taking.{many_falls}
use Rattle.grammar_expressions.proofs.nesting.Level.more_key_lefts.Goals as goal

pub key_lefts-smaller : goal.key_lefts-smaller
key_lefts-smaller g c = many_falls comma (key_lefts_step (nested c.args.self.now.depth)) (key_lefts_eats c.args.self.now.depth) c.key_lefts.all c.in_ok-all.all _ _ (first_of (search rules, grind (arith, common_steps)))
