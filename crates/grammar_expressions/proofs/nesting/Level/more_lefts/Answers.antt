use Rattle.std.proofs.Common.{rules, arith}
use Rattle.std.proofs.lemmas.Grind.{common_steps}
use Rattle.grammar_rules.specs.ReadNested.{comma}
use Rattle.grammar_rules.specs.ReadStatements.{nested, lefts_step}
use Rattle.grammar_rules.proofs.Parts.{lefts_eats}
use Rattle.token_cursor.proofs.Taking.{many_falls}
use Rattle.grammar_expressions.proofs.nesting.Level.more_lefts.Goals as goal

pub lefts-smaller : goal.lefts-smaller
lefts-smaller g c = many_falls comma (lefts_step (nested c.args.self.now.depth)) (lefts_eats c.args.self.now.depth) c.lefts.all c.in_ok-all.all _ _ (first_of (search rules, grind (arith, common_steps)))
