use Rattle.std.proofs.Common.{rules, arith}
use Rattle.std.proofs.lemmas.Grind.{common_steps}
use Rattle.grammar_rules.specs.ReadNested.{comma}
use Rattle.grammar_rules.specs.ReadExpressions.{groups_step}
use Rattle.grammar_rules.specs.ReadStatements.{nested}
use Rattle.grammar_rules.proofs.Parts.{groups_eats}
use Rattle.token_cursor.proofs.Taking.{many_falls}
use Rattle.grammar_expressions.proofs.nesting.Level.more_groups.Goals as goal

pub groups-smaller : goal.groups-smaller
groups-smaller g c = many_falls comma (groups_step (nested c.args.self.now.depth)) (groups_eats c.args.self.now.depth) c.groups.all c.in_ok-all.all _ _ (first_of (search rules, grind (arith, common_steps)))
