use Rattle.std.proofs.Common.{rules, arith}
use Rattle.std.proofs.lemmas.Grind.{common_steps}
use Rattle.grammar_rules.specs.ReadStatements.{nested, semicolon, begins_label, exits_step}
use Rattle.grammar_rules.proofs.Parts.{exits_eats}
use Rattle.token_cursor.proofs.Taking.{ended_falls}
use Rattle.grammar_statements.proofs.nesting.StatementParser.more_exits.Goals as goal

pub exits-smaller : goal.exits-smaller
exits-smaller g c = ended_falls semicolon begins_label (exits_step (nested c.args.self.now.level.depth)) (exits_eats c.args.self.now.level.depth) c.exits.all c.in_ok-all.all _ _ (first_of (search rules, grind (arith, common_steps)))
