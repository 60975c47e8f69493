use Rattle.std.proofs.Common.{rules, arith}
use Rattle.std.proofs.lemmas.Grind.{common_steps}
use Rattle.grammar_rules.specs.ReadNested.{begins_repeat}
use Rattle.grammar_rules.specs.ReadStatements.{nested, semicolon, repeats_step}
use Rattle.grammar_rules.proofs.Parts.{repeats_eats}
use Rattle.token_cursor.proofs.Taking.{ended_falls}
use Rattle.grammar_statements.proofs.nesting.StatementParser.more_ends.Goals as goal

pub ends-smaller : goal.ends-smaller
ends-smaller g c = ended_falls semicolon begins_repeat (repeats_step (nested c.args.self.now.level.depth)) (repeats_eats c.args.self.now.level.depth) c.ends.all c.in_ok-all.all _ _ (first_of (search rules, grind (arith, common_steps)))
