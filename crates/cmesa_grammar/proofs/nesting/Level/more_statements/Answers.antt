use Rattle.std.proofs.Common.{rules, arith}
use Rattle.std.proofs.lemmas.Grind.{common_steps}
use Rattle.token_cursor.proofs.Taking.{ended_falls}
use Rattle.cmesa_grammar.specs.ReadConfigs.{nested, semicolon, begins_statement, statements_step}
use Rattle.cmesa_grammar.proofs.Steps.{statements_eats}
use Rattle.cmesa_grammar.proofs.nesting.Level.more_statements.Goals as goal

pub statements-smaller : goal.statements-smaller
statements-smaller g c = ended_falls semicolon begins_statement (statements_step (nested c.args.self.now.depth)) (statements_eats c.args.self.now.depth) c.statements.all c.in_ok-all.all _ _ (first_of (search rules, grind (arith, common_steps)))
