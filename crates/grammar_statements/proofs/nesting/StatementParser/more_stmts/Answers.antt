use Rattle.std.proofs.Common.{rules, arith}
use Rattle.std.proofs.lemmas.Grind.{common_steps}
use Rattle.grammar_rules.specs.ReadNested.{begins_stmt}
use Rattle.grammar_rules.specs.ReadStatements.{nested, semicolon, stmts_step}
use Rattle.grammar_rules.proofs.Parts.{stmts_eats}
use Rattle.token_cursor.proofs.Taking.{ended_falls}
use Rattle.grammar_statements.proofs.nesting.StatementParser.more_stmts.Goals as goal

pub statements-smaller : goal.statements-smaller
statements-smaller g c = ended_falls semicolon begins_stmt (stmts_step (nested c.args.self.now.level.depth)) (stmts_eats c.args.self.now.level.depth) c.statements.all c.in_ok-all.all _ _ (first_of (search rules, grind (arith, common_steps)))
