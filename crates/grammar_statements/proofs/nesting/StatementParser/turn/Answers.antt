use Rattle.std.proofs.Common.{rules, arith, ap, ◌∙◌}
use Rattle.std.proofs.lemmas.Grind.{common_steps}
use Rattle.token_cursor.specs.Running.{as_parts}
use Rattle.grammar_statements.proofs.Stepping.{head_named}
use Rattle.grammar_statements.proofs.nesting.StatementParser.turn.Goals as goal

pub returns-in-Ok-Some : goal.returns-in-Ok-Some
returns-in-Ok-Some g c = rw (head_named c.args.self.now.level.depth c.args.all c.args.tokens.now.rest.now c.takes_name.new.self.rest.now c.in-Ok-Some.first (first_of (search rules, grind (arith, common_steps))) (c.in-Ok-Some.ensures.found ∙ ap as_parts c.in-Ok-Some.field-0-is) c.in-Ok-Some.ensures.rest) c.named_turn.ensures
