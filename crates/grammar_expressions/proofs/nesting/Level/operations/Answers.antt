use Rattle.std.proofs.Common.{rules, arith, ◌∙◌}
use Rattle.std.proofs.lemmas.Grind.{common_steps}
use Rattle.grammar_expressions.specs.Runs.{operations}
use Rattle.grammar_expressions.proofs.RunTurns.{run_turn}
use Rattle.token_cursor.proofs.Taking.{many_falls}
use Rattle.grammar_expressions.proofs.nesting.Level.operations.Goals as goal

pub operators-smaller : goal.operators-smaller
operators-smaller g c = many_falls g.R.Rank.operators (operations (g.R.Rank.operand_at c.args.self.now.depth)) (g.met.R.Rank.eats c.args.self.now.depth) c.operators.all c.in_ok-all.all _ _ (first_of (search rules, grind (arith, common_steps)))

pub operators-preserved : goal.operators-preserved
operators-preserved g c = c.operators.invariant ∙ run_turn g.R.Rank.operators (g.R.Rank.operand_at c.args.self.now.depth) (g.met.R.Rank.eats c.args.self.now.depth)
    c.operators.all c.in_ok-held.held c.in_ok-all.all c.operators.tokens.rest.now c.takes_operator.new.tokens.rest.now c.operand.new.tokens.rest.now c.in-Some.operator c.in-Some.place c.in_ok-held.right c.operand.result
    (search rules) (search rules) (search rules) (search rules) (search rules) (search rules)
