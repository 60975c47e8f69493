use Rattle.std.proofs.Common.{arith}
use Rattle.grammar_rules.specs.ReadNested.{begins_expr, begins_stmt, begins_type}
use Rattle.grammar_rules.specs.ReadStatements.{nested}
use Rattle.mesa_grammar.proofs.Deeper.{deeper, too_deep_by}
use Rattle.mesa_grammar.proofs.parser.+nest.Goals as goal

pub stmt-returns-then-depth-eq0 : goal.stmt-returns-then-depth-eq0
unfolding nested
stmt-returns-then-depth-eq0 t c = λ other. rw c.if-depth-eq0.true (too_deep_by begins_stmt c.args.tokens.now.rest.now c.begins_stmt.result c.too_deep.result c.begins_stmt.ensures c.too_deep.ensures)

pub stmt-returns : goal.stmt-returns
unfolding nested
stmt-returns t c = rw (deeper (λ n. (nested n).stmt c.args.begun c.args.tokens.now.rest.now) c.args.depth (omega arith)) c.statement.ensures

pub expr-returns-then-depth-eq0 : goal.expr-returns-then-depth-eq0
unfolding nested
expr-returns-then-depth-eq0 t c = λ other. rw c.if-depth-eq0.true (too_deep_by begins_expr c.args.tokens.now.rest.now c.begins_expr.result c.too_deep.result c.begins_expr.ensures c.too_deep.ensures)

pub expr-returns : goal.expr-returns
unfolding nested
expr-returns t c = rw (deeper (λ n. (nested n).expr c.args.begun c.args.tokens.now.rest.now) c.args.depth (omega arith)) c.disj.ensures

pub type_exp-returns-then-depth-eq0 : goal.type_exp-returns-then-depth-eq0
unfolding nested
type_exp-returns-then-depth-eq0 t c = λ other. rw c.if-depth-eq0.true (too_deep_by begins_type c.args.tokens.now.rest.now c.begins_type.result c.too_deep.result c.begins_type.ensures c.too_deep.ensures)

pub type_exp-returns : goal.type_exp-returns
unfolding nested
type_exp-returns t c = rw (deeper (λ n. (nested n).type c.args.begun c.args.tokens.now.rest.now) c.args.depth (omega arith)) c.any_type.ensures
