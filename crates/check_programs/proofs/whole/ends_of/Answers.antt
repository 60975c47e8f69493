use Rattle.syntax_trees.specs.PlainSyntax as plain
use Rattle.check_state.specs.Views.{around, state}
use Rattle.check_programs.proofs.Endings.{giving}
use Rattle.check_statement_lists.specs.Views.{stmts}
use Rattle.check_programs.proofs.whole.ends_of.Goals as goal

pub returns : goal.returns
returns c =
    giving (around c.args.around.now) (around c.args.inside.now) (plain.inner c.args.inner.now) (stmts c.args.before) _ c.and_exits.result (state c.and_exits.new.state)
    (stmts c.in_ok-statements.statements) (state c.args.state.now) (state c.statements_behind.new.state)
    (rw c.as_slice-all.ensures at c.in_ok-statements.ensures) c.and_exits.ensures
