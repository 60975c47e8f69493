use Rattle.std.proofs.Common.{subst, sym}
use Rattle.syntax_trees.specs.PlainSyntax as plain
use Rattle.check_state.specs.Gives.{Gives}
use Rattle.check_state.specs.Views as view
use Rattle.check_statement_lists.specs.Turns as turns
use Rattle.check_statement_lists.specs.Views as views
use Rattle.check_statement_lists.proofs.ListLaws.{behind_none}
use Rattle.check_statement_lists.proofs.phrases.NestedChecker.statements.Goals as goal

pub returns : goal.returns
unfolding views.stmts
returns g c =
    rw (sym (behind_none (view.around c.args.around.now) (plain.statements c.args.all.now) (view.state c.args.state.now))) (
    subst (λ xs. Gives views.stmts (turns.statements_behind (view.around c.args.around.now) (views.stmts xs) (plain.statements c.args.all.now) (view.state c.args.state.now)) c.statements_behind.result (view.state c.statements_behind.new.state))
    c.new.ensures c.statements_behind.ensures)
