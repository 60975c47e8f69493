use Rattle.std.proofs.Common.{sym, ◌∙◌, subst}
use Rattle.std.proofs.lemmas.Result.{err_from_is_err_and}
use Rattle.syntax_trees.specs.PlainSyntax.{syntax}
use Rattle.module_checker.specs.check_state.specs.Gives.{GivesOnly}
use Rattle.checked_texts.specs.Asked.{before_files}
use Rattle.checked_texts.specs.Texts.{HasNoTree, no_tree}
use Rattle.checked_texts.proofs.Passing.{wrong_is}
use Rattle.checked_texts.proofs.beginning.begun.Goals as goal

pub returns-in_err-tree-clause-fault : goal.returns-in_err-tree-clause-fault
returns-in_err-tree-clause-fault c =
    let p = err_from_is_err_and c.from_residual.result c.from_residual.ensures.1 in
    rw p.1 (λ other. no_tree p.0 (subst (HasNoTree c.args.text.now) (sym p.2) (c.in_err-tree.ensures.fault (λ e. other (p.2 ∙ e)))))

pub returns-in_err-tree-2-clause-fault : goal.returns-in_err-tree-2-clause-fault
returns-in_err-tree-2-clause-fault c =
    let p = err_from_is_err_and c.from_residual-in_err-tree-2.result c.from_residual-in_err-tree-2.ensures.1 in
    let tree = c.in_ok-tree.tree in
    let gives = subst (GivesOnly (λ _. tt) (before_files c.args.purpose (syntax tree))) c.in_err-tree-2.ensures c.before_files-allowed.ensures in
    rw p.1 (λ other. wrong_is _ c.args.purpose tree _ p.0 c.in_ok-tree.ensures.tree gives p.2 other)
