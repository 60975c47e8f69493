use Rattle.std.proofs.lemmas.Result.{err_from_is_err_and}
use Rattle.checked_texts.proofs.Passing.{lexical_is, syntax_is}
use Rattle.checked_texts.proofs.beginning.tree_of.Goals as goal

pub returns-in_err-tokens-clause-fault : goal.returns-in_err-tokens-clause-fault
returns-in_err-tokens-clause-fault c =
    let p = err_from_is_err_and c.from_residual.result c.from_residual.ensures.1 in
    rw p.1 (λ other. lexical_is _ _ p.0 c.in_err-tokens.ensures.fault p.2 other)

pub returns-in_err-module-clause-fault : goal.returns-in_err-module-clause-fault
returns-in_err-module-clause-fault c =
    let p = err_from_is_err_and c.from_residual-in_err-module.result c.from_residual-in_err-module.ensures.1 in
    rw p.1 (λ other. syntax_is _ c.in_ok-tokens.tokens _ p.0 c.in_ok-tokens.ensures.ok c.in_err-module.ensures.fault p.2 other)
