use Rattle.std.proofs.lemmas.Result.{err_from_is_err_and}
use Rattle.checked_texts.specs.Asked.{Program}
use Rattle.checked_texts.proofs.Passing.{refused_is}
use Rattle.checked_texts.proofs.checking.checked_program.Goals as goal

pub returns-in_err-checked-clause-fault : goal.returns-in_err-checked-clause-fault
returns-in_err-checked-clause-fault c = λ text h.
    let p = err_from_is_err_and c.from_residual.result c.from_residual.ensures.1 in
    rw p.1 (λ other. refused_is text Program c.args.interfaces.now c.args.tree.now _ p.0 h c.requires c.in_err-checked.ensures p.2 other)
